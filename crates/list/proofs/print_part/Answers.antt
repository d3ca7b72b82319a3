-- What is written is within the buffer, by the promise of `list`.
use Rattle.listing.proofs.ListLaws.{part_within, part_count}
use Rattle.list.proofs.print_part.Goals as goal

pub slice_bounds-write_all-end : goal.slice_bounds-write_all-end
slice_bounds-write_all-end c = part_within c.list.ensures c.in-Ok.is

pub slice_bounds-write_all-end-in-Ok : goal.slice_bounds-write_all-end-in-Ok
slice_bounds-write_all-end-in-Ok c = part_count c.list.ensures c.in-Ok.is
