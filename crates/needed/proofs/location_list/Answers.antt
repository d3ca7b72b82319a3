-- A located container has at most 1,011 location pages, whose numbers are in the header block. Assumes nothing.
use Rattle.needed.proofs.NeededLaws.{list_part}
use Rattle.needed.proofs.location_list.Goals as goal

pub returns : goal.returns
returns c = list_part c.in_ok-h.ensures.answer c.pages_needed_to_store-named.ensures c.pages_needed_to_store-pages.ensures
