-- The map pages before, the bytes, and zeros to the end of their last page.
use Rattle.container_parts.proofs.StreamLaws.{run_tail, run_written}
use Rattle.container_parts.proofs.write_run.Goals as goal

pub put_zeros-requires : goal.put_zeros-requires
put_zeros-requires c = search run_tail

pub returns : goal.returns
returns c = search run_written
