use native.Mathlib.Omega.{arith}
use Rattle.annotation_writer.proofs.WriteLaws.{measure_more}
use Rattle.annotation_writer.proofs.write.measure.Goals as goal

pub loop-k-preserved : goal.loop-k-preserved
loop-k-preserved c = measure_more c.loop-k.invariant (omega arith) (rw c.in-Some.is at c.width_at.ensures)
