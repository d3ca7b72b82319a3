-- The invariant: the first k records can be written, and take `total` bytes.
-- Assumes nothing.
use Rattle.annotation_writer.proofs.WriteLaws.{MeasuredSoFar}
use Rattle.annotation_writer.proofs.write.measure.Given as goal

abbrev pub invariant-loop-k : goal.invariant-loop-k
invariant-loop-k l = MeasuredSoFar l.records l.k l.total
