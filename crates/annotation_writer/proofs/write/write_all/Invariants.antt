-- The invariant: the bytes of the first k records are put.
-- Assumes that each record can be written, and room for the bytes.
use Rattle.annotation_writer.proofs.WriteLaws.{WrittenSoFar}
use Rattle.annotation_writer.proofs.write.write_all.Given as goal

abbrev pub invariant-loop-k : goal.invariant-loop-k
invariant-loop-k l = WrittenSoFar l.records l.initial.out l.out l.k l.at
