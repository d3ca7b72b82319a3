-- The invariant: the first m words go up by one.
-- Assumes one word at least, and that all lie in the file.
use Rattle.parse_buffer.specs.Bytes.{byte_at}
use Rattle.runs.proofs.StretchLaws.{Risen}
use Rattle.runs.proofs.stretch.rising.Given as goal

abbrev pub invariant-loop-m : goal.invariant-loop-m
invariant-loop-m l = Risen (byte_at l.file) l.at l.m l.first
