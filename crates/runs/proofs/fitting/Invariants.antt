-- The invariant: the first j words pass.
-- Assumes that the words lie in the file.
use Rattle.parse_buffer.specs.Bytes.{byte_at}
use Rattle.runs.proofs.CheckLaws.{Fit}
use Rattle.runs.proofs.fitting.Given as goal

abbrev pub invariant-loop-j : goal.invariant-loop-j
invariant-loop-j l = Fit (byte_at l.file) l.at l.used l.j
