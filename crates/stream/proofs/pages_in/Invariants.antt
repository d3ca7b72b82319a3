-- The invariant: the pages of the first j sizes are summed, at most 2^24 each.
-- Assumes a page size that passes, at most 2^32 sizes, and that they lie in the file.
use Rattle.parse_buffer.specs.Bytes.{byte_at}
use Rattle.stream.specs.Inner.{Within}
use Rattle.stream.proofs.pages_in.Given as goal

abbrev pub invariant-loop-j : goal.invariant-loop-j
invariant-loop-j l = Within (byte_at l.file) l.size l.at l.j l.pages
