-- The invariant: the pages of the first i streams are summed. The measure is what is left of k; a run has at least one size.
-- Assumes a page size that passes, a stream number of 32 bits, and sizes that lie in the file.
use Prim.Native.Nat.{◌≤◌, ◌-◌}
use Rattle.parse_buffer.specs.Bytes.{byte_at}
use Rattle.stream.specs.Inner.{Before}
use Rattle.stream.proofs.pages_before.Given as goal

abbrev pub invariant-loop-i : goal.invariant-loop-i
invariant-loop-i l = (l.i ≤ l.k) × Before (byte_at l.file) l.size l.i l.before

abbrev pub decreases-loop-i : goal.decreases-loop-i
decreases-loop-i l = l.k - l.i
