-- The invariant: n annotations are counted, and the rest follow from `at`. The measure is the number of bytes left,
-- which each annotation lowers. Assumes nothing.
use Prim.Native.Nat.{◌-◌}
use lib.ListN.{length}
use Rattle.decode.proofs.DecodeLaws.{CountedSoFar}
use Rattle.decode.proofs.count_all.Given as goal

abbrev pub invariant-loop-a : goal.invariant-loop-a
invariant-loop-a l = CountedSoFar l.bytes l.at l.n

abbrev pub decreases-loop-a : goal.decreases-loop-a
decreases-loop-a l = length l.bytes - l.at
