-- The invariant: writing the rest from entry i on gives the wanted store. The measure is the number of bytes left.
-- Assumes room for the entries.
use Prim.Native.Nat.{◌-◌}
use lib.ListN.{length}
use Rattle.decode.proofs.DecodeLaws.{WrittenSoFar}
use Rattle.decode.proofs.write_all.Given as goal

abbrev pub invariant-loop-a : goal.invariant-loop-a
invariant-loop-a l = WrittenSoFar l.bytes l.initial.store l.store l.at l.i

abbrev pub decreases-loop-a : goal.decreases-loop-a
decreases-loop-a l = length l.bytes - l.at
