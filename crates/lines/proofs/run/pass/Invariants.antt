-- The invariant: after i annotations n records are closed, and running the rest gives those that are left. The measure is
-- the number of bytes left. Assumes nothing.
use Prim.Native.Nat.{◌-◌}
use lib.ListN.{length}
use Rattle.lines.proofs.PassLaws.{Passed}
use Rattle.lines.proofs.run.pass.Given as goal

abbrev pub invariant-loop-a : goal.invariant-loop-a
invariant-loop-a l = Passed l.bytes l.initial.store l.store l.state l.at l.i l.n

abbrev pub decreases-loop-a : goal.decreases-loop-a
decreases-loop-a l = length l.bytes - l.at
