-- The invariant: i bytes of the stream are written. The measure is how many are left.
use Prim.Native.Nat.{◌-◌}
use lib.ListN.{length}
use Rattle.container_parts.proofs.StreamLaws.{StreamSoFar}
use Rattle.container_parts.proofs.write_stream.Given as goal

abbrev pub invariant-loop-i : goal.invariant-loop-i
invariant-loop-i l = StreamSoFar l.layout l.first l.stream l.initial.out l.out l.i l.r

abbrev pub decreases-loop-i : goal.decreases-loop-i
decreases-loop-i l = length l.stream - l.i
