-- The invariant: x bytes of the page are put.
use Rattle.container_pages.proofs.MapLaws.{MapSoFar}
use Rattle.container_pages.proofs.maps.put_map.Given as goal

abbrev pub invariant-loop-x : goal.invariant-loop-x
invariant-loop-x l = MapSoFar l.layout l.q l.at l.initial.out l.out l.x
