-- The invariant: j pages are written.
use Rattle.container_parts.proofs.PartLaws.{PagesSoFar}
use Rattle.container_parts.proofs.write_numbers.Given as goal

abbrev pub invariant-loop-j : goal.invariant-loop-j
invariant-loop-j g l = PagesSoFar l.planned.layout l.first l.pages (g.N.Numbers.list l.numbers) l.initial.out l.out l.j
