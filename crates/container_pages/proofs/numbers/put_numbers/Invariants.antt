-- The invariant: j numbers are put.
use Rattle.container_pages.proofs.NumberLaws.{NumbersSoFar}
use Rattle.container_pages.proofs.numbers.put_numbers.Given as goal

abbrev pub invariant-loop-j : goal.invariant-loop-j
invariant-loop-j g l = NumbersSoFar (g.N.Numbers.list l.numbers) l.first l.n l.at l.initial.out l.out l.j l.place
