-- A step that is not refused, as numbers: the end crosses as opcode 0, which no annotation has.
use Rattle.std.specs.Prelude.{ℕ, ℤ, pos}
use Rattle.numbers.specs.Number.{flag}
use Rattle.annotations.specs.Step.{Stepped, annotation, end}

unfoldable pub opcode_of : Stepped → ℕ
opcode_of (annotation x) = x.triple.opcode
opcode_of (end place) = 0

unfoldable pub first_of : Stepped → ℤ
first_of (annotation x) = x.triple.first
first_of (end place) = pos 0

unfoldable pub second_of : Stepped → ℤ
second_of (annotation x) = x.triple.second
second_of (end place) = pos 0

unfoldable pub shortest_of : Stepped → ℕ
shortest_of (annotation x) = flag x.shortest
shortest_of (end place) = 0

unfoldable pub next_of : Stepped → ℕ
next_of (annotation x) = x.next
next_of (end place) = place
