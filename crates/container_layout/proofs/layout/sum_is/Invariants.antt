-- What is left of the input, after so many streams.
use Rattle.std.proofs.Common.{◌≡◌, ◌+◌}
use Rattle.container_layout.specs.Layout.{bytes_up_to}
use Rattle.container_layout.proofs.layout.sum_is.Given as goal

abbrev pub invariant-loop-size : goal.invariant-loop-size
invariant-loop-size l = bytes_up_to l.sizes l.size-index + l.left ≡ l.given
