-- The pages of so many streams.
use Rattle.std.proofs.Common.{◌≡◌}
use Rattle.container_layout.specs.Layout.{pages_up_to}
use Rattle.container_layout.proofs.layout.stream_pages.Given as goal

abbrev pub invariant-loop-size : goal.invariant-loop-size
invariant-loop-size l = l.pages ≡ pages_up_to l.pagesize l.sizes l.size-index
