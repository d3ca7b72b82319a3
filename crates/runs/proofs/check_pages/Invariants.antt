-- The invariant: the first i page numbers passed. The measure is what is left of them; a run has at least one.
-- Assumes a page size that passes, indices of 32 bits, and entries that lie in the file.
use mathlib.Core.Path.{◌≡◌}
use Prim.Native.Nat.{◌-◌, ◌≤◌}
use Rattle.std.specs.Prelude.{Ok}
use Rattle.parse_buffer.specs.Bytes.{byte_at}
use Rattle.paged.specs.Checks.{check_pages}
use Rattle.paged.specs.Pages.{page_of}
use Rattle.runs.proofs.check_pages.Given as goal

abbrev pub invariant-loop-i : goal.invariant-loop-i
invariant-loop-i l = (l.i ≤ l.n) × (check_pages l.used (page_of (byte_at l.file) l.size l.pages) l.i ≡ Ok tt)

abbrev pub decreases-loop-i : goal.decreases-loop-i
decreases-loop-i l = l.n - l.i
