-- A page number that is not 0 passes where it is below pages_used.
use mathlib.Core.Path.{◌≡◌}
use Prim.Native.Nat.{ℕ}
use borrow.Author.Tests.{ne_eqb}
use lib.Dec.{ltb}
use Rattle.paged.specs.Checks.{page_fits}

pub fits_by : (used page : ℕ) → (page ≡ 0 → ⊥) → ltb page used ≡ page_fits used page
unfolding page_fits
fits_by used page z = rw (ne_eqb page 0 z)
