-- A byte of a paged object is in one of the object's pages; and so is a word, which does not cross a page. No page that
-- passed its check is page 0.
use mathlib.Core.Path.{◌≡◌}
use mathlib.Core.Bool.{true}
use Prim.Native.Nat.{ℕ, zero, suc, ◌*◌, ◌/◌, ◌≤◌, ◌<◌}
use native.Mathlib.Omega.{arith}
use native.Mathlib.Nat.{mod-lt, mul-le-mul}
use Rattle.std.specs.Prelude.{Ok}
use Rattle.outcome.proofs.EachLaws.{each_passed}
use Rattle.paged.specs.PageSize.{PageSize}
use Rattle.paged.specs.Pages.{through}
use Rattle.paged.specs.Checks.{page_fits, check_pages}
use Rattle.paged.proofs.SizeLaws.{word_in_page}
use Rattle.isolation.specs.Listed.{InWord}
use Rattle.isolation.specs.NamedExactly.{InPages}

module _ (p : ℕ) (page : ℕ → ℕ) (n : ℕ) where
  pub byte_in_pages : 0 < p → (j : ℕ) → j / p < n → InPages p page n (through p page j)
  byte_in_pages h j l =
      let m = mod-lt j h in
      record { index = j / p; below = l; from = omega arith; to = omega arith }

  pub word_in_pages : PageSize p → (j : ℕ) → 4 * j / p < n → (i : ℕ) → InWord (through p page (4 * j)) i → InPages p page n i
  word_in_pages s j l i w =
      let m = word_in_page p j s in
      record { index = 4 * j / p; below = l; from = omega (arith, w.0); to = omega (arith, w.1) }

-- a page number that fits is not 0
fits_positive : (used n : ℕ) → page_fits used n ≡ true → 0 < n
unfolding page_fits
fits_positive used zero e = absurd (let z : ◌≡◌ {A = ℕ} 0 1 = cc in omega arith)
fits_positive used (suc n) e = omega arith

pub past_page_zero : (used p : ℕ) (page : ℕ → ℕ) (n : ℕ) → check_pages used page n ≡ Ok tt → (i : ℕ) → InPages p page n i → p ≤ i
past_page_zero used p page n e i x =
    let q = fits_positive used (page x.index) (each_passed _ _ n e x.index x.below) in
    let m : 1 * p ≤ page x.index * p = mul-le-mul q (omega arith) in
    omega (arith, x.from)
