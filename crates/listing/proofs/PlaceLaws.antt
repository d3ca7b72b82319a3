-- The line at a place, and the place of a line.
use mathlib.Core.Path.{◌≡◌, refl}
use Prim.Native.Nat.{ℕ, zero, suc, ◌+◌, ◌-◌, min, ◌≤◌, ◌<◌}
use native.Mathlib.Omega.{arith}
use borrow.Author.Tests.{lt-ltb, le-ltb}
use Rattle.paged.specs.declared.refusal.StreamNumber.{StreamNumber}
use Rattle.listing.specs.Listing.{line_of, place_of}
use Rattle.listing.specs.declared.place.Place.{Place}
use Rattle.listing.specs.declared.place.Place.TheVariants.{Head, Stream, End}

-- ---- `line_of`
module _ (n : ℕ) {place : Place} where
  pub line_head : place ≡ Head → 0 ≡ line_of n place
  line_head e = rw e

  pub line_stream : {k : StreamNumber} {r : ℕ} → place ≡ Stream k → r ≡ min k.0 n → 1 + r ≡ line_of n place
  line_stream e g = rw (e, g)

  pub line_end : place ≡ End → 1 + n ≡ line_of n place
  line_end e = rw e

pub line_most : (n : ℕ) (place : Place) → line_of n place ≤ 1 + n
line_most n Head = omega arith
line_most n (Stream k) = omega arith
line_most n End = omega arith

pub line_within : (n : ℕ) (place : Place) {r : ℕ} → r ≡ line_of n place → r ≤ 1 + n
line_within n place e = rw e (line_most n place)

-- ---- `place_of`
pub place_head : (n line : ℕ) → line ≡ 0 → Head ≡ place_of n line
place_head n line e = rw e

pub place_end : (n line : ℕ) → n < line → End ≡ place_of n line
place_end n zero l = absurd (omega arith)
place_end n (suc k) l = rw (le-ltb k n (omega arith))

pub place_stream : (n line : ℕ) → (line ≡ 0 → ⊥) → line ≤ n → Stream (record { 0 = line - 1 }) ≡ place_of n line
place_stream n zero z l = absurd (z refl)
place_stream n (suc k) z l =
    let e : suc k - 1 ≡ k = omega arith in
    rw (lt-ltb k n (omega arith), e)

pub ruleset place_cases = (line_head, line_stream, line_end, place_head, place_end, place_stream)
