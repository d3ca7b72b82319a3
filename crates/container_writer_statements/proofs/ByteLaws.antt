-- The file's definitions, byte by byte: the bits of a map page's byte, and what does not depend on the input.
use mathlib.Core.Path.{◌≡◌, ◌∙◌, ap}
use mathlib.Core.Bool.{Bool, true, false, cond}
use mathlib.Core.Logic.{◌⊎◌, inl, inr, ⊎_elim}
use mathlib.Core.List.{List}
use Prim.Native.Nat.{ℕ, zero, suc, ◌+◌, ◌-◌, ◌*◌, ◌/◌, ◌%◌, ◌^◌, ◌≤◌, ◌<◌}
use native.Mathlib.Omega.{arith}
use native.Mathlib.Nat.{pow-suc, pow-succ', add-mul-div_right, add-zero}
use borrow.Author.Tests.{eq-eqb, le-ltb, ne_eqb}
use lib.Pow.{pow-add, pow_pos}
use Rattle.outcome.proofs.OutcomeLaws.{by_test, below_or}
use Rattle.container_layout.specs.Place.{pages_with}
use Rattle.container_layout.specs.Layout.{stream_pages, is_padding}
use Rattle.container_layout.specs.Container.{bits, map_byte, data_byte}
use Rattle.container_layout.proofs.PlaceLaws.{page_of_lem, divides}

-- ---- a number by its bits, lowest first
-- a power of 2 more, or none: the quotient by it is that bit, and lower bits stay
top_bit : (x m : ℕ) → x < m → (c : Bool) → (x + cond c m 0) / m % 2 ≡ cond c 1 0
top_bit x m l true = rw (divides m (x + m) 1 x l (omega arith)).0
top_bit x m l false = rw (divides m (x + 0) 0 x l (omega arith)).0

low_bit : (x d m : ℕ) → 0 < m → (c : Bool) → (x + cond c (2 * d * m) 0) / m % 2 ≡ x / m % 2
low_bit x d m pos true = rw (add-mul-div_right x (2 * d) pos) (omega arith)
low_bit x d m pos false = rw add-zero

module _ (one : ℕ → Bool) where
  bits_small : (n : ℕ) → bits one n < 2 ^ n
  unfolding bits
  bits_small zero = omega arith
  bits_small (suc n) =
      let l = bits_small n in
      rw pow-suc (by_test (λ m. bits one n + m < 2 ^ n * 2) (one n) (λ _. omega arith) (λ _. omega arith))

  bits_at : (n b : ℕ) → b < n → bits one n / 2 ^ b % 2 ≡ cond (one b) 1 0
  unfolding bits
  bits_at zero b l = absurd (omega arith)
  bits_at (suc n) b l =
      ⊎_elim
      (λ (m : b < n).
      let d : ℕ = n - suc b in
      let far : n ≡ suc d + b = omega arith in
      let power : 2 ^ n ≡ 2 * 2 ^ d * 2 ^ b = ap (2 ^◌) far ∙ pow-add 2 (suc d) b ∙ ap (◌* 2 ^ b) (pow-succ' 2 d) in
      rw power (low_bit (bits one n) (2 ^ d) (2 ^ b) (pow_pos b) (one n)) ∙ bits_at n b m)
      (λ (m : n ≤ b). let same : b ≡ n = omega arith in rw same (top_bit (bits one n) (2 ^ n) (bits_small n) (one n)))
      (below_or b n)

-- bit b of a map page's byte is the test of its page
pub map_bit : (p last used q x b : ℕ) → b < 8 → map_byte p last used q x / 2 ^ b % 2 ≡ cond (is_padding last used (8 * (q * p + x) + b)) 1 0
unfolding map_byte
map_bit p last used q x b l = bits_at (λ c. is_padding last used (8 * (q * p + x) + c)) 8 b l

-- ---- what does not depend on the input: the data after the streams, and a map page and the page after it
pub later_same : (p : ℕ) (sizes s t : List ℕ) (i : ℕ) → stream_pages p sizes * p ≤ i → data_byte p sizes s i ≡ data_byte p sizes t i
unfolding data_byte
later_same p sizes s t i l = rw (le-ltb i (stream_pages p sizes * p) l)

pub maps_same : (p : ℕ) (map : ℕ → ℕ → ℕ) (body body' : ℕ → ℕ) (n x : ℕ) → x < p → (n % p ≡ 1) ⊎ (n % p ≡ 2) → pages_with p map body (n * p + x) ≡ pages_with p map body' (n * p + x)
unfolding pages_with
maps_same p map body body' n x l (inl e) = rw (page_of_lem p n x l, eq-eqb (n % p) 1 e)
maps_same p map body body' n x l (inr e) = rw (page_of_lem p n x l, ne_eqb (n % p) 1 (λ z. omega arith), eq-eqb (n % p) 2 e)
