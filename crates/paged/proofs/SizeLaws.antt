-- Laws of the page size: its bounds, that it is a power of 2, need(b) once over the size, and products that fit.
use mathlib.Core.Path.{◌≡◌}
use mathlib.Core.Bool.{true}
use mathlib.Core.Logic.{⊎_elim}
use Prim.Native.Nat.{ℕ, zero, suc, ◌+◌, ◌-◌, ◌*◌, ◌/◌, ◌%◌, ◌^◌, ◌≤◌, ◌<◌}
use native.Mathlib.Omega.{arith}
use native.Mathlib.Nat.{mod-lt, div-add-mod', pow-suc, mul_left_comm, div-lt_iff_lt-mul, div-mul-le_self, le-div_iff_mul-le, suc-mul, mul-le-mul_left, mul-one, le_refl}
use borrow.Author.Tests.{leb-true, eqb-true}
use lib.Bits.{bit_and, and_mask}
use lib.Count.{ones, ones_step, ones-le, under, count_trailing_zeros}
use lib.Dec.{leb, eqb}
use Rattle.outcome.proofs.OutcomeLaws.{below_or, and_true}
use Rattle.paged.specs.PageSize.{smallest, largest, size_is_fit, PageSize, need}

-- ---- a page size that passes
pub passes : (p : ℕ) → size_is_fit p ≡ true → PageSize p
unfolding size_is_fit
passes p e =
    let b = and_true (leb smallest p) (leb p largest) (and_true (eqb (ones p) 1) _ e).1 in
    record { fits = e; least = leb-true smallest p b.0; most = leb-true p largest b.1 }

-- ---- a number with one bit set is 2 to its count of trailing zeros, which is below the width
no_ones : (k n : ℕ) → n < 2 ^ k → ones n ≡ 0 → n ≡ 0
no_ones zero n h e = omega arith
no_ones (suc k) n h e =
    let s = ones_step n in
    let half : n / 2 ≡ 0 = no_ones k (n / 2) (let h' = rw pow-suc at h in omega arith) (omega arith) in
    omega arith

even_power : (k n t : ℕ) → n % 2 ≡ 0 → n / 2 ≡ 2 ^ t → t < k → (n ≡ 2 ^ under (n % 2) t) × (under (n % 2) t < suc k)
even_power k n t z e l = rw z (rw pow-suc (omega arith), omega arith)

odd_power : (k n t : ℕ) → n % 2 ≡ 1 → n / 2 ≡ 0 → (n ≡ 2 ^ under (n % 2) t) × (under (n % 2) t < suc k)
odd_power k n t o e = rw o (omega arith, omega arith)

one_power : (k n : ℕ) → n < 2 ^ k → ones n ≡ 1 → (n ≡ 2 ^ count_trailing_zeros k n) × (count_trailing_zeros k n < k)
unfolding count_trailing_zeros
one_power zero n h e = absurd (omega (arith, ones-le 0 n h))
one_power (suc k) n h e =
    let s = ones_step n in
    let l : n / 2 < 2 ^ k = let h' = rw pow-suc at h in omega arith in
    ⊎_elim (λ (z : n % 2 < 1). let r = one_power k (n / 2) l (omega arith) in even_power k n _ (omega arith) r.0 r.1)
    (λ (o : 1 ≤ n % 2). odd_power k n _ (omega arith) (no_ones k (n / 2) l (omega arith)))
    (below_or (n % 2) 1)

size_power : (p : ℕ) → PageSize p → (p ≡ 2 ^ count_trailing_zeros 64 p) × (count_trailing_zeros 64 p < 64)
unfolding size_is_fit
size_power p s =
    let u = s.most in
    one_power 64 p (omega arith) (eqb-true _ _ (and_true (eqb (ones p) 1) _ s.fits).0)

pub size_shift : (p : ℕ) → PageSize p → p ≡ 2 ^ count_trailing_zeros 64 p
size_shift p s = (size_power p s).0

pub shift_small : (p : ℕ) → PageSize p → count_trailing_zeros 64 p < 64
shift_small p s = (size_power p s).1

pub ruleset shifts = (size_shift, shift_small)

-- so a mask keeps the remainder
pub mask_is : (n p : ℕ) → PageSize p → bit_and n (p - 1) ≡ n % p
mask_is n p s = rw (size_shift p s) (and_mask _ _)

-- and a page size is a multiple of 4
by_four : (p t : ℕ) → p ≡ 2 ^ t → smallest ≤ p → (q : ℕ) × (p ≡ 4 * q)
by_four p zero e l = absurd (omega arith)
by_four p (suc zero) e l = absurd (omega arith)
by_four p (suc (suc t)) e l = (2 ^ t, let e' = rw pow-suc at e in omega arith)

size_by_four : (p : ℕ) → PageSize p → (q : ℕ) × (p ≡ 4 * q)
size_by_four p s = by_four p _ (size_shift p s) s.least

-- a word at a multiple of 4 lies within its page
four_apart : (x i q r : ℕ) → 4 * x + r ≡ 4 * i → r < 4 * q → r + 4 ≤ 4 * q
four_apart x i q r e l =
    let fours : r ≡ 4 * (i - x) = omega arith in
    let below : i - x < q = omega arith in
    omega arith

pub word_in_page : (p i : ℕ) → PageSize p → 4 * i % p + 4 ≤ p
word_in_page p i s =
    let q = size_by_four p s in
    let l = s.least in
    let pos : 0 < 4 * q.0 = omega (arith, q.1) in
    rw q.1
    (four_apart (4 * i / (4 * q.0) * q.0) i q.0 (4 * i % (4 * q.0)) (rw mul_left_comm at (div-add-mod' (4 * i) (4 * q.0))) (mod-lt (4 * i) pos))

-- ---- a product with the page size: at most that with the largest
pub at_most_largest : (a : ℕ) {p : ℕ} → PageSize p → a * p ≤ a * 0x800000
at_most_largest a s = mul-le-mul_left a s.most

-- ---- need(b)
module _ (p b : ℕ) (h : 0 < p) where
  -- i is below b only where its page is below need(b)
  pub need_index : (i : ℕ) → i < b → i / p < need p b
  unfolding need
  need_index i l = (le-div_iff_mul-le h).1 (rw suc-mul (omega (arith, div-mul-le_self i p)))

  pub need_le : need p b ≤ b
  unfolding need
  need_le =
      let more : b ≤ b * p = rw mul-one at (mul-le-mul_left b h) in
      let below : (b + p - 1) / p < suc b = (div-lt_iff_lt-mul h).1 (rw suc-mul (omega arith)) in
      omega arith

  pub need_below : (j : ℕ) → j < need p b → j * p < b
  unfolding need
  need_below j l = let k = rw suc-mul at ((le-div_iff_mul-le h).0 l) in omega arith

  pub need_covers : b ≤ need p b * p
  unfolding need
  need_covers = let k = rw suc-mul at ((div-lt_iff_lt-mul h).0 (le_refl (suc ((b + p - 1) / p)))) in omega arith

  pub need_least : (n : ℕ) → b ≤ n * p → need p b ≤ n
  unfolding need
  need_least n l =
      let k : (b + p - 1) / p < suc n = (div-lt_iff_lt-mul h).1 (rw suc-mul (omega arith)) in
      omega arith

-- fewer bytes take no more pages
pub need_rises : (p : ℕ) {a b : ℕ} → 0 < p → a ≤ b → need p a ≤ need p b
need_rises p {a} {b} h l = let all = need_covers p b h in need_least p a h (need p b) (omega arith)
