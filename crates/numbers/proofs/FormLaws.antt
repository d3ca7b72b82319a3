-- A number by its form: what `number_at` answers is one of five things, and what each says of the number's width, its
-- value and the place after it.
use mathlib.Core.Path.{◌≡◌, refl}
use mathlib.Core.List.{List}
use Prim.Native.Nat.{ℕ, ◌+◌, ◌*◌, ◌%◌, ◌^◌, ◌≤◌, ◌<◌}
use native.Mathlib.Omega.{arith}
use borrow.Author.Tests.{leb-true, leb-false, le-ltb, lt-ltb}
use lib.Dec.{leb, ltb}
use lib.ListN.{length, get_or}
use Rattle.std.specs.Prelude.{Some, Result, Ok, Err}
use Rattle.outcome.proofs.OutcomeLaws.{by_test}
use Rattle.numbers.specs.Refusal.{Stop, stop}
use Rattle.numbers.specs.Number.{short_width, number_of, number_at}
use Rattle.numbers.specs.Inner.{Byte, width_of, Width, Value}
use Rattle.numbers.specs.declared.refusal.Refusal.TheVariants.{ShortData, InvalidCompressedAnnotation}
use Rattle.numbers.specs.declared.number.Number.{Number}

-- ---- the three forms of a number
abbrev one_at : List ℕ → ℕ → Number
one_at s at = number_of at 1 (get_or s at 0)

abbrev two_at : List ℕ → ℕ → Number
two_at s at = number_of at 2 (get_or s at 0 % 64 * 256 + get_or s (at + 1) 0)

abbrev four_at : List ℕ → ℕ → Number
four_at s at =
    number_of at 4 (get_or s at 0 % 32 * 2 ^ 24 + get_or s (at + 1) 0 * 2 ^ 16 + get_or s (at + 2) 0 * 2 ^ 8 + get_or s (at + 3) 0)

-- (A `data` type, not a function by cases: it can be matched before the choice is computed.)
pub data Form (s : List ℕ) (at : ℕ) : Result Number Stop → Type 0 where
  one : at + 1 ≤ length s → Form s at (Ok (one_at s at))
  two : at + 2 ≤ length s → Form s at (Ok (two_at s at))
  four : at + 4 ≤ length s → Form s at (Ok (four_at s at))
  short : length s < at + 4 → Form s at (Err (stop ShortData (length s)))
  invalid : at + 4 ≤ length s → Form s at (Err (stop InvalidCompressedAnnotation (at + 4)))

pub form_at : (s : List ℕ) (at : ℕ) → Form s at (number_at s at)
unfolding number_at
form_at s at =
    let P = Form s at in
    by_test P (leb (at + 1) (length s))
    (λ h. by_test P (ltb (get_or s at 0) 0x80) (λ _. one (leb-true _ _ h))
    (λ _. by_test P (ltb (get_or s at 0) 0xc0)
    (λ _. by_test P (leb (at + 2) (length s)) (λ k. two (leb-true _ _ k)) (λ k. short (let l = leb-false (at + 2) (length s) k in omega arith)))
    (λ _. by_test P (leb (at + 4) (length s))
    (λ k. by_test P (ltb (get_or s at 0) 0xe0) (λ _. four (leb-true _ _ k)) (λ _. invalid (leb-true _ _ k)))
    (λ k. short (leb-false _ _ k)))))
    (λ k. short (let l = leb-false (at + 1) (length s) k in omega arith))

-- ---- the ways out of `value_at`: a width tells the form
module _ (s : List ℕ) (at : ℕ) {w : ℕ} (d : Width s at (Some w)) where
  -- what holds of the three forms that have a number, at their widths, holds of the number
  by_width : (P : Result Number Stop → ℕ → Type 0)
      → (at + 1 ≤ length s → P (Ok (one_at s at)) 1)
      → (at + 2 ≤ length s → P (Ok (two_at s at)) 2)
      → (at + 4 ≤ length s → P (Ok (four_at s at)) 4)
      → P (number_at s at) w
  unfolding width_of
  by_width P f g h = go (number_at s at) (form_at s at) d.is
    where
      go : (o : Result Number Stop) → Form s at o → Some w ≡ width_of o → P o w
      go _ (one l) e = let r : w ≡ 1 = cc in rw r (f l)
      go _ (two l) e = let r : w ≡ 2 = cc in rw r (g l)
      go _ (four l) e = let r : w ≡ 4 = cc in rw r (h l)
      go _ (short l) e = cc
      go _ (invalid l) e = cc

  -- no number takes three bytes, so the fourth is there
  pub fourth : (w ≡ 1 → ⊥) → (w ≡ 2 → ⊥) → at + 3 < length s
  fourth =
      by_width (λ o w. (w ≡ 1 → ⊥) → (w ≡ 2 → ⊥) → at + 3 < length s)
      (λ l a b. absurd (a refl)) (λ l a b. absurd (b refl)) (λ l a b. omega arith)

  module _ {b1 : ℕ} (i : Byte s at b1) where
    pub value_one : w ≡ 1 → Value s at w b1
    value_one e =
        record { is = by_width (λ o w. w ≡ 1 → o ≡ Ok (number_of at w b1)) (λ l e. rw i.is) (λ l e. absurd (omega arith)) (λ l e. absurd (omega arith)) e }

    pub value_two : {b2 v : ℕ} → Byte s (at + 1) b2 → w ≡ 2 → v ≡ b1 % 64 * 256 + b2 → Value s at w v
    value_two {v = v} i2 e r =
        record { is = by_width (λ o w. w ≡ 2 → o ≡ Ok (number_of at w v)) (λ l e. absurd (omega arith)) (λ l e. rw (r, i.is, i2.is)) (λ l e. absurd (omega arith)) e }

    pub value_four : {b2 b3 b4 v : ℕ} → (w ≡ 1 → ⊥) → (w ≡ 2 → ⊥) → Byte s (at + 1) b2 → Byte s (at + 2) b3 → Byte s (at + 3) b4 → v ≡ b1 % 32 * 2 ^ 24 + b2 * 2 ^ 16 + b3 * 2 ^ 8 + b4 → Value s at w v
    value_four {v = v} a b i2 i3 i4 r =
        record { is = by_width (λ o w. (w ≡ 1 → ⊥) → (w ≡ 2 → ⊥) → o ≡ Ok (number_of at w v)) (λ l a b. absurd (a refl)) (λ l a b. absurd (b refl)) (λ l a b. rw (r, i.is, i2.is, i3.is, i4.is)) a b }

pub ruleset value_cases = (value_one, value_two, value_four, fourth)

-- ---- the ways out of `short_width`
module _ (v : ℕ) where
  pub shortest_one : v < 0x80 → 1 ≡ short_width v
  unfolding short_width
  shortest_one h = rw (lt-ltb v 0x80 h)

  pub shortest_two : 0x80 ≤ v → v < 0x4000 → 2 ≡ short_width v
  unfolding short_width
  shortest_two h k = rw (le-ltb v 0x80 h, lt-ltb v 0x4000 k)

  pub shortest_four : 0x4000 ≤ v → 4 ≡ short_width v
  unfolding short_width
  shortest_four h = rw (le-ltb v 0x80 (omega arith), le-ltb v 0x4000 h)
