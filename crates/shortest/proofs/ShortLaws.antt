-- The shortest form by its three sizes, and the ways out of the functions that measure it and put it.
use mathlib.Core.Path.{◌≡◌, refl, sym, ◌∙◌}
use mathlib.Core.Bool.{Bool, true, false}
use mathlib.Core.List.{List, [], ◌∷◌, ◌++◌}
use Prim.Native.Nat.{ℕ, zero, suc, ◌+◌, ◌/◌, ◌%◌, ◌^◌, ◌≤◌, ◌<◌}
use native.Mathlib.Omega.{arith}
use native.Mathlib.Nat.{div-div-eq-div-mul, div-add-mod'}
use borrow.Author.Tests.{lt-ltb, le-ltb, ltb-true, ltb-false}
use lib.Dec.{ltb}
use mir.Syntax.{w16, w32}
use lib.ListN.{length}
use Rattle.std.specs.Int.{to_be_bytes}
use Rattle.std.proofs.lemmas.Nat.{be_bytes_2, be_bytes_4}
use Rattle.outcome.proofs.OutcomeLaws.{by_test}
use Rattle.numbers.specs.Number.{short_width}
use Rattle.numbers.proofs.FormLaws.{shortest_one, shortest_two, shortest_four}
use Rattle.shortest.specs.Short.{Bytes, short}

module _ (n : ℕ) where
  pub short_one : n < 0x80 → short n ≡ n ∷ []
  unfolding short
  short_one h = rw (lt-ltb n 0x80 h)

  pub short_two : 0x80 ≤ n → n < 0x4000 → short n ≡ (0x80 + n / 2 ^ 8) ∷ (n % 256) ∷ []
  unfolding short
  short_two h k = rw (le-ltb n 0x80 h, lt-ltb n 0x4000 k)

  pub short_four : 0x4000 ≤ n → short n ≡ (0xc0 + n / 2 ^ 24) ∷ (n / 2 ^ 16 % 256) ∷ (n / 2 ^ 8 % 256) ∷ (n % 256) ∷ []
  unfolding short
  short_four h = rw (le-ltb n 0x80 (omega arith), le-ltb n 0x4000 h)

  pub width_one : n < 0x80 → 1 ≡ length (short n)
  width_one h = rw (short_one h)

  pub width_two : 0x80 ≤ n → n < 0x4000 → 2 ≡ length (short n)
  width_two h k = rw (short_two h k)

  pub width_four : 0x4000 ≤ n → 4 ≡ length (short n)
  width_four h = rw (short_four h)

-- ---- `short_width`: as `numbers` counts it
pub short_length : (n : ℕ) → length (short n) ≡ short_width n
short_length n = go (ltb n 0x80) (ltb n 0x4000) refl refl
  where
    go : (a b : Bool) → ltb n 0x80 ≡ a → ltb n 0x4000 ≡ b → length (short n) ≡ short_width n
    go true b e f = let h = ltb-true n 0x80 e in sym (width_one n h) ∙ shortest_one n h
    go false true e f =
        let h = ltb-false n 0x80 e in
        let k = ltb-true n 0x4000 f in
        sym (width_two n h k) ∙ shortest_two n h k
    go false false e f = let h = ltb-false n 0x4000 f in sym (width_four n h) ∙ shortest_four n h

-- a form has one to four bytes
pub short_some : (n : ℕ) → 1 ≤ length (short n)
unfolding short
short_some n =
    let P : List ℕ → Type 0 = λ l. 1 ≤ length l in
    by_test P (ltb n 0x80) (λ _. omega arith) (λ _. by_test P (ltb n 0x4000) (λ _. omega arith) (λ _. omega arith))

pub short_most : (n : ℕ) → length (short n) ≤ 4
unfolding short
short_most n =
    let P : List ℕ → Type 0 = λ l. length l ≤ 4 in
    by_test P (ltb n 0x80) (λ _. omega arith) (λ _. by_test P (ltb n 0x4000) (λ _. omega arith) (λ _. omega arith))

-- ---- lists of bytes
pub data AllBytes : List ℕ → Type 0 where
  none : AllBytes []
  more : {b : ℕ} {l : List ℕ} → b < 256 → AllBytes l → AllBytes (b ∷ l)

pub all_append : {a b : List ℕ} → AllBytes a → AllBytes b → AllBytes (a ++ b)
all_append none q = q
all_append (more h p) q = more h (all_append p q)

pub bytes_at_lem : {l : List ℕ} → AllBytes l → Bytes l
bytes_at_lem none i = omega arith
bytes_at_lem (more h p) zero = h
bytes_at_lem (more h p) (suc i) = bytes_at_lem p i

-- ---- `put_short`: one byte, or the bytes of the number with the mark of its form
module _ (n : ℕ) where
  pub two_bytes : 0x80 ≤ n → n < 0x4000 → short n ≡ to_be_bytes w16 (0x8000 + n)
  two_bytes h k = short_two n h k ∙ sym (be_bytes_2 _ (0x8000 + n) refl (bytes_at_lem (more (omega arith) (more (omega arith) none))) (omega arith))

  pub four_bytes : 0x4000 ≤ n → n < 2 ^ 29 → short n ≡ to_be_bytes w32 (0xc0000000 + n)
  four_bytes h k = short_four n h ∙ sym (be_bytes_4 _ (0xc0000000 + n) refl (bytes_at_lem (more (omega arith) (more (omega arith) (more (omega arith) (more (omega arith) none)))))
      (let d : n / 2 ^ 8 / 2 ^ 8 ≡ n / 2 ^ 16 = div-div-eq-div-mul n (2 ^ 8) (2 ^ 8) in
      let d' : n / 2 ^ 16 / 2 ^ 8 ≡ n / 2 ^ 24 = div-div-eq-div-mul n (2 ^ 16) (2 ^ 8) in
      omega (arith, div-add-mod' n (2 ^ 8), div-add-mod' (n / 2 ^ 8) (2 ^ 8), div-add-mod' (n / 2 ^ 16) (2 ^ 8))))

pub ruleset put_cases = (short_one, two_bytes, four_bytes)
