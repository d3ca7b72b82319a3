-- A line read back: digits end where a character below them begins, and no digit is a letter.
use mathlib.Core.Path.{◌≡◌, refl, sym, ◌∙◌, ap}
use mathlib.Core.List.{List, [], ◌∷◌, ◌++◌, append_assoc}
use Prim.Native.Nat.{ℕ, suc, ◌≤◌, ◌<◌}
use native.Mathlib.Omega.{arith}
use lib.ListN.{length, get_or}
use Rattle.outcome.specs.Refusal as paper
use Rattle.listing_text.specs.Text.{decimal, newline, size_text, refusal_text}
use Rattle.listing_line.specs.Line.{Shown, sized_as, not_there, refused_with, shown_text}
use Rattle.listing_statements.specs.Statements.{value_from}
use Rattle.listing_statements.specs.Lines.{LinesTold}
use Rattle.listing_statements.proofs.Decimal.{Digit, decimal_right}

-- ---- digits, and a character below them that ends them
abbrev Digits : List ℕ → Type 0
Digits xs = (i : ℕ) → i < length xs → Digit (get_or xs i 0)

head_is : {x y : ℕ} {xs ys : List ℕ} → x ∷ xs ≡ y ∷ ys → x ≡ y
head_is e = cc

tail_is : {x y : ℕ} {xs ys : List ℕ} → x ∷ xs ≡ y ∷ ys → xs ≡ ys
tail_is e = cc

module _ (c : ℕ) (below : c < 48) where
  apart : (xs ys : List ℕ) {us vs : List ℕ} → Digits xs → Digits ys → xs ++ c ∷ us ≡ ys ++ c ∷ vs → (xs ≡ ys) × (us ≡ vs)
  apart [] [] d d' e = (refl, tail_is e)
  apart [] (y ∷ ys) d d' e =
      let same : c ≡ y = head_is e in
      let least : 48 ≤ y = (d' 0 (omega arith)).0 in
      absurd (omega arith)
  apart (x ∷ xs) [] d d' e =
      let same : x ≡ c = head_is e in
      let least : 48 ≤ x = (d 0 (omega arith)).0 in
      absurd (omega arith)
  apart (x ∷ xs) (y ∷ ys) d d' e =
      let rest = apart xs ys (λ i l. d (suc i) (omega arith)) (λ i l. d' (suc i) (omega arith)) (tail_is e) in
      let same : x ≡ y = head_is e in
      (rw (same, rest.0), rest.1)

  -- so numbers are told apart
  numbers : (a b : ℕ) {us vs : List ℕ} → decimal a ++ c ∷ us ≡ decimal b ++ c ∷ vs → (a ≡ b) × (us ≡ vs)
  numbers a b e =
      let p = apart (decimal a) (decimal b) (decimal_right.digits a) (decimal_right.digits b) e in
      (sym (decimal_right.value a) ∙ ap (value_from 0) p.0 ∙ decimal_right.value b, p.1)

  -- and a number from a letter
  no_letter : (xs us : List ℕ) {l : ℕ} {vs : List ℕ} → Digits xs → 57 < l → xs ++ c ∷ us ≡ l ∷ vs → ⊥
  no_letter [] us {l} d m e = let same : c ≡ l = head_is e in omega arith
  no_letter (x ∷ xs) us {l} d m e =
      let same : x ≡ l = head_is e in
      let most : x ≤ 57 = (d 0 (omega arith)).1 in
      omega arith

-- ---- what follows the stream's number
sizes : (a b c d : ℕ) → size_text a b ≡ size_text c d → (a ≡ c) × (b ≡ d)
sizes a b c d e =
    let p = numbers 0x20 (omega arith) a c (simp append_assoc at e) in
    (p.0, (numbers 0x0a (omega arith) b d p.1).0)

-- a refusal's two numbers follow its word as a size and its slices stand without one
refusals : (v w : paper.Refusal) → refusal_text v ≡ refusal_text w → v ≡ w
refusals v w e =
    let rest : size_text v.number v.value ≡ size_text w.number w.value = cc in
    let p = sizes v.number v.value w.number w.value rest in
    rw (p.0, p.1)

sized_no_letter : (a b : ℕ) {l : ℕ} {vs : List ℕ} → 57 < l → size_text a b ≡ l ∷ vs → ⊥
sized_no_letter a b m e =
    no_letter 0x20 (omega arith) (decimal a) (decimal b ++ newline) (decimal_right.digits a) m (simp append_assoc at e)

shown_told : (a b : Shown) → shown_text a ≡ shown_text b → a ≡ b
unfolding shown_text
shown_told (sized_as a b) (sized_as c d) e = let p = sizes a b c d e in rw (p.0, p.1)
shown_told (sized_as a b) not_there e = absurd (sized_no_letter a b (omega arith) e)
shown_told (sized_as a b) (refused_with why) e = absurd (sized_no_letter a b (omega arith) e)
shown_told not_there (sized_as a b) e = absurd (sized_no_letter a b (omega arith) (sym e))
shown_told not_there not_there e = refl
shown_told not_there (refused_with why) e = let z : ◌≡◌ {A = ℕ} 0x61 0x72 = head_is e in absurd (omega arith)
shown_told (refused_with why) (sized_as a b) e = absurd (sized_no_letter a b (omega arith) (sym e))
shown_told (refused_with why) not_there e = let z : ◌≡◌ {A = ℕ} 0x72 0x61 = head_is e in absurd (omega arith)
shown_told (refused_with v) (refused_with w) e = ap refused_with (refusals v w e)

-- ---- and the line
pub lines_told : LinesTold
lines_told =
    record {
      line = λ j k a b e.
          let p = numbers 0x20 (omega arith) j k (simp append_assoc at e) in
          (p.0, shown_told a b p.1);
    }
