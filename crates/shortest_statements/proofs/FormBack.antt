-- A number that was read from bytes is below 2^29. One that was shortest stands there in its shortest form, and one
-- that is read where a shortest form stands is the number of that form.
use mathlib.Core.Path.{◌≡◌, refl, sym, ◌∙◌, ap}
use mathlib.Core.Bool.{true}
use mathlib.Core.Logic.{⊎_elim}
use mathlib.Core.List.{List, [], ◌∷◌, ◌++◌}
use Prim.Native.Nat.{ℕ, ◌+◌, ◌*◌, ◌/◌, ◌%◌, ◌^◌, ◌≤◌, ◌<◌}
use native.Mathlib.Omega.{arith}
use native.Mathlib.Numerals.{add-one}
use borrow.Author.Tests.{eqb-true, ltb-true, ltb-false, leb-true}
use lib.Dec.{eqb, leb, ltb}
use lib.ListN.{length, get_or, take, drop, take-append-drop}
use lib.Seq.{length-take-le, drop-cons, drop-drop, drop-append_seam}
use Rattle.std.specs.Prelude.{Result, Ok, Err}
use Rattle.outcome.proofs.OutcomeLaws.{by_test, below_or, ok_is, ok_refused}
use Rattle.numbers.specs.Refusal.{Stop}
use Rattle.numbers.specs.Number.{short_width, number_of, number_at}
use Rattle.numbers.specs.declared.number.Number.{Number}
use Rattle.numbers.proofs.FormLaws.{Form, form_at, shortest_one, shortest_two}
use Rattle.numbers.proofs.MoveLaws.{number_in}
use Rattle.shortest.specs.Short.{Bytes, short, short_number}
use Rattle.shortest.proofs.ShortLaws.{short_one, short_two, short_four}
use Rattle.shortest.proofs.ReadLaws.{short_reads_in}

-- ---- how large it is
pub number_small : (s : List ℕ) (at : ℕ) → Bytes s → {n : Number} → number_at s at ≡ Ok n → n.value < 2 ^ 29
number_small s at bytes {n} = go _ (form_at s at)
  where
    go : (o : Result Number Stop) → Form s at o → o ≡ Ok n → n.value < 2 ^ 29
    go _ (Form.one l) e = rw (← ok_is e) (omega (arith, bytes at))
    go _ (Form.two l) e = rw (← ok_is e) (omega (arith, bytes (at + 1)))
    go _ (Form.four l) e = rw (← ok_is e) (omega (arith, bytes (at + 1), bytes (at + 2), bytes (at + 3)))
    go _ (Form.short l) e = absurd (ok_refused (sym e))
    go _ (Form.invalid l) e = absurd (ok_refused (sym e))

-- ---- the two longer forms, by what is read from their bytes
abbrev value_of_two : ℕ → ℕ → ℕ
value_of_two b1 b2 = b1 % 64 * 256 + b2

abbrev value_of_four : ℕ → ℕ → ℕ → ℕ → ℕ
value_of_four b1 b2 b3 b4 = b1 % 32 * 2 ^ 24 + b2 * 2 ^ 16 + b3 * 2 ^ 8 + b4

form_two : (b1 b2 : ℕ) → 0x80 ≤ b1 → b1 < 0xc0 → b2 < 256 → 0x80 ≤ value_of_two b1 b2
    → short (value_of_two b1 b2) ≡ b1 ∷ b2 ∷ []
form_two b1 b2 h k l m =
    let v = value_of_two b1 b2 in
    let first : 0x80 + v / 2 ^ 8 ≡ b1 = omega arith in
    let second : v % 256 ≡ b2 = omega arith in
    short_two v m (omega arith) ∙ rw (first, second)

form_four : (b1 b2 b3 b4 : ℕ) → 0xc0 ≤ b1 → b1 < 0xe0 → b2 < 256 → b3 < 256 → b4 < 256
    → 0x4000 ≤ value_of_four b1 b2 b3 b4 → short (value_of_four b1 b2 b3 b4) ≡ b1 ∷ b2 ∷ b3 ∷ b4 ∷ []
form_four b1 b2 b3 b4 h k l₂ l₃ l₄ m =
    let v = value_of_four b1 b2 b3 b4 in
    let first : 0xc0 + v / 2 ^ 24 ≡ b1 = omega arith in
    let second : v / 2 ^ 16 % 256 ≡ b2 = omega arith in
    let third : v / 2 ^ 8 % 256 ≡ b3 = omega arith in
    let fourth : v % 256 ≡ b4 = omega arith in
    short_four v m ∙ rw (first, second, third, fourth)

-- a value whose shortest form has two or four bytes needs them
module _ (v : ℕ) where
  needs_two : eqb 2 (short_width v) ≡ true → 0x80 ≤ v
  needs_two h =
      let two = eqb-true 2 (short_width v) h in
      ⊎_elim (λ (l : v < 0x80). absurd (omega (arith, shortest_one v l))) (λ (l : 0x80 ≤ v). l) (below_or v 0x80)

  needs_four : eqb 4 (short_width v) ≡ true → 0x4000 ≤ v
  needs_four h =
      let four = eqb-true 4 (short_width v) h in
      ⊎_elim (λ (l : v < 0x80). absurd (omega (arith, shortest_one v l)))
      (λ (l : 0x80 ≤ v).
      ⊎_elim (λ (k : v < 0x4000). absurd (omega (arith, shortest_two v l k))) (λ (k : 0x4000 ≤ v). k)
      (below_or v 0x4000))
      (below_or v 0x80)

-- ---- the bytes from a place on: one, two or four, and the rest
drop_one : (s : List ℕ) (at : ℕ) → at + 1 ≤ length s → drop at s ≡ get_or s at 0 ∷ drop (at + 1) s
drop_one s at l = rw add-one (drop-cons s at 0 (omega arith))

drop_two : (s : List ℕ) (at : ℕ) → at + 2 ≤ length s → drop at s ≡ get_or s at 0 ∷ get_or s (at + 1) 0 ∷ drop (at + 2) s
drop_two s at l =
    let two : at + 1 + 1 ≡ at + 2 = omega arith in
    drop_one s at (omega arith) ∙ ap (λ r. get_or s at 0 ∷ r) (rw two at (drop_one s (at + 1) (omega arith)))

drop_four : (s : List ℕ) (at : ℕ) → at + 4 ≤ length s
    → drop at s ≡ get_or s at 0 ∷ get_or s (at + 1) 0 ∷ get_or s (at + 2) 0 ∷ get_or s (at + 3) 0 ∷ drop (at + 4) s
drop_four s at l =
    let three : at + 2 + 1 ≡ at + 3 = omega arith in
    let four : at + 2 + 2 ≡ at + 4 = omega arith in
    drop_two s at (omega arith)
    ∙ ap (λ r. get_or s at 0 ∷ get_or s (at + 1) 0 ∷ r) (rw (three, four) at (drop_two s (at + 2) (omega arith)))

-- ---- a shortest number stands in its form, and then come the bytes from the place after it
pub number_back : (s : List ℕ) (at : ℕ) → Bytes s → {n : Number} → number_at s at ≡ Ok n → n.shortest ≡ true
    → drop at s ≡ short n.value ++ drop n.next s
unfolding number_at
number_back s at bytes {n} =
    let b1 = get_or s at 0 in
    let b2 = get_or s (at + 1) 0 in
    let b3 = get_or s (at + 2) 0 in
    let b4 = get_or s (at + 3) 0 in
    by_test P (leb (at + 1) (length s))
    (λ f. by_test P (ltb b1 0x80)
    (λ g. read (number_of at 1 b1) λ _. drop_one s at (leb-true _ _ f) ∙ rw (short_one b1 (ltb-true _ _ g)))
    (λ g. by_test P (ltb b1 0xc0)
    (λ h. by_test P (leb (at + 2) (length s))
    (λ k. read (number_of at 2 (value_of_two b1 b2)) λ m.
    drop_two s at (leb-true _ _ k)
    ∙ rw (form_two b1 b2 (ltb-false _ _ g) (ltb-true _ _ h) (bytes (at + 1)) (needs_two _ m)))
    (λ _. none))
    (λ h. by_test P (leb (at + 4) (length s))
    (λ k. by_test P (ltb b1 0xe0)
    (λ l. read (number_of at 4 (value_of_four b1 b2 b3 b4)) λ m.
    drop_four s at (leb-true _ _ k)
    ∙ rw (form_four b1 b2 b3 b4 (ltb-false _ _ h) (ltb-true _ _ l) (bytes _) (bytes _) (bytes _) (needs_four _ m)))
    (λ _. none))
    (λ _. none))))
    (λ _. none)
  where
    Stands : Number → Type 0
    Stands y = y.shortest ≡ true → drop at s ≡ short y.value ++ drop y.next s

    P : Result Number Stop → Type 0
    P o = o ≡ Ok n → Stands n

    read : (y : Number) → Stands y → P (Ok y)
    read y h e = let f : y ≡ n = ok_is e in rw (← f) h

    none : {why : Stop} → P (Err why)
    none e = absurd (ok_refused (sym e))

-- ---- a number that is read where a form stands
pub record OfForm (s : List ℕ) (m : ℕ) (later : List ℕ) (n : Number) : Type 0 where
  pub value : n.value ≡ m
  pub shortest : n.shortest ≡ true
  pub after : drop n.next s ≡ later

pub number_of_form : (s : List ℕ) (at m : ℕ) {n : Number} {later : List ℕ} → number_at s at ≡ Ok n → m < 2 ^ 29
    → drop at s ≡ short m ++ later → OfForm s m later n
number_of_form s at m {n} {later} e l h =
    let place : length (take at s) ≡ at = length-take-le at s (let k = number_in s at e in omega arith) in
    let whole : take at s ++ (short m ++ later) ≡ s = rw (← h) (take-append-drop at s) in
    let reads : number_at s at ≡ Ok (short_number at m) = rw (whole, place) at (short_reads_in (take at s) later m l) in
    let same : short_number at m ≡ n = ok_is (sym reads ∙ e) in
    let w = length (short m) in
    let after : drop (at + w) s ≡ later = sym (drop-drop w at s) ∙ ap (drop w) h ∙ drop-append_seam (short m) later in
    rw (← same) (record { value = refl; shortest = refl; after = after })
