-- Each range as an order of integers, and each refusal by the line of `writing` that gives it.
use mathlib.Core.Path.{◌≡◌, refl, sym, ◌∙◌, ap}
use mathlib.Core.Logic.{◌⊎◌, inl, inr, ⊎_elim, ◌↔◌}
use mathlib.Core.Bool.{Bool, true, false, cond, true≢false}
use mathlib.Core.List.{List}
use Prim.Native.Nat.{ℕ, ◌%◌, ◌≤◌, ◌<◌}
use native.Mathlib.Omega.{arith}
use borrow.Author.Tests.{ne_eqb, le-leb, eqb-true, eqb-false, leb-true, leb-false}
use lib.Dec.{T, eqb, leb}
use lib.ListN.{length}
use lib.IntN.{ℤ, pos, neg_ℤ}
use lib.Signed.{le_z}
use Rattle.std.specs.Prelude.{Result, Ok, Err}
use Rattle.outcome.specs.Outcome.{and_next, and_then, ◌>>◌, require}
use Rattle.outcome.specs.Refusal as paper
use Rattle.outcome.proofs.OutcomeLaws.{and_true, below_or, ok_is, ok_refused, refused_is}
use Rattle.outcome.proofs.EachLaws.{each_decides, each_stops, each_passed}
use Rattle.annotation_records.specs.Records.{entries_each, count, record_at}
use Rattle.annotation_records.specs.Ranges.{◌to◌, within, first_range, second_range, carries, writable}
use Rattle.annotation_records.specs.declared.record.Record.{Record}
use Rattle.annotation_records.proofs.RangeLaws.{is_zero}
use Rattle.annotation_writer.specs.Refusal.{refusal_in}
use Rattle.annotation_writer.specs.Writing.{list_bytes, judging, measuring, writing}
use Rattle.annotation_writer.specs.declared.refusal.Refusal.TheVariants.{BadRecord, RaggedList, NoRoom}
use Rattle.annotation_writer_statements.specs.Exactly.{Between, Fine, Plain, CarriesExactly, FineTo, FirstBad, RefusedExactly}

-- ---- a range is what lies between its ends
yes : (b : Bool) → b ≡ true → T b
yes true e = tt
yes false e = absurd (true≢false (sym e))

holds : (b : Bool) → T b → b ≡ true
holds true t = refl
holds false t = absurd t

both : {a b : Bool} → a ≡ true → b ≡ true → cond a b false ≡ true
both p q = rw (p, q)

module _ (low high z : ℤ) where
  between : within (low to high) z ≡ true → Between low high z
  between e =
      let p = and_true (le_z low z) (le_z z high) e in
      record { above = record { le = yes _ p.0 }; below = record { le = yes _ p.1 } }

  inside : Between low high z → within (low to high) z ≡ true
  inside r = both (holds (le_z low z) r.above.le) (holds (le_z z high) r.below.le)

-- ---- the four kinds, each by its two ranges
module _ (op : ℕ) (first second : ℤ) (some : 1 ≤ op) (known : op ≤ 13) {low high low' high' : ℤ} (e : first_range op ≡ (low to high)) (e' : second_range op ≡ (low' to high')) where
  is_known : within (pos 1 to pos 13) (pos op) ≡ true
  is_known = both (le-leb 1 op some) (le-leb op 13 known)

  by_ranges : Fine op first second ↔ ((within (low to high) first ≡ true) × (within (low' to high') second ≡ true))
  unfolding writable carries
  by_ranges = (
    λ f. rw (e, e') at (and_true (within (first_range op) first) (within (second_range op) second) (and_true (within (pos 1 to pos 13) (pos op)) _ f).1),
    λ p. both is_known (rw (e, e') (both p.0 p.1)),
  )

  carries_two : Fine op first second ↔ (Between low high first × Between low' high' second)
  carries_two = (
    λ f. let p = by_ranges.0 f in (between low high first p.0, between low' high' second p.1),
    λ r. by_ranges.1 (inside low high first r.0, inside low' high' second r.1),
  )

carries_one : (op : ℕ) (first second : ℤ) → 1 ≤ op → op ≤ 13 → (low high : ℤ) → first_range op ≡ (low to high) → second_range op ≡ (pos 0 to pos 0) → Fine op first second ↔ (Between low high first × (second ≡ pos 0))
carries_one op first second some known low high e e' = (
  λ f. let p = (by_ranges op first second some known e e').0 f in (between low high first p.0, is_zero second p.1),
  λ r. (by_ranges op first second some known e e').1 (inside low high first r.0, rw r.1),
)

-- a plain opcode is none of the others
record PlainOpcode (op : ℕ) : Type 0 where
  some : 1 ≤ op
  known : op ≤ 13
  six : op ≡ 6 → ⊥
  ten : op ≡ 10 → ⊥
  eleven : op ≡ 11 → ⊥
  twelve : op ≡ 12 → ⊥

plain_opcode : (op : ℕ) → Plain op → PlainOpcode op
plain_opcode op (inl p) =
    let l = p.0 in
    let h = p.1 in
    record { some = omega arith; known = omega arith; six = λ e. omega arith; ten = λ e. omega arith; eleven = λ e. omega arith; twelve = λ e. omega arith }
plain_opcode op (inr (inl p)) =
    let l = p.0 in
    let h = p.1 in
    record { some = omega arith; known = omega arith; six = λ e. omega arith; ten = λ e. omega arith; eleven = λ e. omega arith; twelve = λ e. omega arith }
plain_opcode op (inr (inr t)) =
    record { some = omega arith; known = omega arith; six = λ e. omega arith; ten = λ e. omega arith; eleven = λ e. omega arith; twelve = λ e. omega arith }

carries_plain : (op : ℕ) (first second : ℤ) → Plain op → Fine op first second ↔ (Between (pos 0) (pos 536870911) first × (second ≡ pos 0))
carries_plain op first second p =
    let k = plain_opcode op p in
    carries_one op first second k.some k.known (pos 0) (pos 536870911)
    (rw (ne_eqb op 6 k.six, ne_eqb op 10 k.ten, ne_eqb op 11 k.eleven))
    (rw (ne_eqb op 11 k.eleven, ne_eqb op 12 k.twelve))

carries_signed : (op : ℕ) (first second : ℤ) → (op ≡ 6) ⊎ (op ≡ 10) → Fine op first second ↔ (Between (neg_ℤ (pos 268435455)) (pos 268435455) first × (second ≡ pos 0))
carries_signed op first second =
    ⊎_elim
    (λ (e : op ≡ 6). carries_one op first second (omega arith) (omega arith) (neg_ℤ (pos 268435455)) (pos 268435455) (rw e) (rw e))
    (λ (e : op ≡ 10). carries_one op first second (omega arith) (omega arith) (neg_ℤ (pos 268435455)) (pos 268435455) (rw e) (rw e))

opcode_known : (r : Record) → writable r ≡ true → Between (pos 1) (pos 13) r.opcode
unfolding writable
opcode_known r e = between (pos 1) (pos 13) r.opcode (and_true (within (pos 1 to pos 13) r.opcode) _ e).0

pub carries_exactly : CarriesExactly
carries_exactly =
    record {
      plain = carries_plain;
      signed = carries_signed;
      packed = λ first second. carries_two 11 first second (omega arith) (omega arith) refl refl;
      two = λ first second. carries_two 12 first second (omega arith) (omega arith) refl refl;
      known = opcode_known;
    }

-- ---- what `writing` answers is one of four things
data Answer (list : List ℤ) (room : ℕ) : Result ℕ paper.Refusal → Type 0 where
  ragged : (length list % entries_each ≡ 0 → ⊥) → Answer list room (Err (refusal_in RaggedList))
  bad : {k : ℕ} → FirstBad list k → Answer list room (Err (refusal_in (BadRecord k)))
  over : FineTo list (count list) → room < length (list_bytes list) → Answer list room (Err (refusal_in (NoRoom (length (list_bytes list)))))
  fits : FineTo list (count list) → length (list_bytes list) ≤ room → Answer list room (Ok (length (list_bytes list)))

module _ (list : List ℤ) (room : ℕ) where
  answer : Answer list room (writing list room)
  unfolding writing measuring require and_then and_next
  answer = by_length (eqb (length list % entries_each) 0) refl
    where
      by_room : (b : Bool) → leb (length (list_bytes list)) room ≡ b → FineTo list (count list) → Answer list room (require b (refusal_in (NoRoom (length (list_bytes list)))) >> Ok (length (list_bytes list)))
      by_room true e f = fits f (leb-true _ _ e)
      by_room false e f = over f (leb-false _ _ e)

      by_length : (b : Bool) → eqb (length list % entries_each) 0 ≡ b → Answer list room (writing list room)
      by_length false e = rw e (ragged (eqb-false _ _ e))
      by_length true e =
          let whole = eqb-true (length list % entries_each) 0 e in
          ⊎_elim
          (λ (p : judging list (count list) ≡ Ok tt). rw (e, p) (by_room (leb (length (list_bytes list)) room) refl (record { whole = whole; each = each_passed _ _ (count list) p })))
          (λ (p : (k : ℕ) × ((k < count list) × ((judging list k ≡ Ok tt) × (writable (record_at list k) ≡ false)))).
          let stops = each_stops _ _ p.1.1.0 p.1.1.1 (count list) p.1.0 in
          rw (e, stops) (bad (record { before = record { whole = whole; each = each_passed _ _ p.0 p.1.1.0 }; there = let l = p.1.0 in omega arith; bad = p.1.1.1 })))
          (each_decides (λ k. writable (record_at list k)) (λ k. refusal_in (BadRecord k)) (count list))

-- refusals that are equal have one number and one value
number_of : {x y : paper.Refusal} → ◌≡◌ {A = Result ℕ paper.Refusal} (Err x) (Err y) → x.number ≡ y.number
number_of e = ap (λ (w : paper.Refusal). w.number) (refused_is e)

value_of : {x y : paper.Refusal} → ◌≡◌ {A = Result ℕ paper.Refusal} (Err x) (Err y) → x.value ≡ y.value
value_of e = ap (λ (w : paper.Refusal). w.value) (refused_is e)

-- two first bad records are one
module _ {list : List ℤ} where
  clash : {j k : ℕ} → FineTo list k → j < k → writable (record_at list j) ≡ false → ⊥
  clash f l e = true≢false (sym (f.each _ l) ∙ e)

  same_first : {j k : ℕ} → FirstBad list j → FirstBad list k → j ≡ k
  same_first {j} {k} f g =
      ⊎_elim (λ (l : j < k). absurd (clash g.before l f.bad))
      (λ (l : k ≤ j). ⊎_elim (λ (m : k < j). absurd (clash f.before m g.bad)) (λ (m : j ≤ k). omega arith) (below_or k j))
      (below_or j k)

module _ (list : List ℤ) (room : ℕ) where
  abbrev L : ℕ
  L = length (list_bytes list)

  ragged_exactly : (o : Result ℕ paper.Refusal) → Answer list room o → (o ≡ Err (refusal_in RaggedList)) ↔ (length list % entries_each ≡ 0 → ⊥)
  ragged_exactly _ (ragged h) = (λ _. h, λ _. refl)
  ragged_exactly _ (bad f) = (λ e. absurd (omega (arith, number_of e)), λ h. absurd (h f.before.whole))
  ragged_exactly _ (over f l) = (λ e. absurd (omega (arith, number_of e)), λ h. absurd (h f.whole))
  ragged_exactly _ (fits f l) = (λ e. absurd (ok_refused e), λ h. absurd (h f.whole))

  bad_exactly : (k : ℕ) (o : Result ℕ paper.Refusal) → Answer list room o → (o ≡ Err (refusal_in (BadRecord k))) ↔ FirstBad list k
  bad_exactly k _ (ragged h) = (λ e. absurd (omega (arith, number_of e)), λ g. absurd (h g.before.whole))
  bad_exactly k _ (bad {k = j} f) =
      (λ e. let same : j ≡ k = value_of e in rw (← same) f, λ g. ap (λ i. Err (refusal_in (BadRecord i))) (same_first f g))
  bad_exactly k _ (over f l) = (λ e. absurd (omega (arith, number_of e)), λ g. absurd (clash f g.there g.bad))
  bad_exactly k _ (fits f l) = (λ e. absurd (ok_refused e), λ g. absurd (clash f g.there g.bad))

  no_room_exactly : (n : ℕ) (o : Result ℕ paper.Refusal) → Answer list room o → (o ≡ Err (refusal_in (NoRoom n))) ↔ (FineTo list (count list) × ((n ≡ L) × (room < n)))
  no_room_exactly n _ (ragged h) = (λ e. absurd (omega (arith, number_of e)), λ p. absurd (h p.0.whole))
  no_room_exactly n _ (bad f) = (λ e. absurd (omega (arith, number_of e)), λ p. absurd (clash p.0 f.there f.bad))
  no_room_exactly n _ (over f l) =
      (λ e. let same : L ≡ n = value_of e in (f, (sym same, omega arith)), λ p. ap (λ i. Err (refusal_in (NoRoom i))) (sym p.1.0))
  no_room_exactly n _ (fits f l) = (λ e. absurd (ok_refused e), λ p. absurd (omega (arith, p.1.0, p.1.1)))

  accepted_exactly : (n : ℕ) (o : Result ℕ paper.Refusal) → Answer list room o → (o ≡ Ok n) ↔ (FineTo list (count list) × ((n ≡ L) × (n ≤ room)))
  accepted_exactly n _ (ragged h) = (λ e. absurd (ok_refused (sym e)), λ p. absurd (h p.0.whole))
  accepted_exactly n _ (bad f) = (λ e. absurd (ok_refused (sym e)), λ p. absurd (clash p.0 f.there f.bad))
  accepted_exactly n _ (over f l) = (λ e. absurd (ok_refused (sym e)), λ p. absurd (omega (arith, p.1.0, p.1.1)))
  accepted_exactly n _ (fits f l) =
      (λ e. let same : L ≡ n = ok_is e in (f, (sym same, omega arith)), λ p. ap Ok (sym p.1.0))

pub refused_exactly : RefusedExactly
refused_exactly =
    record {
      ragged = λ list room. ragged_exactly list room (writing list room) (answer list room);
      bad = λ list room k. bad_exactly list room k (writing list room) (answer list room);
      no_room = λ list room n. no_room_exactly list room n (writing list room) (answer list room);
      accepted = λ list room n. accepted_exactly list room n (writing list room) (answer list room);
    }
