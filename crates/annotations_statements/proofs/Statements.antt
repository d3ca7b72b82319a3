-- The statements on annotations, each proved under the name of its record.
use mathlib.Core.Path.{◌≡◌, refl, sym, ◌∙◌, ap}
use mathlib.Core.Logic.{◌↔◌}
use mathlib.Core.Bool.{Bool, true, false}
use mathlib.Core.List.{List, [], ◌∷◌}
use Prim.Native.Nat.{ℕ, zero, suc, ◌+◌, ◌-◌, ◌*◌, ◌/◌, ◌%◌, ◌≤◌, ◌<◌}
use native.Mathlib.Omega.{arith}
use borrow.Author.Tests.{lt-ltb, le-ltb, eq-eqb, ne_eqb, ltb-true, ltb-false, leb-true, leb-false}
use lib.Dec.{leb, ltb}
use lib.ListN.{length, get_or}
use lib.IntN.{pos, neg_ℤ}
use Rattle.std.specs.Prelude.{Result, Ok, Err}
use Rattle.outcome.specs.Outcome.{and_next, and_then, ◌>>=◌, ◌>>◌, require, raise}
use Rattle.outcome.proofs.OutcomeLaws.{by_test, ok_refused}
use Rattle.outcome.proofs.OnlyLaws.{only, only₂}
use Rattle.numbers.specs.Refusal.{Stop, stop}
use Rattle.numbers.specs.Number.{number_at}
use Rattle.annotations.specs.Signed.{signed_of}
use Rattle.annotations.specs.Step.{PlacedTriple, Stepped, step_at}
use Rattle.decode.specs.Decode.{Run, on_step, run_from, rest, decode_all, entries_each, no_room_for, with_place, decoding}
use Rattle.numbers.specs.Refusal as number
use Rattle.annotations.specs.Promises.{step_in}
use Rattle.decode.specs.Refusal as decoding_all
use Rattle.annotations_statements.specs.Statements.{SingleValued, SignedReading, AtMostHalf, form, Exactly, NumberExactly, StepsTo, closing, SteppedThrough, Agreement, DecodeExactly}
use Rattle.annotations.proofs.MoveLaws.{StepMoves, step_moves}
use Rattle.decode.proofs.RunLaws.{rest_on, rest_end, rest_refused, half}
use Rattle.annotations_statements.proofs.Told.{told}
use Rattle.numbers.specs.declared.refusal.Refusal.TheVariants.{ShortData, InvalidCompressedAnnotation}
use Rattle.numbers.specs.declared.number.Number.{Number}

pub single_valued : SingleValued
single_valued =
    record {
      uncompress_next = λ s at a b p q. only number.told told.uncompressed (number_at s at) a b p.answer q.answer;
      of_step_at = λ s at a b p q. only step_in told.step (step_at s at) a b p.answer q.answer;
      of_decode_all = λ s store a b x y p q.
          only₂ decoding_all.told told.decoded (decoding s (length store)) _ a b x y (p.answer, p.after) (q.answer, q.after);
    }

pub at_most_half : AtMostHalf
at_most_half = record { is = half }

-- ---- the signed reading
reads_even : (v : ℕ) → signed_of (2 * v) ≡ pos v
unfolding signed_of
reads_even v =
    let r : 2 * v % 2 ≡ 0 = omega arith in
    let q : 2 * v / 2 ≡ v = omega arith in
    rw (eq-eqb (2 * v % 2) 0 r, q)

reads_odd : (v : ℕ) → signed_of (2 * v + 1) ≡ neg_ℤ (pos v)
unfolding signed_of
reads_odd v =
    let r : (2 * v + 1) % 2 ≡ 1 = omega arith in
    let q : (2 * v + 1) / 2 ≡ v = omega arith in
    rw (ne_eqb ((2 * v + 1) % 2) 0 (omega arith), q)

pub signed_reading : SignedReading
unfolding signed_of
signed_reading =
    record {
      even = reads_even;
      odd = reads_odd;
      zero = refl;
      one = refl;
      largest = refl;
      least = refl;
    }

-- ---- 7 and 8 exactly
form_four : (b : ℕ) → 0xc0 ≤ b → form b ≡ 4
form_four b h = rw (le-ltb b 0x80 (omega arith), le-ltb b 0xc0 h)

form_two : (b : ℕ) → 0x80 ≤ b → b < 0xc0 → form b ≡ 2
form_two b h k = rw (le-ltb b 0x80 h, lt-ltb b 0xc0 k)

form_one : (b : ℕ) → b < 0x80 → form b ≡ 1
form_one b h = rw (lt-ltb b 0x80 h)

form_least : (b : ℕ) → 1 ≤ form b
form_least b = by_test (λ (n : ℕ). 1 ≤ n) (ltb b 0x80) (λ _. omega arith) (λ _. by_test (λ (n : ℕ). 1 ≤ n) (ltb b 0xc0) (λ _. omega arith) (λ _. omega arith))

-- refusals of different numbers differ
other : {x y : Stop} → ◌≡◌ {A = Result Number Stop} (Err x) (Err y) → x.refusal.number ≡ y.refusal.number
other {x} {y} e = let f : x ≡ y = cc in ap (λ (w : Stop). w.refusal.number) f

module _ (s : List ℕ) (at : ℕ) where
  abbrev b1 : ℕ
  b1 = get_or s at 0

  read_exactly : (n : Number) → at + form b1 ≤ length s → b1 < 0xe0 → Exactly s at (Ok n)
  read_exactly n h k =
      record {
        short = (λ e. absurd (ok_refused e), λ l. absurd (omega arith));
        invalid = (λ e. absurd (ok_refused e), λ l. absurd (omega arith));
        read = (λ _. (h, k), λ _. (n, refl));
      }

  short_exactly : length s < at + form b1 → Exactly s at (Err (stop ShortData (length s)))
  short_exactly h =
      record {
        short = (λ _. h, λ _. refl);
        invalid = (λ e. absurd (omega (arith, other e)), λ l. absurd (omega (arith, form_four b1 (omega arith))));
        read = (λ e. absurd (ok_refused (sym e.1)), λ l. absurd (omega arith));
      }

  invalid_exactly : at + 4 ≤ length s → 0xe0 ≤ b1 → Exactly s at (Err (stop InvalidCompressedAnnotation (at + 4)))
  invalid_exactly h k =
      record {
        short = (λ e. absurd (omega (arith, other e)), λ l. absurd (omega (arith, form_four b1 (omega arith))));
        invalid = (λ _. (h, k), λ _. refl);
        read = (λ e. absurd (ok_refused (sym e.1)), λ l. absurd (omega arith));
      }

  exactly : Exactly s at (number_at s at)
  unfolding number_at
  exactly =
      let P = Exactly s at in
      by_test P (leb (at + 1) (length s))
      (λ h.
      let one = leb-true (at + 1) (length s) h in
      by_test P (ltb b1 0x80)
      (λ k.
      let low = ltb-true b1 0x80 k in
      read_exactly _ (omega (arith, form_one b1 low)) (omega arith))
      (λ k.
      let high = ltb-false b1 0x80 k in
      by_test P (ltb b1 0xc0)
      (λ m.
      let mid = ltb-true b1 0xc0 m in
      let f = form_two b1 high mid in
      by_test P (leb (at + 2) (length s))
      (λ l. let two = leb-true (at + 2) (length s) l in read_exactly _ (omega arith) (omega arith))
      (λ l. let two = leb-false (at + 2) (length s) l in short_exactly (omega arith)))
      (λ m.
      let f = form_four b1 (ltb-false b1 0xc0 m) in
      by_test P (leb (at + 4) (length s))
      (λ l.
      let four = leb-true (at + 4) (length s) l in
      by_test P (ltb b1 0xe0) (λ n. read_exactly _ (omega arith) (ltb-true b1 0xe0 n))
      (λ n. invalid_exactly four (ltb-false b1 0xe0 n)))
      (λ l. let four = leb-false (at + 4) (length s) l in short_exactly (omega arith)))))
      (λ h. let none = leb-false (at + 1) (length s) h in short_exactly (omega (arith, form_least b1)))

pub number_exactly : NumberExactly
number_exactly = record { is = exactly }

-- ---- stepping and decoding all agree
run_steps : (s : List ℕ) (fuel at : ℕ) → length s - at < fuel → SteppedThrough s at (run_from s fuel at)
unfolding run_from on_step
run_steps s zero at h = absurd (omega arith)
run_steps s (suc fuel) at h = go (run_steps s fuel) (step_at s at) (step_moves s at) refl
  where
    go : ((p : ℕ) → length s - p < fuel → SteppedThrough s p (run_from s fuel p)) → (y : Result Stepped Stop) → StepMoves s at y → step_at s at ≡ y → SteppedThrough s at (on_step at y (run_from s fuel))
    go later _ (StepMoves.found {x} l m) e = let r = later x.next (omega arith) in record { steps = StepsTo.more e r.steps; closes = r.closes }
    go later _ (StepMoves.ended {p}) e = record { steps = StepsTo.none; closes = e }
    go later _ (StepMoves.stopped {why}) e = record { steps = StepsTo.none; closes = e }

closes_rest : (s : List ℕ) (at : ℕ) (last : Result ℕ Stop) → step_at s at ≡ closing last → record { found = []; at = at; last = last } ≡ rest s at
closes_rest s at (Ok place) e = sym (rest_end s at e)
closes_rest s at (Err why) e = sym (rest_refused s at e)

steps_rest : {s : List ℕ} {at e : ℕ} {l : List PlacedTriple} (last : Result ℕ Stop) → StepsTo s at l e → step_at s e ≡ closing last → record { found = l; at = e; last = last } ≡ rest s at
steps_rest {s} {at} last StepsTo.none c = closes_rest s at last c
steps_rest {s} {at} last (StepsTo.more {x = x} e r) c =
    ap (λ (q : Run). record { found = x ∷ q.found; at = q.at; last = q.last }) (steps_rest last r c) ∙ sym (rest_on s at e)

pub agreement : Agreement
unfolding decode_all rest
agreement =
    record {
      is = λ s. run_steps s (suc (length s - 0)) 0 (omega arith);
      only = λ s r t. steps_rest r.last t.steps t.closes;
    }

-- ---- decoding all, exactly
decodes : (last : Result ℕ Stop) (m room n : ℕ) → ((raise with_place (last >> Ok m) >>= λ k. require (leb (entries_each * k) room) (no_room_for (entries_each * k)) >> Ok k) ≡ Ok n) ↔ ((n ≡ m) × ((place : ℕ) × (last ≡ Ok place)) × (entries_each * n ≤ room))
unfolding raise require and_then and_next
decodes (Err why) m room n =
    (λ e. absurd (ok_refused (sym e)), λ t. absurd (ok_refused (sym t.1.1)))
decodes (Ok place) m room n = go (leb (entries_each * m) room) refl
  where
    go : (b : Bool) → leb (entries_each * m) room ≡ b → ((require b (no_room_for (entries_each * m)) >> Ok m) ≡ Ok n) ↔ ((n ≡ m) × ((p : ℕ) × (◌≡◌ {A = Result ℕ Stop} (Ok place) (Ok p))) × (entries_each * n ≤ room))
    go true h =
        let fits = leb-true (entries_each * m) room h in
        (λ e. let f : n ≡ m = cc in (f, (place, refl), omega arith), λ t. rw t.0)
    go false h =
        let over = leb-false (entries_each * m) room h in
        (λ e. absurd (ok_refused (sym e)), λ t. absurd (omega (arith, t.0, t.2)))

pub decode_exactly : DecodeExactly
unfolding decoding
decode_exactly = record { is = λ s room n. decodes (decode_all s).last (length (decode_all s).found) room n }
