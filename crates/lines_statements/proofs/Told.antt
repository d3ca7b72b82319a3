-- Each answer can be read back from what it says on paper, so no two answers say the same, and the promise has one answer.
use mathlib.Core.Path.{◌≡◌, sym, ap}
use mathlib.Core.Option.{Option, none, some}
use Prim.Native.Nat.{ℕ}
use native.Mathlib.Omega.{arith}
use lib.ListN.{length}
use Rattle.std.specs.Prelude.{Result, Ok, Err}
use Rattle.outcome.specs.Outcome.{raise}
use Rattle.outcome.proofs.OnlyLaws.{only₂}
use Rattle.outcome.proofs.OutcomeLaws.{ok_is, ok_refused, refused_is}
use Rattle.numbers.specs.declared.refusal.PlacedRefusal.{PlacedRefusal}
use Rattle.annotations_statements.proofs.Told as annotations
use Rattle.decode.specs.Decode.{DecodeStop}
use Rattle.lines.specs.Lines.{running, how_many}
use Rattle.lines.specs.Refusal.{stop_in}
use Rattle.lines.specs.Refusal as lines
use Rattle.lines.specs.declared.refusal.Refusal.{Refusal}
use Rattle.lines.specs.declared.refusal.Refusal.TheVariants.{Annotation, BadLine, NoRoom}
use Rattle.lines_statements.specs.Statements.{Told, SingleValued}

-- ---- the parts of a refusal on paper
module _ {x y : DecodeStop} (e : x ≡ y) where
  number : x.refusal.number ≡ y.refusal.number
  number = ap (λ (d : DecodeStop). d.refusal.number) e

  value : x.refusal.value ≡ y.refusal.value
  value = ap (λ (d : DecodeStop). d.refusal.value) e

  place : x.place ≡ y.place
  place = ap (λ (d : DecodeStop). d.place) e

some_is : {m n : ℕ} → some m ≡ some n → m ≡ n
some_is e = cc

some_none : {n : ℕ} → ◌≡◌ {A = Option ℕ} (some n) none → ⊥
some_none e = let z : ◌≡◌ {A = ℕ} 0 1 = cc in omega arith

placed_is : (v w : PlacedRefusal) → stop_in (Annotation v) ≡ stop_in (Annotation w) → v ≡ w
placed_is v w e =
    let r = (annotations.told).refusal v.refusal w.refusal (ap (λ (d : DecodeStop). d.refusal) e) in
    let p = some_is (place e) in
    λ i. record { refusal = r i; place = p i }

refusal_is : (v w : Refusal) → stop_in v ≡ stop_in w → v ≡ w
refusal_is (Annotation v) (Annotation w) e = ap Annotation (placed_is v w e)
refusal_is (Annotation v) (BadLine j) e = absurd (some_none (place e))
refusal_is (Annotation v) (NoRoom n) e = absurd (some_none (place e))
refusal_is (BadLine i) (Annotation w) e = absurd (some_none (sym (place e)))
refusal_is (BadLine i) (BadLine j) e = ap BadLine (value e)
refusal_is (BadLine i) (NoRoom n) e = absurd (omega (arith, number e))
refusal_is (NoRoom m) (Annotation w) e = absurd (some_none (sym (place e)))
refusal_is (NoRoom m) (BadLine j) e = absurd (omega (arith, number e))
refusal_is (NoRoom m) (NoRoom n) e = ap NoRoom (value e)

ran_is : (a b : Result ℕ Refusal) → lines.told a ≡ lines.told b → a ≡ b
unfolding raise
ran_is (Ok m) (Ok n) e = ap Ok (ok_is e)
ran_is (Ok m) (Err w) e = absurd (ok_refused e)
ran_is (Err v) (Ok n) e = absurd (ok_refused (sym e))
ran_is (Err v) (Err w) e = ap Err (refusal_is v w (refused_is e))

pub told : Told
told = record { refusal = refusal_is; ran = ran_is }

pub single_valued : SingleValued
single_valued =
    record {
      run_lines = λ s store a b x y p q.
          only₂ lines.told told.ran (how_many (running s (length store))) _ a b x y (p.answer, p.after) (q.answer, q.after);
    }
