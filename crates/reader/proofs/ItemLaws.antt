-- The reader as an iterator: after an item fewer bytes are left. It imports `Statements`, so that a wrong promise of
-- `next` is refused there first.
use mathlib.Core.Path.{◌≡◌, refl, sym, ap, ◌∙◌}
use mathlib.Core.List.{List}
use Prim.Native.Nat.{ℕ, ◌<◌}
use native.Mathlib.Omega.{arith}
use lib.ListN.{length}
use denote.Ref.{Bor}
use Rattle.std.specs.Prelude.{Result, Ok}
use Rattle.numbers.specs.Refusal.{Stop}
use Rattle.annotations.specs.Step.{Stepped, end, step_at}
use Rattle.annotations.specs.Promises.{step_in}
use Rattle.annotations.specs.declared.step.Annotated.{Annotated}
use Rattle.annotations.specs.declared.step.Step.{Step}
use Rattle.annotations.specs.declared.step.Step.TheVariants.{Annotation, End, Refused}
use Rattle.numbers.specs.declared.refusal.PlacedRefusal.{PlacedRefusal}
use Rattle.reader.specs.Place.{place_after}
use Rattle.reader.specs.Promises.{Moving, bytes_left}
use Rattle.reader.specs.declared.BinaryAnnotationsIter.{BinaryAnnotationsIter}
use Rattle.reader.proofs.EndLaws.{EndsAt, found, ended, stopped, step_ends}
use Rattle.reader.proofs.Statements.{same_step, end_in}

module _ {r r' : BinaryAnnotationsIter} {step : Step Annotated} (m : Moving r step r') where
  less : ((place : ℕ) → step_in step ≡ Ok (end place) → ⊥) → bytes_left r' < bytes_left r
  unfolding place_after
  less n = go (step_at r.bytes.now r.at) (step_ends r.bytes.now r.at) refl
    where
      same : length r'.bytes.now ≡ length r.bytes.now
      same = ap (λ (y : Bor (List ℕ)). length y.now) m.bytes

      go : (o : Result Stepped Stop) → EndsAt r.bytes.now r.at o → step_at r.bytes.now r.at ≡ o → bytes_left r' < bytes_left r
      go _ (found {x} i l) e = let p : r'.at ≡ x.next = m.place ∙ ap place_after e in let k = same in omega arith
      go _ ended e = absurd (n _ (m.answer ∙ e))
      go _ (stopped {why} i l) e = let p : r'.at ≡ why.place = m.place ∙ ap place_after e in let k = same in omega arith

  pub less_found : {a : Annotated} → step ≡ Annotation a → bytes_left r' < bytes_left r
  less_found e = less (λ place f. absurd (let g = same_step step (End place) (f ∙ sym (end_in place)) in let z : ◌≡◌ {A = ℕ} 0 1 = cc in omega arith))

  pub less_refused : {why : PlacedRefusal} → step ≡ Refused why → bytes_left r' < bytes_left r
  less_refused e = less (λ place f. absurd (let g = same_step step (End place) (f ∙ sym (end_in place)) in let z : ◌≡◌ {A = ℕ} 0 1 = cc in omega arith))
