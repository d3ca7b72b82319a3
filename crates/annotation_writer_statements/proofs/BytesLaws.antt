-- `MoreBytes` and `FromAPlace`, from the laws of `annotations`.
use mathlib.Core.Path.{◌≡◌, sym, ◌∙◌, ap}
use mathlib.Core.Logic.{⊎_elim}
use mathlib.Core.List.{List, ◌++◌}
use Prim.Native.Nat.{ℕ, ◌≤◌, ◌<◌}
use native.Mathlib.Omega.{arith}
use lib.ListN.{length}
use Rattle.std.specs.Prelude.{Result, Ok, Err}
use Rattle.outcome.proofs.OutcomeLaws.{below_or, ok_refused, refused_is}
use Rattle.numbers.specs.Refusal.{Stop}
use Rattle.annotations.specs.Step.{PlacedTriple, Stepped, annotation, end, step_at}
use Rattle.annotations.proofs.StepLaws.{past_end}
use Rattle.annotations.proofs.PrefixLaws.{StepKeeps, step_keeps}
use Rattle.annotations.proofs.ShiftLaws.{later_step, step_later}
use Rattle.annotation_writer_statements.specs.Statements.{MoreBytes, FromAPlace}

-- an annotation is no end
pub not_an_end : {x : PlacedTriple} {p : ℕ} → ◌≡◌ {A = Result Stepped Stop} (Ok (annotation x)) (Ok (end p)) → ⊥
not_an_end e = let z : ◌≡◌ {A = ℕ} 0 1 = cc in omega arith

module _ (s t : List ℕ) (at : ℕ) where
  found_more : {x : PlacedTriple} → step_at s at ≡ Ok (annotation x) → step_at (s ++ t) at ≡ Ok (annotation x)
  found_more {x} e =
      ⊎_elim (λ (l : at < length s). go (step_at s at) (step_keeps s t at l) e)
      (λ (l : length s ≤ at). absurd (not_an_end (sym e ∙ past_end s at l))) (below_or at (length s))
    where
      go : (o : Result Stepped Stop) → StepKeeps s t (step_at (s ++ t) at) o → o ≡ Ok (annotation x) → step_at (s ++ t) at ≡ Ok (annotation x)
      go _ (StepKeeps.found f) g = f ∙ g
      go _ (StepKeeps.stopped f) g = absurd (ok_refused (sym g))
      go _ (StepKeeps.ended f) g = absurd (not_an_end (sym g))
      go _ StepKeeps.short g = absurd (ok_refused (sym g))

  stopped_more : {why : Stop} → step_at s at ≡ Err why → (why.refusal.number ≡ 7 → ⊥) → step_at (s ++ t) at ≡ Err why
  stopped_more {why} e n =
      ⊎_elim (λ (l : at < length s). go (step_at s at) (step_keeps s t at l) e)
      (λ (l : length s ≤ at). absurd (ok_refused (sym (past_end s at l) ∙ e))) (below_or at (length s))
    where
      go : (o : Result Stepped Stop) → StepKeeps s t (step_at (s ++ t) at) o → o ≡ Err why → step_at (s ++ t) at ≡ Err why
      go _ (StepKeeps.found f) g = absurd (ok_refused g)
      go _ (StepKeeps.stopped f) g = f ∙ g
      go _ (StepKeeps.ended f) g = absurd (ok_refused g)
      go _ StepKeeps.short g = absurd (n (ap (λ (x : Stop). x.refusal.number) (sym (refused_is g))))

  closed_more : {p : ℕ} → at < length s → step_at s at ≡ Ok (end p) → step_at (s ++ t) at ≡ Ok (end (length (s ++ t)))
  closed_more {p} l e = go (step_at s at) (step_keeps s t at l) e
    where
      go : (o : Result Stepped Stop) → StepKeeps s t (step_at (s ++ t) at) o → o ≡ Ok (end p) → step_at (s ++ t) at ≡ Ok (end (length (s ++ t)))
      go _ (StepKeeps.found f) g = absurd (not_an_end g)
      go _ (StepKeeps.stopped f) g = absurd (ok_refused (sym g))
      go _ (StepKeeps.ended f) g = f
      go _ StepKeeps.short g = absurd (ok_refused (sym g))

pub more_bytes : MoreBytes
more_bytes = record { found = found_more; stopped = stopped_more; closed = closed_more }

pub from_a_place : FromAPlace
unfolding later_step
from_a_place =
    record {
      found = λ u w a e. step_later u w a ∙ ap (later_step (length u)) e;
      closed = λ u w a e. step_later u w a ∙ ap (later_step (length u)) e;
      stopped = λ u w a e. step_later u w a ∙ ap (later_step (length u)) e;
    }
