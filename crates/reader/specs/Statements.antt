-- Statements about the reader beyond its promises. proofs/Statements.antt proves each record.
use Rattle.std.specs.Prelude.{◌≡◌, List, [], ◌∷◌, map, ℕ, zero, suc, ◌≤◌, length, Result}
use Rattle.std.specs.Borrow.{Bor}
use Rattle.outcome.specs.Only.{Only, Only₂}
use Rattle.numbers.specs.Refusal.{Stop}
use Rattle.annotations.specs.Step.{Stepped, step_at}
use Rattle.annotations.specs.Promises.{step_in}
use Rattle.annotations.specs.declared.step.Annotated.{Annotated}
use Rattle.annotations.specs.declared.step.Step.{Step}
use Rattle.annotations.specs.declared.step.Step.TheVariants.{End}
use Rattle.reader.specs.Place.{place_after}
use Rattle.reader.specs.Promises.{Starting, Moving, MovingAt, Giving}
use Rattle.reader.specs.declared.BinaryAnnotationsIter.{BinaryAnnotationsIter}

-- no second answer, and no other reader at exit, satisfies a promise
pub record SingleValued : Type 0 where
  pub new : (lent : Bor (List ℕ)) → Only (Starting lent)
  pub next : (r : BinaryAnnotationsIter) → Only₂ (Moving r)
  pub item : (r : BinaryAnnotationsIter) → Only₂ (Giving r)
  pub next_at : (s : List ℕ) (at : ℕ) → Only (MovingAt s at)

-- at or past the end `next` answers the end, at the length; after an end it answers it again, and the reader stays
pub record StaysAtTheEnd : Type 0 where
  pub at_the_end : (r r' : BinaryAnnotationsIter) (step : Step Annotated) → length r.bytes.now ≤ r.at → Moving r step r'
      → (step ≡ End (length r.bytes.now)) × (r'.at ≡ length r.bytes.now)
  pub after_an_end : (r r' r'' : BinaryAnnotationsIter) (place : ℕ) (step : Step Annotated) → Moving r (End place) r'
      → Moving r' step r'' → (step ≡ End place) × (r'' ≡ r')

-- repeated calls of `next`: their answers, and the reader after the last
pub data Called : BinaryAnnotationsIter → List (Step Annotated) → BinaryAnnotationsIter → Type 0 where
  none : {r : BinaryAnnotationsIter} → Called r [] r
  more : {r r' last : BinaryAnnotationsIter} {step : Step Annotated} {later : List (Step Annotated)} → Moving r step r'
      → Called r' later last → Called r (step ∷ later) last

-- n steps, each at the place after the one before: what they answer, and the place after the last
unfoldable pub steps_from : List ℕ → ℕ → ℕ → List (Result Stepped Stop)
steps_from s at zero = []
steps_from s at (suc n) = step_at s at ∷ steps_from s (place_after (step_at s at)) n

unfoldable pub place_from : List ℕ → ℕ → ℕ → ℕ
place_from s at zero = at
place_from s at (suc n) = place_from s (place_after (step_at s at)) n

-- n calls of `next` on a new reader are n steps from place 0: the same answers, the same place, the same bytes
pub record CallsAreSteps (lent : Bor (List ℕ)) (steps : List (Step Annotated)) (last : BinaryAnnotationsIter) : Type 0 where
  pub answers : map step_in steps ≡ steps_from lent.now 0 (length steps)
  pub place : last.at ≡ place_from lent.now 0 (length steps)
  pub bytes : last.bytes ≡ lent

pub record Calling : Type 0 where
  pub is : (lent : Bor (List ℕ)) (r last : BinaryAnnotationsIter) (steps : List (Step Annotated)) → Starting lent r
      → Called r steps last → CallsAreSteps lent steps last
