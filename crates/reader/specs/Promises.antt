-- The promises of the reader's operations: the whole answer, as document 01 numbers it, and the reader at exit.
use Rattle.std.specs.Prelude.{◌≡◌, List, ℕ, ◌-◌, length, Option, Some, None, Result, Ok, Err}
use Rattle.std.specs.Borrow.{Bor}
use Rattle.annotations.specs.Step.{step_at}
use Rattle.annotations.specs.Promises.{step_in}
use Rattle.annotations.specs.declared.step.Annotated.{Annotated}
use Rattle.annotations.specs.declared.step.Step.{Step}
use Rattle.annotations.specs.declared.step.Step.TheVariants as step
use Rattle.numbers.specs.declared.refusal.PlacedRefusal.{PlacedRefusal}
use Rattle.reader.specs.Place.{place_after}
use Rattle.reader.specs.declared.BinaryAnnotationsIter.{BinaryAnnotationsIter}
use Rattle.reader.specs.declared.Moved.{Moved}

-- `new`: the very bytes that were lent, at their start
pub record Starting (lent : Bor (List ℕ)) (r : BinaryAnnotationsIter) : Type 0 where
  pub bytes : r.bytes ≡ lent
  pub place : r.at ≡ 0

-- `next`: the step at the reader's place; afterwards the reader has the same bytes and the place after the step
pub record Moving (r : BinaryAnnotationsIter) (step : Step Annotated) (r' : BinaryAnnotationsIter) : Type 0 where
  pub answer : step_in step ≡ step_at r.bytes.now r.at
  pub bytes : r'.bytes ≡ r.bytes
  pub place : r'.at ≡ place_after (step_at r.bytes.now r.at)

-- `next_at`: the same of a reader made for the call
pub record MovingAt (s : List ℕ) (at : ℕ) (moved : Moved) : Type 0 where
  pub answer : step_in moved.step ≡ step_at s at
  pub place : moved.place ≡ place_after (step_at s at)

-- how many bytes are not yet read
abbrev pub bytes_left : BinaryAnnotationsIter → ℕ
bytes_left r = length r.bytes.now - r.at

-- the reader as an iterator: what a call of `next` answers, unless it is the end
abbrev pub item_of : Step Annotated → Option (Result Annotated PlacedRefusal)
item_of (step.Annotation a) = Some (Ok a)
item_of (step.End place) = None
item_of (step.Refused why) = Some (Err why)

pub record Giving (r : BinaryAnnotationsIter) (item : Option (Result Annotated PlacedRefusal)) (r' : BinaryAnnotationsIter) : Type 0 where
  pub step : Step Annotated
  pub moving : Moving r step r'
  pub gives : item ≡ item_of step
