-- Document 01, "One step answers an annotation, the end, or a refusal, always with the place after it".
use Rattle.std.specs.Prelude.{ℕ, Result, Ok, Err}
use Rattle.numbers.specs.Refusal.{Stop}
use Rattle.annotations.specs.Step.{Stepped, annotation, end}

-- the place after a step, whatever it answers
unfoldable pub place_after : Result Stepped Stop → ℕ
place_after (Ok (annotation x)) = x.next
place_after (Ok (end place)) = place
place_after (Err why) = why.place
