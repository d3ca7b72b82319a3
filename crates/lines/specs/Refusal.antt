-- What each refusal of a line program is on paper, alone and with its place.
use Rattle.std.specs.Prelude.{ℕ, Option, Some, None, Result}
use Rattle.outcome.specs.Outcome.{raise}
use Rattle.outcome.specs.Refusal as paper
use Rattle.numbers.specs.Refusal as step
use Rattle.decode.specs.Decode.{DecodeStop, with_place, no_room_for}
use Rattle.lines.specs.Lines.{bad_line}
use Rattle.lines.specs.declared.refusal.Refusal.{Refusal}
use Rattle.lines.specs.declared.refusal.Refusal.TheVariants.{Annotation, BadLine, NoRoom}

abbrev pub stop_in : Refusal → DecodeStop
stop_in (Annotation why) = with_place (step.stop_in why)
stop_in (BadLine i) = bad_line i
stop_in (NoRoom n) = no_room_for n

abbrev pub refusal_in : Refusal → paper.Refusal
refusal_in why = (stop_in why).refusal

abbrev pub place_in : Refusal → Option ℕ
place_in (Annotation why) = Some why.place
place_in (BadLine i) = None
place_in (NoRoom n) = None

-- an answer, with its refusal as it is on paper
abbrev pub told : {A : Type 0} → Result A Refusal → Result A DecodeStop
told r = raise stop_in r
