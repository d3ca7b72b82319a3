-- Request 2026-01, "Refuse with new numbers": what each refusal of the code is on paper. 10 counts bytes.
use Rattle.std.specs.Prelude.{Result}
use Rattle.outcome.specs.Outcome.{raise}
use Rattle.outcome.specs.Refusal as paper
use Rattle.annotation_writer.specs.declared.refusal.Refusal.{Refusal}
use Rattle.annotation_writer.specs.declared.refusal.Refusal.TheVariants.{BadRecord, RaggedList, NoRoom}

abbrev pub refusal_in : Refusal → paper.Refusal
refusal_in (BadRecord index) = record { number = 20; value = index }
refusal_in RaggedList = record { number = 21; value = 0 }
refusal_in (NoRoom needed) = record { number = 10; value = needed }

-- an answer, with its refusal as it is on paper
abbrev pub told : {A : Type 0} → Result A Refusal → Result A paper.Refusal
told r = raise refusal_in r
