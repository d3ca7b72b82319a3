-- Document 01, "Refusal numbers", 7 to 9: what each refusal of the code is on paper, alone and with its place.
use Rattle.std.specs.Prelude.{ℕ, Result}
use Rattle.outcome.specs.Outcome.{raise}
use Rattle.outcome.specs.Refusal as paper
use Rattle.numbers.specs.declared.refusal.Refusal.{Refusal}
use Rattle.numbers.specs.declared.refusal.PlacedRefusal.{PlacedRefusal}
use Rattle.numbers.specs.declared.refusal.Refusal.TheVariants.{ShortData, InvalidCompressedAnnotation, UnknownBinaryAnnotation}

abbrev pub refusal_in : Refusal → paper.Refusal
refusal_in ShortData = record { number = 7; value = 0 }
refusal_in InvalidCompressedAnnotation = record { number = 8; value = 0 }
refusal_in (UnknownBinaryAnnotation opcode) = record { number = 9; value = opcode }

-- a refusal with its place: "always with the place after it"
pub record Stop : Type 0 where
  pub refusal : paper.Refusal
  pub place : ℕ

abbrev pub stop : Refusal → ℕ → Stop
stop why place = record { refusal = refusal_in why; place = place }

abbrev pub stop_in : PlacedRefusal → Stop
stop_in why = stop why.refusal why.place

-- an answer, with its refusal as it is on paper
abbrev pub told : {A : Type 0} → Result A PlacedRefusal → Result A Stop
told r = raise stop_in r
