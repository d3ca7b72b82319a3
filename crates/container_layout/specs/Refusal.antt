-- Request 2026-05, "Refuse": what each refusal of the code is on paper. 10 counts bytes.
use Rattle.std.specs.Prelude.{Result}
use Rattle.outcome.specs.Outcome.{raise}
use Rattle.outcome.specs.Refusal as paper
use Rattle.container_layout.specs.declared.refusal.Refusal.{Refusal}
use Rattle.container_layout.specs.declared.refusal.Refusal.TheVariants.{InvalidPageSize, SizesDiffer, DirectoryTooLarge, Over32Bits, NoRoom}

abbrev pub refusal_in : Refusal → paper.Refusal
refusal_in (InvalidPageSize size) = record { number = 3; value = size }
refusal_in SizesDiffer = record { number = 22; value = 0 }
refusal_in DirectoryTooLarge = record { number = 23; value = 0 }
refusal_in Over32Bits = record { number = 24; value = 0 }
refusal_in (NoRoom needed) = record { number = 10; value = needed }

-- what an answer says on paper
abbrev pub told : {A : Type 0} → Result A Refusal → Result A paper.Refusal
told r = raise refusal_in r
