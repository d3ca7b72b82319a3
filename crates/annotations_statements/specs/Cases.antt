-- Document 01, "File F and other checks": the (P) cases on annotations, with what request 2026-06 adds.
-- proofs/Cases.antt proves them by computation.
use Rattle.std.specs.Prelude.{◌≡◌, Bool, true, false, [], ◌∷◌, ℕ, ℤ, pos, negsuc, Result, Ok, Err}
use Rattle.numbers.specs.Refusal.{Stop}
use Rattle.numbers.specs.Number.{number_at}
use Rattle.annotations.specs.Annotation.{triple}
use Rattle.annotations.specs.Step.{Stepped, annotation, end, placed, step_at}
use Rattle.numbers.specs.declared.number.Number.{Number}

-- a number's value, or an annotation, whether it is shortest, and the place after it, from place 0 on; a refusal's
-- number and value, and the place after it
abbrev reads : ℕ → Bool → ℕ → Result Number Stop
reads value shortest next = Ok (record { value = value; next = next; taken = next; shortest = shortest })

abbrev finds : ℕ → ℤ → ℤ → Bool → ℕ → Result Stepped Stop
finds op first second shortest next = Ok (annotation (placed (triple op first second) shortest next))

abbrev refuses : ℕ → ℕ → ℕ → Result Stepped Stop
refuses number value place = Err (record { refusal = record { number = number; value = value }; place = place })

pub record Cases : Type 0 where
  pub one_byte : number_at (0x7f ∷ []) 0 ≡ reads 127 true 1
  pub long_form : number_at (0x80 ∷ 0x7f ∷ []) 0 ≡ reads 127 false 2
  pub two_bytes : number_at (0xbf ∷ 0xff ∷ []) 0 ≡ reads 16383 true 2
  pub four_bytes : number_at (0xc0 ∷ 0 ∷ 0x40 ∷ 0 ∷ []) 0 ≡ reads 16384 true 4
  pub largest : number_at (0xdf ∷ 0xff ∷ 0xff ∷ 0xff ∷ []) 0 ≡ reads 536870911 true 4
  pub invalid : step_at (0xe0 ∷ 0 ∷ 0 ∷ 0 ∷ []) 0 ≡ refuses 8 0 4
  pub short : step_at (0xe0 ∷ 0 ∷ 0 ∷ []) 0 ≡ refuses 7 0 3
  pub both : step_at (0x0b ∷ 0x72 ∷ []) 0 ≡ finds 11 (pos 2) (negsuc 2) true 2
  pub negative : step_at (0x06 ∷ 0x0f ∷ []) 0 ≡ finds 6 (negsuc 6) (pos 0) true 2
  pub odd_zero_read : step_at (0x06 ∷ 0x01 ∷ []) 0 ≡ finds 6 (pos 0) (pos 0) true 2
  pub long_opcode : step_at (0x80 ∷ 0x06 ∷ 0x0f ∷ []) 0 ≡ finds 6 (negsuc 6) (pos 0) false 3
  pub long_first : step_at (0x0c ∷ 0x80 ∷ 0x05 ∷ 0x06 ∷ []) 0 ≡ finds 12 (pos 5) (pos 6) false 4
  pub long_second : step_at (0x0c ∷ 0x05 ∷ 0x80 ∷ 0x06 ∷ []) 0 ≡ finds 12 (pos 5) (pos 6) false 4
  pub unknown : step_at (0x0e ∷ []) 0 ≡ refuses 9 14 1
  pub closed : step_at (0x00 ∷ 0x03 ∷ 0x05 ∷ []) 0 ≡ Ok (end 3)
