-- Request 2026-06, "how many bytes it took and whether that was the shortest form": what the two say of a number.
-- proofs/Statements.antt proves each record.
use Rattle.std.specs.Prelude.{◌≡◌, ◌↔◌, true, List, ℕ, ◌+◌, ◌-◌, ◌≤◌, Ok}
use Rattle.numbers.specs.Number.{number_at}
use Rattle.numbers.specs.declared.number.Number.{Number}
use Rattle.shortest.specs.Short.{Bytes}

-- the bytes taken are those from the place on, up to the place after the number
pub record Taken : Type 0 where
  pub minus : (s : List ℕ) (at : ℕ) (x : Number) → number_at s at ≡ Ok x → x.taken ≡ x.next - at
  pub plus : (s : List ℕ) (at : ℕ) (x : Number) → number_at s at ≡ Ok x → at + x.taken ≡ x.next

-- no bytes from which the same value is read, wherever they stand, are fewer
abbrev pub NoShorter : Number → Type 0
NoShorter x = (s : List ℕ) (at : ℕ) (y : Number) → Bytes s → number_at s at ≡ Ok y → y.value ≡ x.value
    → x.taken ≤ y.taken

pub record ShortestExactly : Type 0 where
  pub is : (s : List ℕ) (at : ℕ) (x : Number) → Bytes s → number_at s at ≡ Ok x → (x.shortest ≡ true) ↔ NoShorter x
