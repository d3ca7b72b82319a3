-- Request 2026-06 and the writer of 2026-01: "The other way need not hold, since longer forms and operand 1 exist".
-- Where there are neither, it holds, and only there. proofs/Rewriting.antt proves the record `Rewriting`.
use Rattle.std.specs.Prelude.{◌≡◌, Bool, false, cond, List, [], ◌∷◌, ◌++◌, ℕ, zero, suc, ◌+◌, ◌*◌, ◌/◌, ◌≤◌, ◌<◌, eqb, get_or, take, drop, ℤ, pos, Ok}
use Rattle.numbers.specs.Number.{number_at}
use Rattle.numbers.specs.declared.number.Number.{Number}
use Rattle.annotations.specs.Step.{PlacedTriple}
use Rattle.decode.specs.Decode.{decode_all, entries_each, decoded_entries, decoding}
use Rattle.shortest.specs.Short.{Bytes}
use Rattle.annotation_records.specs.Ranges.{is_signed}
use Rattle.annotation_writer.specs.Writing.{list_bytes, writing}

-- the records of n annotations: the first three of each four entries
unfoldable pub first_threes : List ℤ → ℕ → List ℤ
first_threes entries zero = []
first_threes entries (suc n) = take 3 entries ++ first_threes (drop entries_each entries) n

-- every fourth entry is 1
abbrev pub AllShortest : List ℤ → ℕ → Type 0
AllShortest entries n = (k : ℕ) → k < n → get_or entries (entries_each * k + 3) (pos 0) ≡ pos 1

-- an operand that reads as 0 or has 0 above its low four bits, and yet is not what the writer writes for it: operand 1
-- of 6 and 10, operands 16 to 31 of 11
unfoldable pub odd_zero : ℕ → ℕ → Bool
odd_zero op v = cond (is_signed op) (eqb v 1) (cond (eqb op 11) (eqb (v / 16) 1) false)

-- the first operand of the annotation at a place is none
abbrev pub NoOddZero : List ℕ → ℕ → Type 0
NoOddZero s at = (code v : Number) → number_at s at ≡ Ok code → number_at s code.next ≡ Ok v
    → odd_zero code.value v.value ≡ false

-- so it is at each place where one of these annotations begins: the first here, each other where the one before ends
pub data NoOddZeros (s : List ℕ) : ℕ → List PlacedTriple → Type 0 where
  none : {at : ℕ} → NoOddZeros s at []
  more : {at : ℕ} {x : PlacedTriple} {later : List PlacedTriple} → NoOddZero s at → NoOddZeros s x.next later
      → NoOddZeros s at (x ∷ later)

-- what can be written again as it was: decoding accepts it, all numbers were shortest, and there is no odd zero
pub record Again (s : List ℕ) (room n : ℕ) : Type 0 where
  pub are_bytes : Bytes s
  pub accepted : decoding s room ≡ Ok n
  pub all_shortest : AllShortest (decoded_entries s) n
  pub no_odd_zeros : NoOddZeros s 0 (decode_all s).found

-- writing the records of n annotations gives the very bytes, up to where the closing step was taken
abbrev pub SameBytes : List ℕ → ℕ → Type 0
SameBytes s n = list_bytes (first_threes (decoded_entries s) n) ≡ take (decode_all s).at s

-- so it does there, and writing accepts them; and only there
pub record Rewriting : Type 0 where
  pub bytes : (s : List ℕ) (room n : ℕ) → Again s room n → SameBytes s n
  pub written : (s : List ℕ) (room n : ℕ) → Again s room n → (room' : ℕ) → (decode_all s).at ≤ room'
      → writing (first_threes (decoded_entries s) n) room' ≡ Ok (decode_all s).at
  pub only : (s : List ℕ) (room n : ℕ) → Bytes s → decoding s room ≡ Ok n → SameBytes s n → Again s room n
