-- Statements about writing annotations beyond its promise. proofs/ has a proof of each record.
use Rattle.std.specs.Prelude.{◌≡◌, true, List, [], ◌∷◌, ◌++◌, map, ℕ, zero, suc, ◌+◌, ◌*◌, ◌^◌, ◌≤◌, ◌<◌, length, take, drop, ℤ, pos, Ok, Err}
use Rattle.outcome.specs.Only.{Only₂, Injective}
use Rattle.numbers.specs.Refusal.{Stop}
use Rattle.numbers.specs.Number.{number_at}
use Rattle.numbers.specs.declared.number.Number.{Number}
use Rattle.annotations.specs.Step.{PlacedTriple, annotation, end, placed, step_at}
use Rattle.annotations.specs.declared.annotation.Triple.{Triple}
use Rattle.decode.specs.Decode.{Run, decode_all, entries_each, decoded_entries, decoding}
use Rattle.shortest.specs.Short.{Bytes, short, short_number}
use Rattle.annotation_records.specs.Records.{count}
use Rattle.annotation_writer.specs.Refusal.{refusal_in, told}
use Rattle.annotation_writer.specs.Writing.{annotations_in, list_bytes, writing}
use Rattle.annotation_writer.specs.Promises.{Writing}

-- what an answer says on paper tells it from every other answer
pub record Told : Type 0 where
  pub refusal : Injective refusal_in
  pub written : Injective (told {A = ℕ})

-- no second answer, and no other store, satisfies the promise
pub record SingleValued : Type 0 where
  pub write_annotations : (list : List ℤ) (out : List ℕ) → Only₂ (Writing list out)

-- ---- "Decoding what was written gives the same list"
-- the annotations that a list says, and those that decoding found, without their places
abbrev pub listed : List ℤ → List Triple
listed list = annotations_in list (count list)

abbrev pub found_in : Run → List Triple
found_in r = map (λ (x : PlacedTriple). x.triple) r.found

-- a list that is accepted: its bytes are put first, the rest of the store stays; they decode to exactly its
-- annotations, all numbers of each shortest, and decoding ends at their length
pub record RoundTrip : Type 0 where
  pub first : (list : List ℤ) (out out' : List ℕ) (n : ℕ) → Writing list out (Ok n) out'
      → take n out' ≡ list_bytes list
  pub rest : (list : List ℤ) (out out' : List ℕ) (n : ℕ) → Writing list out (Ok n) out'
      → drop n out' ≡ drop n out
  pub found : (list : List ℤ) (room n : ℕ) → writing list room ≡ Ok n
      → found_in (decode_all (list_bytes list)) ≡ listed list
  pub shortest : (list : List ℤ) (room n : ℕ) → writing list room ≡ Ok n
      → map (λ (x : PlacedTriple). x.shortest) (decode_all (list_bytes list)).found ≡ map (λ _. true) (listed list)
  pub closes : (list : List ℤ) (room n : ℕ) → writing list room ≡ Ok n → (decode_all (list_bytes list)).at ≡ n
  pub ends : (list : List ℤ) (room n : ℕ) → writing list room ≡ Ok n → (decode_all (list_bytes list)).last ≡ Ok n

-- n records, each with a fourth entry 1
unfoldable pub with_ones : List ℤ → ℕ → List ℤ
with_ones list zero = []
with_ones list (suc n) = take 3 list ++ pos 1 ∷ with_ones (drop 3 list) n

-- so the store of decoding has the list again, "each with a fourth entry 1"
pub record SameEntries : Type 0 where
  pub entries : (list : List ℤ) (room n : ℕ) → writing list room ≡ Ok n
      → decoded_entries (list_bytes list) ≡ with_ones list (count list)
  pub decoded : (list : List ℤ) (room n : ℕ) → writing list room ≡ Ok n
      → (entries : ℕ) → entries_each * count list ≤ entries → decoding (list_bytes list) entries ≡ Ok (count list)

-- ---- "every number in its shortest form"
-- a shortest form is read back, and no form from which the same number is read is shorter; of the whole, no bytes that
-- decode to the same annotations are fewer than those written, which are bytes too
pub record Shortest : Type 0 where
  pub reads : (n : ℕ) → n < 2 ^ 29 → number_at (short n) 0 ≡ Ok (short_number 0 n)
  pub number : (s : List ℕ) (at : ℕ) (x : Number) → Bytes s → number_at s at ≡ Ok x
      → at + length (short x.value) ≤ x.next
  pub bytes : (list : List ℤ) (room n : ℕ) → writing list room ≡ Ok n → Bytes (list_bytes list)
  pub whole : (list : List ℤ) (room n : ℕ) → writing list room ≡ Ok n
      → (s : List ℕ) → Bytes s → found_in (decode_all s) ≡ listed list → n ≤ (decode_all s).at
  pub within : (s : List ℕ) → (decode_all s).at ≤ length s

-- ---- bytes that follow, and bytes that come before
-- when more bytes follow, annotations, 8 and 9 stay as they are, and an end by opcode 0 stays an end, at the new
-- length. Only 7 and an end for want of bytes may change
pub record MoreBytes : Type 0 where
  pub found : (s t : List ℕ) (at : ℕ) {x : PlacedTriple} → step_at s at ≡ Ok (annotation x)
      → step_at (s ++ t) at ≡ Ok (annotation x)
  pub stopped : (s t : List ℕ) (at : ℕ) {why : Stop} → step_at s at ≡ Err why → (why.refusal.number ≡ 7 → ⊥)
      → step_at (s ++ t) at ≡ Err why
  pub closed : (s t : List ℕ) (at : ℕ) {p : ℕ} → at < length s → step_at s at ≡ Ok (end p)
      → step_at (s ++ t) at ≡ Ok (end (length (s ++ t)))

-- a step from a place on is the step over the rest, with the place moved
pub record FromAPlace : Type 0 where
  pub found : (u w : List ℕ) (a : ℕ) {x : PlacedTriple} → step_at w a ≡ Ok (annotation x)
      → step_at (u ++ w) (length u + a) ≡ Ok (annotation (placed x.triple x.shortest (length u + x.next)))
  pub closed : (u w : List ℕ) (a : ℕ) {p : ℕ} → step_at w a ≡ Ok (end p)
      → step_at (u ++ w) (length u + a) ≡ Ok (end (length u + p))
  pub stopped : (u w : List ℕ) (a : ℕ) {why : Stop} → step_at w a ≡ Err why
      → step_at (u ++ w) (length u + a) ≡ Err (record { refusal = why.refusal; place = length u + why.place })
