-- Statements about the operations beyond their promises. proofs/Statements.antt proves each record.
use Rattle.std.specs.Prelude.{◌≡◌, ◌↔◌, List, [], ◌∷◌, ℕ, ◌+◌, ◌*◌, ◌≤◌, ◌<◌, cond, ltb, length, get_or, ℤ, pos, negsuc, neg_ℤ, Result, Ok, Err}
use Rattle.outcome.specs.Only.{Only, Only₂, Injective}
use Rattle.numbers.specs.Refusal.{Stop, stop, refusal_in}
use Rattle.numbers.specs.Refusal as number
use Rattle.numbers.specs.Number.{number_at}
use Rattle.annotations.specs.Signed.{signed_of}
use Rattle.annotations.specs.Annotation.{triple_in}
use Rattle.annotations.specs.Step.{PlacedTriple, Stepped, annotation, end, step_at}
use Rattle.decode.specs.Decode.{Run, decode_all, entries_each, decoding}
use Rattle.numbers.specs.Promises.{Uncompressing}
use Rattle.annotations.specs.Promises.{step_in, Stepping}
use Rattle.decode.specs.Refusal as decoding_all
use Rattle.decode.specs.Promises.{Decoding}
use Rattle.numbers.specs.declared.refusal.Refusal.TheVariants.{ShortData, InvalidCompressedAnnotation}
use Rattle.numbers.specs.declared.number.Number.{Number}

-- what an answer says on paper tells it from every other answer
pub record Told : Type 0 where
  pub refusal : Injective refusal_in
  pub triple : Injective triple_in
  pub uncompressed : Injective (number.told {A = Number})
  pub step : Injective step_in
  pub decoded : Injective (decoding_all.told {A = ℕ})

-- no second answer, and no other store, satisfies a promise
pub record SingleValued : Type 0 where
  pub uncompress_next : (s : List ℕ) (at : ℕ) → Only (Uncompressing s at)
  pub of_step_at : (s : List ℕ) (at : ℕ) → Only (Stepping s at)
  pub of_decode_all : (s : List ℕ) (store : List ℤ) → Only₂ (Decoding s store)

-- the signed reading of every operand, of 0 and 1, and at the ends of a 32-bit operand's range
pub record SignedReading : Type 0 where
  pub even : (v : ℕ) → signed_of (2 * v) ≡ pos v
  pub odd : (v : ℕ) → signed_of (2 * v + 1) ≡ neg_ℤ (pos v)
  pub zero : signed_of 0 ≡ pos 0
  pub one : signed_of 1 ≡ pos 0
  pub largest : signed_of 0xfffffffe ≡ pos 0x7fffffff
  pub least : signed_of 0xffffffff ≡ negsuc 0x7ffffffe

-- "there are at most half as many annotations as bytes"
pub record AtMostHalf : Type 0 where
  pub is : (s : List ℕ) → 2 * length (decode_all s).found ≤ length s

-- how many bytes the form of a number takes, by its first byte
abbrev pub form : ℕ → ℕ
form b1 = cond (ltb b1 0x80) 1 (cond (ltb b1 0xc0) 2 4)

-- a number is refused with 7 or with 8 exactly under that refusal's condition, and read otherwise
pub record Exactly (s : List ℕ) (at : ℕ) (answer : Result Number Stop) : Type 0 where
  pub short : (answer ≡ Err (stop ShortData (length s))) ↔ (length s < at + form (get_or s at 0))
  pub invalid : (answer ≡ Err (stop InvalidCompressedAnnotation (at + 4)))
      ↔ ((at + 4 ≤ length s) × (0xe0 ≤ get_or s at 0))
  pub read : ((n : Number) × (answer ≡ Ok n)) ↔ ((at + form (get_or s at 0) ≤ length s) × (get_or s at 0 < 0xe0))

pub record NumberExactly : Type 0 where
  pub is : (s : List ℕ) (at : ℕ) → Exactly s at (number_at s at)

-- steps from one place to another, which answer these annotations
pub data StepsTo (s : List ℕ) : ℕ → List PlacedTriple → ℕ → Type 0 where
  none : {at : ℕ} → StepsTo s at [] at
  more : {at last : ℕ} {x : PlacedTriple} {later : List PlacedTriple} → step_at s at ≡ Ok (annotation x)
      → StepsTo s x.next later last → StepsTo s at (x ∷ later) last

-- the last step of a run: the end, or a refusal
abbrev pub closing : Result ℕ Stop → Result Stepped Stop
closing (Ok place) = Ok (end place)
closing (Err why) = Err why

-- stepping from a place gives this run, up to the end or the first refusal
pub record SteppedThrough (s : List ℕ) (at : ℕ) (r : Run) : Type 0 where
  pub steps : StepsTo s at r.found r.at
  pub closes : step_at s r.at ≡ closing r.last

-- the run of decoding all is what stepping gives, and no other run is
pub record Agreement : Type 0 where
  pub is : (s : List ℕ) → SteppedThrough s 0 (decode_all s)
  pub only : (s : List ℕ) (r : Run) → SteppedThrough s 0 r → r ≡ decode_all s

-- n annotations are decoded: the run has so many, it comes to an end, and the store has the room
abbrev pub Decodable : Run → ℕ → ℕ → Type 0
Decodable run room n =
    (n ≡ length run.found) × ((place : ℕ) × (run.last ≡ Ok place)) × (entries_each * n ≤ room)

-- decoding all accepts exactly under these conditions
pub record DecodeExactly : Type 0 where
  pub is : (s : List ℕ) (room n : ℕ) → (decoding s room ≡ Ok n) ↔ Decodable (decode_all s) room n
