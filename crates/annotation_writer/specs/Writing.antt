-- Request 2026-01: a list of records, in document 01's store layout, as bytes.
use Rattle.std.specs.Prelude.{ℕ, zero, suc, ◌%◌, List, [], ◌∷◌, ◌++◌, leb, eqb, length, ℤ, Result, Ok}
use Rattle.outcome.specs.Outcome.{◌>>=◌, ◌>>◌, require}
use Rattle.outcome.specs.Each.{each}
use Rattle.outcome.specs.Refusal as paper
use Rattle.annotations.specs.declared.annotation.Triple.{Triple}
use Rattle.annotation_records.specs.Records.{entries_each, count, record_at, annotation_in}
use Rattle.annotation_records.specs.Ranges.{writable}
use Rattle.annotation_records.specs.Operands.{annotation_bytes}
use Rattle.annotation_writer.specs.Refusal.{refusal_in}
use Rattle.annotation_writer.specs.declared.refusal.Refusal.TheVariants.{BadRecord, RaggedList, NoRoom}

-- the annotations of the first n records
unfoldable pub annotations_in : List ℤ → ℕ → List Triple
annotations_in list zero = []
annotations_in list (suc n) = annotations_in list n ++ annotation_in (record_at list n) ∷ []

-- "bytes with every number in its shortest form and no closing opcode"
unfoldable pub bytes_of : List Triple → List ℕ
bytes_of [] = []
bytes_of (t ∷ later) = annotation_bytes t ++ bytes_of later

abbrev pub list_bytes : List ℤ → List ℕ
list_bytes list = bytes_of (annotations_in list (count list))

-- the first n records can be written, or the first bad one is refused, by its index from 0
abbrev pub judging : List ℤ → ℕ → Result (Unit {0}) paper.Refusal
judging list = each (λ k. writable (record_at list k)) (λ k. refusal_in (BadRecord k))

-- how many bytes a list takes: "21 first, then the first bad record"
unfoldable pub measuring : List ℤ → Result ℕ paper.Refusal
measuring list = do
  require (eqb (length list % entries_each) 0) (refusal_in RaggedList)
  judging list (count list)
  Ok (length (list_bytes list))

-- how many bytes are written to a store of `room` bytes: "then 10"
unfoldable pub writing : List ℤ → ℕ → Result ℕ paper.Refusal
writing list room = do
  needed ← measuring list
  require (leb needed room) (refusal_in (NoRoom needed))
  Ok needed
