-- The first three of each four entries, as a list of records: it says the annotations that were found, and it is
-- written if each of its records can be.
use mathlib.Core.Path.{◌≡◌, refl, ◌∙◌, ap}
use mathlib.Core.Bool.{true}
use mathlib.Core.List.{List, [], ◌∷◌, ◌++◌, map}
use Prim.Native.Nat.{ℕ, zero, suc, ◌+◌, ◌*◌, ◌%◌, ◌≤◌, ◌<◌}
use native.Mathlib.Omega.{arith}
use native.Mathlib.Nat.{zero-add}
use borrow.Author.Tests.{eq-eqb, le-leb}
use lib.ListN.{length}
use lib.IntN.{ℤ, pos, nat_abs}
use Rattle.std.specs.Prelude.{Ok}
use Rattle.outcome.specs.Outcome.{and_next, and_then, require}
use Rattle.outcome.proofs.EachLaws.{each_none, each_run}
use Rattle.annotations.specs.Annotation.{triple}
use Rattle.annotations.specs.Step.{PlacedTriple}
use Rattle.annotations.specs.declared.annotation.Triple.{Triple}
use Rattle.decode.specs.Decode.{entries}
use Rattle.annotation_records.specs.Records.{entries_each, count, record_at, annotation_in}
use Rattle.annotation_records.specs.Ranges.{writable}
use Rattle.annotation_records.specs.declared.record.Record.{Record}
use Rattle.annotation_writer.specs.Writing.{annotations_in, bytes_of, list_bytes, judging, measuring, writing}
use Rattle.annotation_writer_statements.proofs.RoundTrip.{flat}
use Rattle.shortest_statements.specs.Rewriting.{first_threes}
use Rattle.shortest_statements.proofs.OperandBack.{record_of}

-- annotations without their places
abbrev pub triples : List PlacedTriple → List Triple
triples = map (λ (x : PlacedTriple). x.triple)

pub first_threes_lem : (l : List PlacedTriple) → first_threes (entries l) (length l) ≡ flat (triples l)
unfolding first_threes entries flat
first_threes_lem [] = refl
first_threes_lem (x ∷ l) = rw (first_threes_lem l)

-- ---- how many there are
flat_length : (ts : List Triple) → length (flat ts) ≡ entries_each * length ts
unfolding flat
flat_length [] = refl
flat_length (t ∷ later) = omega (arith, flat_length later)

flat_count : (ts : List Triple) → count (flat ts) ≡ length ts
flat_count ts = omega (arith, flat_length ts)

-- ---- what they say: three entries in front are one record more
module _ (a b c : ℤ) (l : List ℤ) where
  record_later : (k : ℕ) → record_at (a ∷ b ∷ c ∷ l) (suc k) ≡ record_at l k
  record_later k =
      let e : entries_each * suc k ≡ suc (suc (suc (entries_each * k))) = omega arith in
      let e₁ : entries_each * suc k + 1 ≡ suc (suc (suc (entries_each * k + 1))) = omega arith in
      let e₂ : entries_each * suc k + 2 ≡ suc (suc (suc (entries_each * k + 2))) = omega arith in
      rw (e₁, e₂, e)

  annotations_later : (n : ℕ) → annotations_in (a ∷ b ∷ c ∷ l) (suc n) ≡ triple (nat_abs a) b c ∷ annotations_in l n
  unfolding annotations_in
  annotations_later zero = refl
  annotations_later (suc n) =
      ap (λ (ts : List Triple). ts ++ annotation_in (record_at (a ∷ b ∷ c ∷ l) (suc n)) ∷ []) (annotations_later n)
      ∙ ap (λ (r : Record). triple (nat_abs a) b c ∷ (annotations_in l n ++ annotation_in r ∷ [])) (record_later n)

flat_annotations : (ts : List Triple) → annotations_in (flat ts) (length ts) ≡ ts
unfolding annotations_in flat
flat_annotations [] = refl
flat_annotations (t ∷ later) =
    annotations_later (pos t.opcode) t.first t.second (flat later) (length later) ∙ rw (flat_annotations later)

pub flat_bytes : (ts : List Triple) → list_bytes (flat ts) ≡ bytes_of ts
flat_bytes ts = rw (flat_count ts, flat_annotations ts)

-- ---- annotations each of whose records can be written
pub data Writables : List Triple → Type 0 where
  none : Writables []
  more : {t : Triple} {later : List Triple} → writable (record_of t) ≡ true → Writables later → Writables (t ∷ later)

writable_at : {ts : List Triple} → Writables ts → (k : ℕ) → k < length ts → writable (record_at (flat ts) k) ≡ true
unfolding flat
writable_at none k l = absurd (omega arith)
writable_at (more w ws) zero l = w
writable_at (more {t} {later} w ws) (suc k) l =
    rw (record_later (pos t.opcode) t.first t.second (flat later) k) (writable_at ws k (omega arith))

pub flat_writing : {ts : List Triple} (room : ℕ) → Writables ts → length (bytes_of ts) ≤ room
    → writing (flat ts) room ≡ Ok (length (bytes_of ts))
unfolding writing measuring require and_then and_next
flat_writing {ts} room ws l =
    let whole : length (flat ts) % entries_each ≡ 0 = omega (arith, flat_length ts) in
    let n = length ts in
    let size = length (bytes_of ts) in
    let fine : judging (flat ts) n ≡ Ok tt =
    rw (← zero-add n) (each_run _ _ 0 n (each_none _ _) (λ j m. rw (zero-add j) (writable_at ws j m))) in
    rw (eq-eqb (length (flat ts) % entries_each) 0 whole, flat_count ts, fine, flat_annotations ts, le-leb size room l)
