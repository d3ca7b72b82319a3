-- The statement on a whole program. The bytes that were decoded are, step by step, those that are written for their
-- annotations if and only if all numbers were shortest and no zero was odd.
use mathlib.Core.Path.{◌≡◌, refl, sym, ◌∙◌, ap}
use mathlib.Core.Bool.{Bool, true, false}
use mathlib.Core.List.{List, [], ◌∷◌, ◌++◌, append_assoc}
use Prim.Native.Nat.{ℕ, zero, suc, ◌+◌, ◌*◌, ◌≤◌}
use native.Mathlib.Omega.{arith}
use lib.ListN.{length, take, drop, length-append, length-drop, take-append-drop}
use lib.Seq.{take_at}
use lib.IntN.{pos, nat_abs}
use Rattle.std.specs.Prelude.{Ok}
use Rattle.numbers.specs.Number.{flag}
use Rattle.annotations.specs.Step.{PlacedTriple}
use Rattle.annotations.proofs.ReadLaws.{step_read}
use Rattle.decode.specs.Decode.{decode_all, entries_each, entries, decoded_entries, decoding}
use Rattle.annotations_statements.specs.Statements.{StepsTo}
use Rattle.annotations_statements.proofs.Statements.{agreement, decode_exactly}
use Rattle.shortest.specs.Short.{Bytes}
use Rattle.annotation_records.specs.Operands.{annotation_bytes}
use Rattle.annotation_writer.specs.Writing.{bytes_of, writing}
use Rattle.annotation_writer_statements.proofs.RoundTrip.{flat}
use Rattle.annotation_writer_statements.proofs.Least.{steps_within}
use Rattle.shortest_statements.specs.Rewriting.{first_threes, AllShortest, NoOddZeros, Again, SameBytes, Rewriting}
use Rattle.shortest_statements.proofs.StepBack.{read_back, read_only, read_writable}
use Rattle.shortest_statements.proofs.RecordBack.{triples, first_threes_lem, flat_bytes, Writables, flat_writing}

-- ---- the flags: all of them are 1 exactly where all annotations were shortest
data Shortests : List PlacedTriple → Type 0 where
  none : Shortests []
  more : {x : PlacedTriple} {later : List PlacedTriple} → x.shortest ≡ true → Shortests later → Shortests (x ∷ later)

flag_is : (b : Bool) → pos (flag b) ≡ pos 1 → b ≡ true
flag_is true e = refl
flag_is false e = absurd (omega (arith, ap nat_abs e))

-- the flag of the next annotation is four entries later
flag_later : (k : ℕ) → entries_each * suc k + 3 ≡ suc (suc (suc (suc (entries_each * k + 3))))
flag_later k = omega arith

shortests : (l : List PlacedTriple) → AllShortest (entries l) (length l) → Shortests l
unfolding entries
shortests [] h = none
shortests (x ∷ l) h =
    more (flag_is x.shortest (h 0 (omega arith)))
    (shortests l (λ k m. rw (flag_later k) at (h (suc k) (omega arith))))

flags : {l : List PlacedTriple} → Shortests l → AllShortest (entries l) (length l)
unfolding entries
flags none k h = absurd (omega arith)
flags (more e later) zero h = rw e
flags (more e later) (suc k) h = rw (flag_later k) (flags later k (omega arith))

-- ---- a run, step by step
module _ {s : List ℕ} (bytes : Bytes s) where
  steps_back : {at e : ℕ} {l : List PlacedTriple} → StepsTo s at l e → Shortests l → NoOddZeros s at l
      → drop at s ≡ bytes_of (triples l) ++ drop e s
  unfolding bytes_of
  steps_back StepsTo.none none NoOddZeros.none = refl
  steps_back {at} (StepsTo.more e r) (more h hs) (NoOddZeros.more n ns) =
      read_back bytes (step_read s at e) h n ∙ rw (steps_back r hs ns, append_assoc)

  steps_only : {at e : ℕ} {l : List PlacedTriple} (later : List ℕ) → StepsTo s at l e
      → drop at s ≡ bytes_of (triples l) ++ later → Shortests l × NoOddZeros s at l
  unfolding bytes_of
  steps_only later StepsTo.none h = (none, NoOddZeros.none)
  steps_only {at} later (StepsTo.more {x = x} {later = l} e r) h =
      let split = append_assoc (annotation_bytes x.triple) (bytes_of (triples l)) later in
      let first = read_only bytes (step_read s at e) (h ∙ split) in
      let others = steps_only later r first.after in
      (more first.shortest others.0, NoOddZeros.more first.no_odd_zero others.1)

  steps_writable : {at e : ℕ} {l : List PlacedTriple} → StepsTo s at l e → Writables (triples l)
  steps_writable StepsTo.none = Writables.none
  steps_writable {at} (StepsTo.more e r) =
      Writables.more (read_writable bytes (step_read s at e)) (steps_writable r)

-- ---- the whole
module _ (s : List ℕ) (room n : ℕ) where
  abbrev found : List PlacedTriple
  found = (decode_all s).found

  module _ (e : decoding s room ≡ Ok n) where
    many : n ≡ length found
    many = ((decode_exactly.is s room n).0 e).0

    records : first_threes (decoded_entries s) n ≡ flat (triples found)
    records = rw many (first_threes_lem found)

  module _ (a : Again s room n) where
    stands : s ≡ bytes_of (triples found) ++ drop (decode_all s).at s
    stands =
        let all : AllShortest (entries found) (length found) = rw (many a.accepted) at a.all_shortest in
        steps_back a.are_bytes (agreement.is s).steps (shortests found all) a.no_odd_zeros

    ends : length (bytes_of (triples found)) ≡ (decode_all s).at
    ends =
        let within = steps_within (omega arith) (agreement.is s).steps in
        omega (arith, simp (length-append, length-drop) at (ap length stands))

    same_bytes : SameBytes s n
    same_bytes =
        let b = bytes_of (triples found) in
        let e = (decode_all s).at in
        rw (records a.accepted, flat_bytes (triples found))
        (sym (take_at b (drop e s) e ends) ∙ ap (take e) (sym stands))

    is_written : (room' : ℕ) → (decode_all s).at ≤ room'
        → writing (first_threes (decoded_entries s) n) room' ≡ Ok (decode_all s).at
    is_written room' l =
        let fine = steps_writable a.are_bytes (agreement.is s).steps in
        rw (records a.accepted, ← ends) (flat_writing room' fine (omega (arith, ends)))

  only_again : Bytes s → decoding s room ≡ Ok n → SameBytes s n → Again s room n
  only_again bytes e h =
      let b = bytes_of (triples found) in
      let rest = drop (decode_all s).at s in
      let same : b ≡ take (decode_all s).at s = rw (records e, flat_bytes (triples found)) at h in
      let whole : s ≡ b ++ rest = rw same (sym (take-append-drop (decode_all s).at s)) in
      let p = steps_only bytes rest (agreement.is s).steps whole in
      record { are_bytes = bytes; accepted = e; all_shortest = rw (many e) (flags p.0); no_odd_zeros = p.1 }

pub rewriting : Rewriting
rewriting = record { bytes = same_bytes; written = is_written; only = only_again }
