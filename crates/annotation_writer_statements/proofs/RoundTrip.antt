-- An accepted list: what stands in the store, and that decoding it gives the list again.
use mathlib.Core.Path.{◌≡◌, refl, sym, ◌∙◌, ap}
use mathlib.Core.Bool.{true}
use mathlib.Core.List.{List, [], ◌∷◌, ◌++◌, append_assoc, map}
use Prim.Native.Nat.{ℕ, zero, suc, ◌+◌, ◌*◌, ◌≤◌, ◌<◌}
use native.Mathlib.Omega.{arith}
use native.Mathlib.Numerals.{add-one, add-two}
use borrow.Author.Tests.{leb-true}
use lib.Dec.{leb}
use lib.ListN.{length, get_or, take, drop, length-append}
use lib.Seq.{sets-eq, take-suc, take_all, take_at, drop_at}
use lib.IntN.{ℤ, pos}
use Rattle.std.specs.Prelude.{Ok}
use Rattle.outcome.specs.Outcome.{require, raise}
use Rattle.outcome.specs.Store.{written}
use Rattle.outcome.proofs.OutcomeLaws.{came, came_by, passed, ok_is}
use Rattle.annotations.specs.Step.{PlacedTriple}
use Rattle.annotations.specs.declared.annotation.Triple.{Triple}
use Rattle.decode.specs.Decode as decode
use Rattle.decode.specs.Decode.{decode_all, triple_entries, entries, decoded_entries, decoding}
use Rattle.annotations_statements.proofs.Statements.{decode_exactly}
use Rattle.annotation_records.specs.Operands.{annotation_bytes}
use Rattle.annotation_records.specs.Records.{entries_each, count, record_at}
use Rattle.annotation_records.proofs.RangeLaws.{can_be_written}
use Rattle.annotation_writer.specs.Refusal.{refusal_in}
use Rattle.annotation_writer.specs.Writing.{annotations_in, list_bytes, measuring, writing}
use Rattle.annotation_writer.specs.Promises.{Writing}
use Rattle.annotation_writer.specs.Inner.{AllWritable}
use Rattle.annotation_writer.specs.declared.refusal.Refusal.TheVariants.{NoRoom}
use Rattle.annotation_writer.proofs.WriteLaws.{Measured, measured}
use Rattle.annotation_writer_statements.specs.Statements.{listed, found_in, RoundTrip, with_ones, SameEntries}
use Rattle.annotation_writer_statements.proofs.ReadBack.{Readable, none, more, readable_append, record_reads, standing, standing_triples, standing_shortest, decoded}

-- ---- acceptance
pub record Accepted (list : List ℤ) (room n : ℕ) : Type 0 where
  pub list_measured : Measured list n
  pub room_enough : n ≤ room

pub accepted : (list : List ℤ) (room n : ℕ) → writing list room ≡ Ok n → Accepted list room n
unfolding writing
accepted list room n e =
    came_by (measuring list) _ e λ k m rest.
    came (require (leb k room) (refusal_in (NoRoom k))) _ rest λ _ fits last.
    let same : k ≡ n = ok_is last in
    rw (← same) (record { list_measured = measured list m; room_enough = leb-true k room (passed _ _ fits) })

-- ---- the store
module _ (list : List ℤ) (out out' : List ℕ) (n : ℕ) (w : Writing list out (Ok n) out') where
  answers : writing list (length out) ≡ Ok n
  unfolding raise
  answers = sym w.answer

  stands : out' ≡ list_bytes list ++ drop n out
  unfolding written
  stands =
      let a = accepted list (length out) n answers in
      let fits : 0 + length (list_bytes list) ≤ length out = omega (arith, a.list_measured.is, a.room_enough) in
      let place : 0 + length (list_bytes list) ≡ n = omega (arith, a.list_measured.is) in
      w.after ∙ rw answers (sets-eq (list_bytes list) out 0 fits ∙ rw place)

  measures : length (list_bytes list) ≡ n
  measures = sym (accepted list (length out) n answers).list_measured.is

  first_bytes_lem : take n out' ≡ list_bytes list
  first_bytes_lem = rw stands (take_at (list_bytes list) (drop n out) n measures)

  other_bytes : drop n out' ≡ drop n out
  other_bytes = rw stands (drop_at (list_bytes list) (drop n out) n measures)

-- ---- the annotations
readable : (list : List ℤ) → AllWritable list → (k : ℕ) → k ≤ count list → Readable (annotations_in list k)
unfolding annotations_in
readable list a zero l = none
readable list a (suc k) l =
    readable_append (readable list a k (omega arith))
    (more (record_reads (record_at list k) (can_be_written (record_at list k) (a.each k (omega arith)))) none)

module _ (list : List ℤ) (room n : ℕ) (e : writing list room ≡ Ok n) where
  pub fine : Measured list n
  fine = (accepted list room n e).list_measured

  run : record { found = standing 0 (listed list); at = length (list_bytes list); last = Ok (length (list_bytes list)) } ≡ decode_all (list_bytes list)
  run = decoded (listed list) (readable list fine.all (count list) (omega arith))

  finds : found_in (decode_all (list_bytes list)) ≡ listed list
  finds = rw (← run) (standing_triples 0 (listed list))

  all_shortest : map (λ (x : PlacedTriple). x.shortest) (decode_all (list_bytes list)).found ≡ map (λ _. true) (listed list)
  all_shortest = rw (← run) (standing_shortest 0 (listed list))

  closes_at : (decode_all (list_bytes list)).at ≡ n
  closes_at = rw (← run) (sym fine.is)

  ends_at : (decode_all (list_bytes list)).last ≡ Ok n
  ends_at = rw (← run) (ap Ok (sym fine.is))

pub round_trip : RoundTrip
round_trip =
    record { first = first_bytes_lem; rest = other_bytes; found = finds; shortest = all_shortest; closes = closes_at; ends = ends_at }

-- ---- the entries
-- those of annotations one after another, as a list has them
unfoldable pub flat : List Triple → List ℤ
flat [] = []
flat (t ∷ later) = triple_entries t ++ flat later

flat_append : (xs ys : List Triple) → flat (xs ++ ys) ≡ flat xs ++ flat ys
unfolding flat
flat_append [] ys = refl
flat_append (x ∷ xs) ys = rw (flat_append xs ys)

entries_flat : (at : ℕ) (ts : List Triple) → entries (standing at ts) ≡ with_ones (flat ts) (length ts)
unfolding entries standing flat with_ones
entries_flat at [] = refl
entries_flat at (t ∷ later) =
    let rest = entries_flat (at + length (annotation_bytes t)) later in
    ap (λ (l : List ℤ). triple_entries t ++ pos 1 ∷ l) rest

-- three entries more
take_three : (l : List ℤ) (j : ℕ) → j + 2 < length l → take (suc (suc (suc j))) l ≡ take j l ++ (get_or l j (pos 0) ∷ get_or l (j + 1) (pos 0) ∷ get_or l (j + 2) (pos 0) ∷ [])
take_three l j h =
    rw (add-one j, add-two j, take-suc l (suc (suc j)) (pos 0) (omega arith), take-suc l (suc j) (pos 0) (omega arith), take-suc l j (pos 0) (omega arith))
    (simp append_assoc)

flat_list : (list : List ℤ) → AllWritable list → (k : ℕ) → k ≤ count list → flat (annotations_in list k) ≡ take (entries_each * k) list
unfolding annotations_in flat
flat_list list a zero l = refl
flat_list list a (suc k) l =
    let three : entries_each * suc k ≡ suc (suc (suc (entries_each * k))) = omega arith in
    let opcode = (can_be_written (record_at list k) (a.each k (omega arith))).opcode in
    flat_append (annotations_in list k) _
    ∙ rw (flat_list list a k (omega arith), three, take_three list (entries_each * k) (omega arith), ← opcode)

standing_length : (at : ℕ) (ts : List Triple) → length (standing at ts) ≡ length ts
unfolding standing
standing_length at [] = refl
standing_length at (t ∷ later) = ap suc (standing_length (at + length (annotation_bytes t)) later)

listed_length : (list : List ℤ) (k : ℕ) → length (annotations_in list k) ≡ k
unfolding annotations_in
listed_length list zero = refl
listed_length list (suc k) = rw (length-append, listed_length list k) (omega arith)

module _ (list : List ℤ) (room n : ℕ) (e : writing list room ≡ Ok n) where
  thrice : entries_each * count list ≡ length list
  thrice = let w = (fine list room n e).whole in omega arith

  same_list : flat (listed list) ≡ list
  same_list =
      flat_list list (fine list room n e).all (count list) (omega arith) ∙ rw thrice (take_all (length list) list (omega arith))

  same_entries_again : decoded_entries (list_bytes list) ≡ with_ones list (count list)
  same_entries_again =
      rw (← run list room n e) (entries_flat 0 (listed list) ∙ rw (same_list, listed_length list (count list)))

  decodes_again : (room' : ℕ) → decode.entries_each * count list ≤ room' → decoding (list_bytes list) room' ≡ Ok (count list)
  decodes_again room' l =
      (decode_exactly.is (list_bytes list) room' (count list)).1
      (rw (← run list room n e) (sym (standing_length 0 (listed list) ∙ listed_length list (count list))), (n, ends_at list room n e), l)

pub same_entries : SameEntries
same_entries = record { entries = same_entries_again; decoded = decodes_again }
