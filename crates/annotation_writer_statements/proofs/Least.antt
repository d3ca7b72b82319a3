-- No bytes that decode to the same annotations are fewer: each number that is read takes at least its shortest form, and
-- the operands that are written are no larger than those that were read.
use mathlib.Core.List.{List, ◌∷◌, append-nil, map}
use Prim.Native.Nat.{ℕ, zero, suc, ◌+◌, ◌^◌, ◌≤◌, ◌<◌}
use native.Mathlib.Omega.{arith}
use lib.ListN.{length, length-append}
use lib.IntN.{ℤ, nat_abs}
use Rattle.std.specs.Prelude.{Option, Some, None, IfSome, option_to_list}
use Rattle.annotations.specs.Step.{PlacedTriple}
use Rattle.annotations.proofs.ReadLaws.{Read, one, two, step_read}
use Rattle.annotations.proofs.MoveLaws.{advanced}
use Rattle.annotations_statements.specs.Statements.{StepsTo}
use Rattle.annotations_statements.proofs.Statements.{agreement}
use Rattle.shortest.specs.Short.{Bytes}
use Rattle.shortest.proofs.ReadLaws.{short_reads, short_rises, number_least, short_bytes}
use Rattle.shortest.proofs.ShortLaws.{AllBytes, all_append, bytes_at_lem}
use Rattle.annotation_records.specs.Records.{count, record_at, annotation_in}
use Rattle.annotation_records.specs.Operands.{shorts, annotation_bytes}
use Rattle.annotation_records.specs.Inner.{first_operand, second_operand, numbers_in, HaveForms}
use Rattle.annotation_records.specs.declared.record.Record.{Record}
use Rattle.annotation_records.specs.declared.operands.Numbers.{Numbers}
use Rattle.annotation_records.proofs.RangeLaws.{Writable, can_be_written}
use Rattle.annotation_records.proofs.OperandLaws.{first_form, second_form, numbers_are}
use Rattle.annotation_writer.specs.Writing.{annotations_in, bytes_of}
use Rattle.annotation_writer.specs.Inner.{AllWritable}
use Rattle.annotation_writer.proofs.WriteLaws.{bytes_append}
use Rattle.annotation_writer_statements.specs.Statements.{Shortest}
use Rattle.annotation_writer_statements.proofs.AgainLaws.{again_most, bytes_one, bytes_two}
use Rattle.annotation_writer_statements.proofs.RoundTrip.{fine}

-- ---- an annotation takes at least its bytes
read_least : {s : List ℕ} {at : ℕ} {x : PlacedTriple} → Bytes s → Read s at x → at + length (annotation_bytes x.triple) ≤ x.next
read_least {s} {at} bytes (one {code} {v} c d t) =
    let op = number_least s at bytes c.is in
    let first = number_least s code.next bytes d in
    rw (bytes_one code.value v.value t, length-append) (omega (arith, short_rises (again_most code.value v.value)))
read_least {s} {at} bytes (two {code} {v} {w} c d e t) =
    let op = number_least s at bytes c.is in
    let first = number_least s code.next bytes d in
    let second = number_least s v.next bytes e in
    rw (bytes_two code.value v.value w.value t, length-append, length-append) (omega arith)

-- ---- and so does a run
steps_least : {s : List ℕ} {at e : ℕ} {l : List PlacedTriple} → Bytes s → StepsTo s at l e → at + length (bytes_of (map (λ (x : PlacedTriple). x.triple) l)) ≤ e
unfolding bytes_of
steps_least bytes StepsTo.none = omega arith
steps_least {s} {at} bytes (StepsTo.more {x = x} e r) =
    rw length-append (omega (arith, read_least bytes (step_read s at e), steps_least bytes r))

pub steps_within : {s : List ℕ} {at e : ℕ} {l : List PlacedTriple} → at ≤ length s → StepsTo s at l e → e ≤ length s
steps_within h StepsTo.none = h
steps_within {s} {at} h (StepsTo.more e r) = steps_within (advanced s at e).within r

-- ---- what is written are bytes
shorts_bytes : (n : Numbers) → HaveForms n → AllBytes (shorts (numbers_in n))
unfolding shorts
shorts_bytes n f = go n.second f.second
  where
    go : (second : Option ℕ) → IfSome second (λ m. m < 2 ^ 29) → AllBytes (shorts (n.opcode ∷ n.first ∷ option_to_list second))
    go (Some m) h = all_append (short_bytes _ f.opcode) (all_append (short_bytes _ f.first) (all_append (short_bytes m h) AllBytes.none))
    go None h = all_append (short_bytes _ f.opcode) (all_append (short_bytes _ f.first) AllBytes.none)

record_bytes : (r : Record) → Writable r → AllBytes (annotation_bytes (annotation_in r))
record_bytes r w =
    let n : Numbers = record { opcode = nat_abs r.opcode; first = first_operand (nat_abs r.opcode) r.first r.second; second = second_operand (nat_abs r.opcode) r.second } in
    let small : nat_abs r.opcode < 2 ^ 29 = let k = w.known in omega arith in
    rw (numbers_are w.carries) at (shorts_bytes n (record { opcode = small; first = first_form w.carries; second = second_form w.carries }))

list_bytes_lem : (list : List ℤ) → AllWritable list → (k : ℕ) → k ≤ count list → AllBytes (bytes_of (annotations_in list k))
unfolding annotations_in bytes_of
list_bytes_lem list a zero l = AllBytes.none
list_bytes_lem list a (suc k) l =
    let r = record_at list k in
    rw (bytes_append (annotations_in list k) _, append-nil) (all_append (list_bytes_lem list a k (omega arith)) (record_bytes r (can_be_written r (a.each k (omega arith)))))

pub shortest : Shortest
shortest =
    record {
      reads = short_reads;
      number = λ s at x bytes e. number_least s at bytes e;
      bytes = λ list room n e. bytes_at_lem (list_bytes_lem list (fine list room n e).all (count list) (omega arith));
      whole = λ list room n e s bytes same. rw ((fine list room n e).is, ← same) (omega (arith, steps_least bytes (agreement.is s).steps));
      within = λ s. steps_within (omega arith) (agreement.is s).steps;
    }
