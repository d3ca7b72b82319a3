-- What was written is read back: a signed operand, an annotation's operands, its step, and the steps over a whole list.
use mathlib.Core.Path.{◌≡◌, refl, sym, ◌∙◌, ap}
use mathlib.Core.Bool.{true, true≢false}
use mathlib.Core.Logic.{⊎_elim}
use mathlib.Core.List.{List, [], ◌∷◌, ◌++◌, append-nil, append_assoc, map}
use Prim.Native.Nat.{ℕ, suc, ◌+◌, ◌*◌, ◌/◌, ◌%◌, ◌^◌, ◌≤◌, ◌<◌}
use native.Mathlib.Omega.{arith}
use native.Mathlib.Nat.{add-zero, zero-add}
use borrow.Author.Tests.{eq-eqb, ne_eqb}
use lib.ListN.{length, length-append}
use lib.IntN.{ℤ, pos, negsuc, nat_abs}
use Rattle.std.specs.Prelude.{Ok}
use Rattle.numbers.specs.Number.{number_at}
use Rattle.annotations.specs.Signed.{signed_of}
use Rattle.annotations.specs.Annotation.{triple, annotation_of}
use Rattle.annotations.specs.Step.{PlacedTriple, annotation, placed, operands, step_at}
use Rattle.annotations.specs.declared.annotation.Triple.{Triple}
use Rattle.annotations.proofs.StepLaws.{code_known, one_operand, two_operands, past_end}
use Rattle.annotations_statements.proofs.Statements.{signed_reading, agreement}
use Rattle.annotations_statements.specs.Statements.{StepsTo}
use Rattle.shortest.specs.Short.{short, short_number}
use Rattle.shortest.proofs.ShortLaws.{short_some}
use Rattle.shortest.proofs.ReadLaws.{short_reads_first, short_reads_in}
use Rattle.decode.specs.Decode.{decode_all}
use Rattle.annotation_records.specs.Records.{annotation_in}
use Rattle.annotation_records.specs.Ranges.{is_signed}
use Rattle.annotation_records.specs.Operands.{operand_of, operands_of, shorts, annotation_bytes}
use Rattle.annotation_records.specs.declared.record.Record.{Record}
use Rattle.annotation_records.proofs.RangeLaws.{Carried, signed, packed, two, plain, is_signed_lem, Writable}
use Rattle.annotation_records.proofs.OperandLaws.{operand_most}
use Rattle.annotation_writer.specs.Writing.{bytes_of}
use Rattle.annotation_writer_statements.proofs.BytesLaws.{more_bytes, from_a_place}

-- ---- operands
signed_back : (z : ℤ) → signed_of (operand_of z) ≡ z
unfolding operand_of
signed_back (pos n) = signed_reading.even n
signed_back (negsuc n) = signed_reading.odd (suc n)

-- an opcode and its operands in their shortest forms make the annotation that they are read as
module _ (op v : ℕ) (some : 1 ≤ op) (known : op ≤ 13) (small : v < 2 ^ 29) where
  opcode_read : (w : List ℕ) → step_at (short op ++ w) 0 ≡ operands (short op ++ w) op true (length (short op))
  opcode_read w =
      rw zero-add at (code_known (short op ++ w) 0 (rw length-append (omega (arith, short_some op))) (short_reads_first w op (omega arith)) (λ z. omega arith) known)

  operand_read : (w : List ℕ) → number_at (short op ++ (short v ++ w)) (length (short op)) ≡ Ok (short_number (length (short op)) v)
  operand_read w = short_reads_in (short op) w v small

  step_one : (op ≡ 12 → ⊥) → step_at (shorts (op ∷ v ∷ [])) 0 ≡ Ok (annotation (placed (annotation_of op v 0) true (length (shorts (op ∷ v ∷ [])))))
  unfolding shorts
  step_one n =
      let b = short op ++ (short v ++ []) in
      let place : length (short op) + length (short v) ≡ length b = rw (length-append, length-append) (omega arith) in
      opcode_read (short v ++ []) ∙ one_operand b op true (length (short op)) (operand_read []) n ∙ rw place

  step_two : (w : ℕ) → w < 2 ^ 29 → op ≡ 12 → step_at (shorts (op ∷ v ∷ w ∷ [])) 0 ≡ Ok (annotation (placed (annotation_of op v w) true (length (shorts (op ∷ v ∷ w ∷ [])))))
  unfolding shorts
  step_two w l t =
      let b = short op ++ (short v ++ (short w ++ [])) in
      let place : length (short op) + length (short v) + length (short w) ≡ length b = rw (length-append, length-append, length-append) (omega arith) in
      let second : number_at b (length (short op) + length (short v)) ≡ Ok (short_number (length (short op) + length (short v)) w) =
      rw (append_assoc, length-append) at (short_reads_in (short op ++ short v) [] w l) in
      opcode_read (short v ++ (short w ++ [])) ∙ two_operands b op true (length (short op)) (operand_read (short w ++ [])) t second ∙ rw place

-- ---- a record
module _ {op : ℕ} {first second : ℤ} (some : 1 ≤ op) (known : op ≤ 13) where
  carried_reads : Carried op first second → step_at (annotation_bytes (triple op first second)) 0 ≡ Ok (annotation (placed (triple op first second) true (length (annotation_bytes (triple op first second)))))
  unfolding operands_of annotation_of
  carried_reads (signed h n l z) =
      let small : operand_of first < 2 ^ 29 = omega (arith, operand_most first) in
      let back : annotation_of op (operand_of first) 0 ≡ triple op first second =
      ⊎_elim (λ (e : op ≡ 6). rw (eq-eqb op 6 e, signed_back, z)) (λ (e : op ≡ 10). rw (ne_eqb op 6 (λ k. omega arith), eq-eqb op 10 e, signed_back, z)) (is_signed_lem op h) in
      rw h (step_one op (operand_of first) some known small n ∙ rw back)
  carried_reads (packed h n e l m) =
      let bound = operand_most second in
      let v = nat_abs first + 16 * operand_of second in
      let low : v % 16 ≡ nat_abs first = omega arith in
      let high : v / 16 ≡ operand_of second = omega arith in
      let back : annotation_of op v 0 ≡ triple op first second =
      rw (ne_eqb op 6 (λ k. omega arith), ne_eqb op 10 (λ k. omega arith), eq-eqb op 11 n, low, high, signed_back, ← e) in
      rw (h, eq-eqb op 11 n) (step_one op v some known (omega arith) (λ k. omega arith) ∙ rw back)
  carried_reads (two h n e l f m) =
      let back : annotation_of op (nat_abs first) (nat_abs second) ≡ triple op first second =
      rw (ne_eqb op 6 (λ k. omega arith), ne_eqb op 10 (λ k. omega arith), ne_eqb op 11 (λ k. omega arith), eq-eqb op 12 n, ← e, ← f) in
      rw (h, ne_eqb op 11 (λ k. omega arith), eq-eqb op 12 n) (step_two op (nat_abs first) some known (omega arith) (nat_abs second) (omega arith) n ∙ rw back)
  carried_reads (plain h n k e l z) =
      let back : annotation_of op (nat_abs first) 0 ≡ triple op first second =
      rw (ne_eqb op 6 (λ t. true≢false (ap is_signed (sym t) ∙ h)), ne_eqb op 10 (λ t. true≢false (ap is_signed (sym t) ∙ h)), ne_eqb op 11 n, ne_eqb op 12 k, ← e, z) in
      rw (h, ne_eqb op 11 n, ne_eqb op 12 k) (step_one op (nat_abs first) some known (omega arith) k ∙ rw back)

pub record_reads : (r : Record) → Writable r → step_at (annotation_bytes (annotation_in r)) 0 ≡ Ok (annotation (placed (annotation_in r) true (length (annotation_bytes (annotation_in r)))))
record_reads r w = carried_reads w.some w.known w.carries

-- ---- a list of annotations, each of which is read back
pub data Readable : List Triple → Type 0 where
  none : Readable []
  more : {t : Triple} {later : List Triple} → step_at (annotation_bytes t) 0 ≡ Ok (annotation (placed t true (length (annotation_bytes t)))) → Readable later → Readable (t ∷ later)

pub readable_append : {xs ys : List Triple} → Readable xs → Readable ys → Readable (xs ++ ys)
readable_append none q = q
readable_append (more e p) q = more e (readable_append p q)

-- where they stand, from a place on
unfoldable pub standing : ℕ → List Triple → List PlacedTriple
standing at [] = []
standing at (t ∷ later) = let next = at + length (annotation_bytes t) in placed t true next ∷ standing next later

pub standing_triples : (at : ℕ) (ts : List Triple) → map (λ (x : PlacedTriple). x.triple) (standing at ts) ≡ ts
unfolding standing
standing_triples at [] = refl
standing_triples at (t ∷ later) = ap (λ l. t ∷ l) (standing_triples (at + length (annotation_bytes t)) later)

pub standing_shortest : (at : ℕ) (ts : List Triple) → map (λ (x : PlacedTriple). x.shortest) (standing at ts) ≡ map (λ _. true) ts
unfolding standing
standing_shortest at [] = refl
standing_shortest at (t ∷ later) =
    ap (λ l. true ∷ l) (standing_shortest (at + length (annotation_bytes t)) later)

-- the steps over them, with any bytes before: each step stands on the two laws of `BytesLaws`
steps : (u : List ℕ) (ts : List Triple) → Readable ts → StepsTo (u ++ bytes_of ts) (length u) (standing (length u) ts) (length (u ++ bytes_of ts))
unfolding bytes_of standing
steps u [] none = rw append-nil StepsTo.none
steps u (t ∷ later) (more e p) =
    let b = annotation_bytes t in
    let first : step_at (b ++ bytes_of later) 0 ≡ Ok (annotation (placed t true (length b))) = more_bytes.found b (bytes_of later) 0 e in
    let here : step_at (u ++ (b ++ bytes_of later)) (length u) ≡ Ok (annotation (placed t true (length u + length b))) =
    rw (add-zero (length u)) at (from_a_place.found u (b ++ bytes_of later) 0 first) in
    StepsTo.more here (rw (append_assoc, length-append u b) at (steps (u ++ b) later p))

-- the run of decoding them all
pub decoded : (ts : List Triple) → Readable ts → record { found = standing 0 ts; at = length (bytes_of ts); last = Ok (length (bytes_of ts)) } ≡ decode_all (bytes_of ts)
decoded ts p =
    let b = bytes_of ts in
    agreement.only b _ (record { steps = steps [] ts p; closes = past_end b (length b) (omega arith) })
