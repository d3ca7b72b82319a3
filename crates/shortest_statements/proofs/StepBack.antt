-- A step that answered an annotation: the bytes in which its numbers stand, and that its record can be written.
use mathlib.Core.Path.{◌≡◌, refl, sym, ◌∙◌}
use mathlib.Core.Bool.{Bool, true, false, ◌&&◌}
use mathlib.Core.List.{List, ◌++◌, append_assoc}
use Prim.Native.Nat.{ℕ, ◌^◌, ◌<◌}
use native.Mathlib.Omega.{arith}
use lib.ListN.{drop}
use Rattle.std.specs.Prelude.{Ok}
use Rattle.outcome.proofs.OutcomeLaws.{ok_is}
use Rattle.numbers.specs.Number.{number_at}
use Rattle.numbers.specs.declared.number.Number.{Number}
use Rattle.annotations.specs.Step.{PlacedTriple}
use Rattle.annotations.proofs.ReadLaws.{Read, one, two}
use Rattle.shortest.specs.Short.{Bytes}
use Rattle.annotation_records.specs.Ranges.{writable}
use Rattle.annotation_records.specs.Operands.{annotation_bytes}
use Rattle.shortest_statements.specs.Rewriting.{odd_zero, NoOddZero}
use Rattle.shortest_statements.proofs.FormBack.{number_small, number_back, number_of_form}
use Rattle.annotation_writer_statements.proofs.AgainLaws.{again, again_most, bytes_one, bytes_two}
use Rattle.shortest_statements.proofs.OperandBack.{again_is, again_only, two_clean, record_of, one_writable, two_writable}

-- ---- its bytes are those that are written for it, and then come those from the place after it
both : (a b : Bool) → a && b ≡ true → (a ≡ true) × (b ≡ true)
both true b e = (refl, e)
both false b e = (e, cc)

-- numbers that are read at the same places are the same
same_numbers : (s : List ℕ) (at : ℕ) {code code' v v' : Number} → number_at s at ≡ Ok code → number_at s at ≡ Ok code'
    → number_at s code.next ≡ Ok v → number_at s code'.next ≡ Ok v'
    → odd_zero code.value v.value ≡ false → odd_zero code'.value v'.value ≡ false
same_numbers s at {code} {code'} {v} {v'} e f g h k =
    let opcode : code ≡ code' = ok_is (sym e ∙ f) in
    let first : v ≡ v' = ok_is (sym g ∙ rw (← opcode) at h) in
    rw (← opcode, ← first) k

pub record WrittenSo (s : List ℕ) (at : ℕ) (x : PlacedTriple) (later : List ℕ) : Type 0 where
  pub shortest : x.shortest ≡ true
  pub no_odd_zero : NoOddZero s at
  pub after : drop x.next s ≡ later

module _ {s : List ℕ} {at : ℕ} (bytes : Bytes s) where
  -- if all its numbers were shortest and its zero is not odd
  pub read_back : {x : PlacedTriple} → Read s at x → x.shortest ≡ true → NoOddZero s at
      → drop at s ≡ annotation_bytes x.triple ++ drop x.next s
  read_back (one {code} {v} c d t) h fine =
      let op = code.value in
      let p = both code.shortest v.shortest h in
      let first = number_back s code.next bytes d p.1 in
      number_back s at bytes c.is p.0
      ∙ rw (first, bytes_one op v.value t, again_is op v.value (fine code v c.is d), append_assoc)
  read_back (two {code} {v} {w} c d e t) h fine =
      let p = both (code.shortest && v.shortest) w.shortest h in
      let q = both code.shortest v.shortest p.0 in
      let first = number_back s code.next bytes d q.1 in
      let second = number_back s v.next bytes e p.1 in
      number_back s at bytes c.is q.0
      ∙ rw (first, second, bytes_two code.value v.value w.value t, append_assoc, append_assoc)

  -- and only then
  pub read_only : {x : PlacedTriple} → Read s at x → {later : List ℕ}
      → drop at s ≡ annotation_bytes x.triple ++ later → WrittenSo s at x later
  read_only (one {code} {v} c d t) h =
      let op = code.value in
      let small : again op v.value < 2 ^ 29 = omega (arith, again_most op v.value, number_small s _ bytes d) in
      let stands = rw (bytes_one op v.value t, append_assoc) at h in
      let opcode = number_of_form s at op c.is (omega (arith, c.known)) stands in
      let first = number_of_form s code.next (again op v.value) d small opcode.after in
      record {
        shortest = rw (opcode.shortest, first.shortest);
        no_odd_zero = λ _ _ f g. same_numbers s at c.is f d g (again_only op v.value (sym first.value));
        after = first.after;
      }
  read_only (two {code} {v} {w} c d e t) h =
      let op = code.value in
      let stands = rw (bytes_two op v.value w.value t, append_assoc, append_assoc) at h in
      let opcode = number_of_form s at op c.is (omega (arith, c.known)) stands in
      let first = number_of_form s code.next v.value d (number_small s _ bytes d) opcode.after in
      let second = number_of_form s v.next w.value e (number_small s _ bytes e) first.after in
      record {
        shortest = rw (opcode.shortest, first.shortest, second.shortest);
        no_odd_zero = λ _ _ f g. same_numbers s at c.is f d g (two_clean op v.value t);
        after = second.after;
      }

  -- ---- its record can be written
  pub read_writable : {x : PlacedTriple} → Read s at x → writable (record_of x.triple) ≡ true
  read_writable (one {code} {v} c d t) =
      one_writable code.value v.value c.some c.known (number_small s _ bytes d) t
  read_writable (two {code} {v} {w} c d e t) =
      two_writable code.value v.value c.some c.known (number_small s _ bytes d) w.value
      (number_small s _ bytes e) t
