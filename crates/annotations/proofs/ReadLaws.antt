-- An annotation by the numbers that were read: an opcode from 1 to 13 and one operand or, for 12 alone, two.
use mathlib.Core.Path.{◌≡◌}
use mathlib.Core.Bool.{true, false, ◌&&◌}
use mathlib.Core.List.{List}
use Prim.Native.Nat.{ℕ, ◌≤◌}
use native.Mathlib.Omega.{arith}
use borrow.Author.Tests.{eqb-false, leb-true}
use lib.Dec.{leb, eqb}
use lib.ListN.{length}
use Rattle.std.specs.Prelude.{Result, Ok}
use Rattle.outcome.specs.Outcome.{require}
use Rattle.outcome.proofs.OutcomeLaws.{by_test, came, came_by, passed}
use Rattle.numbers.specs.Refusal.{Stop}
use Rattle.numbers.specs.Number.{number_at}
use Rattle.numbers.specs.declared.number.Number.{Number}
use Rattle.annotations.specs.Annotation.{annotation_of}
use Rattle.annotations.specs.Step.{PlacedTriple, placed, Stepped, annotation, end, operands, step_at}

pub record Opcode (s : List ℕ) (at : ℕ) (code : Number) : Type 0 where
  pub is : number_at s at ≡ Ok code
  pub some : 1 ≤ code.value
  pub known : code.value ≤ 13

-- the annotation that they make
abbrev pub with_one_operand : Number → Number → PlacedTriple
with_one_operand code v = placed (annotation_of code.value v.value 0) (code.shortest && v.shortest) v.next

abbrev pub with_two_operands : Number → Number → Number → PlacedTriple
with_two_operands code v w =
    placed (annotation_of code.value v.value w.value) (code.shortest && v.shortest && w.shortest) w.next

pub data Read (s : List ℕ) (at : ℕ) : PlacedTriple → Type 0 where
  one : {code v : Number} → Opcode s at code → number_at s code.next ≡ Ok v → eqb code.value 12 ≡ false
      → Read s at (with_one_operand code v)
  two : {code v w : Number} → Opcode s at code → number_at s code.next ≡ Ok v → number_at s v.next ≡ Ok w
      → eqb code.value 12 ≡ true
      → Read s at (with_two_operands code v w)

pub step_read : (s : List ℕ) (at : ℕ) {x : PlacedTriple} → step_at s at ≡ Ok (annotation x) → Read s at x
unfolding step_at operands
step_read s at {x} =
    by_test P (leb (length s) at) (λ _ e. no_end e)
    (λ _ e. came_by (number_at s at) _ e λ code c f.
    by_test P (eqb code.value 0) (λ _ g. no_end g)
    (λ z g. came (require (leb code.value 13) _) _ g λ _ t h.
    let some = eqb-false code.value 0 z in
    let known = leb-true code.value 13 (passed _ _ t) in
    let opcode : Opcode s at code = record { is = c; some = omega arith; known = known } in
    came_by (number_at s code.next) _ h λ v d i.
    by_test P (eqb code.value 12)
    (λ k j. came_by (number_at s v.next) _ j λ w l m. is _ (two opcode d l k) m)
    (λ k j. is _ (one opcode d k) j) i) f)
  where
    P : Result Stepped Stop → Type 0
    P o = o ≡ Ok (annotation x) → Read s at x

    is : (y : PlacedTriple) → Read s at y → P (Ok (annotation y))
    is y h e = let f : y ≡ x = cc in rw (← f) h

    no_end : {p : ℕ} → P (Ok (end p))
    no_end e = absurd (let z : ◌≡◌ {A = ℕ} 0 1 = cc in omega arith)
