-- What is written for an annotation that was read: the operand for each operand, which is never larger, and the bytes.
use mathlib.Core.Path.{◌≡◌, refl}
use mathlib.Core.Bool.{Bool, true, false, cond}
use mathlib.Core.List.{[], ◌∷◌, ◌++◌, append-nil}
use Prim.Native.Nat.{ℕ, zero, suc, ◌+◌, ◌*◌, ◌/◌, ◌%◌, ◌≤◌}
use native.Mathlib.Omega.{arith}
use borrow.Author.Tests.{eq-eqb, ne_eqb, eqb-true, eqb-false}
use lib.Dec.{eqb}
use lib.IntN.{pos, neg_ℤ}
use Rattle.outcome.proofs.OutcomeLaws.{by_test}
use Rattle.annotations.specs.Signed.{signed_of}
use Rattle.annotations.specs.Annotation.{triple, annotation_of}
use Rattle.annotations.specs.declared.annotation.Triple.{Triple}
use Rattle.shortest.specs.Short.{short}
use Rattle.annotation_records.specs.Ranges.{is_signed}
use Rattle.annotation_records.specs.Operands.{operand_of, operands_of, shorts, annotation_bytes}

-- ---- the operand that is written for an operand v that was read
-- signed, it is v, unless v is 1
negative_again : (h v : ℕ) → 2 * h + 1 ≡ v → operand_of (neg_ℤ (pos h)) ≡ cond (eqb v 1) 0 v
unfolding operand_of
negative_again zero v e = rw (eq-eqb v 1 (omega arith))
negative_again (suc h) v e = rw (ne_eqb v 1 (λ k. omega arith)) e

pub signed_again : (v : ℕ) → operand_of (signed_of v) ≡ cond (eqb v 1) 0 v
unfolding operand_of signed_of
signed_again v =
    by_test (λ z. operand_of z ≡ cond (eqb v 1) 0 v) (eqb (v % 2) 0)
    (λ e. let even = eqb-true (v % 2) 0 e in rw (ne_eqb v 1 (λ k. omega arith)) (omega arith))
    (λ e. negative_again (v / 2) v (omega (arith, eqb-false (v % 2) 0 e)))

pub packed_again : (v : ℕ) → v % 16 + 16 * operand_of (signed_of (v / 16)) ≡ cond (eqb (v / 16) 1) (v % 16) v
packed_again v = rw (signed_again (v / 16)) (go (eqb (v / 16) 1))
  where
    go : (b : Bool) → v % 16 + 16 * cond b 0 (v / 16) ≡ cond b (v % 16) v
    go true = omega arith
    go false = omega arith

-- what is not kept is less
kept_or_less : (b : Bool) {x v : ℕ} → x ≤ v → cond b x v ≤ v
kept_or_less true l = l
kept_or_less false l = omega arith

-- by the opcode's kind
unfoldable pub again : ℕ → ℕ → ℕ
again op v =
    cond (is_signed op) (operand_of (signed_of v)) (cond (eqb op 11) (v % 16 + 16 * operand_of (signed_of (v / 16))) v)

pub again_most : (op v : ℕ) → again op v ≤ v
unfolding again
again_most op v =
    let P : ℕ → Type 0 = λ n. n ≤ v in
    by_test P (is_signed op) (λ _. rw (signed_again v) (kept_or_less (eqb v 1) (omega arith)))
    (λ _. by_test P (eqb op 11) (λ _. rw (packed_again v) (kept_or_less (eqb (v / 16) 1) (omega arith)))
    (λ _. omega arith))

-- ---- the bytes that are written for an annotation
opcode_is : (op v w : ℕ) → (annotation_of op v w).opcode ≡ op
unfolding annotation_of
opcode_is op v w =
    let P : Triple → Type 0 = λ t. t.opcode ≡ op in
    by_test P (eqb op 6) (λ _. refl)
    (λ _. by_test P (eqb op 10) (λ _. refl)
    (λ _. by_test P (eqb op 11) (λ _. refl) (λ _. by_test P (eqb op 12) (λ _. refl) (λ _. refl))))

-- an opcode of no other kind has one plain operand
pub plain_is : (op v : ℕ) → eqb op 6 ≡ false → eqb op 10 ≡ false → eqb op 11 ≡ false → eqb op 12 ≡ false
    → annotation_of op v 0 ≡ triple op (pos v) (pos 0)
unfolding annotation_of
plain_is op v e f g h = rw (e, f, g, h)

operands_one : (op v : ℕ) → eqb op 12 ≡ false → operands_of (annotation_of op v 0) ≡ again op v ∷ []
unfolding annotation_of operands_of again
operands_one op v t = go (eqb op 6) (eqb op 10) (eqb op 11) refl refl refl
  where
    go : (a b c : Bool) → eqb op 6 ≡ a → eqb op 10 ≡ b → eqb op 11 ≡ c
        → operands_of (annotation_of op v 0) ≡ again op v ∷ []
    go true b c e f g = rw (eqb-true op 6 e)
    go false true c e f g = rw (eqb-true op 10 f)
    go false false true e f g = rw (eqb-true op 11 g)
    go false false false e f g = rw (plain_is op v e f g t, e, f, g, t)

pub bytes_one : (op v : ℕ) → eqb op 12 ≡ false
    → annotation_bytes (annotation_of op v 0) ≡ short op ++ short (again op v)
unfolding shorts
bytes_one op v t = rw (operands_one op v t, opcode_is op v 0, append-nil)

pub bytes_two : (op v w : ℕ) → eqb op 12 ≡ true
    → annotation_bytes (annotation_of op v w) ≡ short op ++ (short v ++ short w)
unfolding annotation_of operands_of shorts
bytes_two op v w t = rw (eqb-true op 12 t, append-nil)
