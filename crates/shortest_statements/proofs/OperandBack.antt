-- The operands of an annotation that was read: when they are what is written for them again, and that they can be
-- written.
use mathlib.Core.Path.{◌≡◌, refl, sym, ◌∙◌}
use mathlib.Core.Bool.{Bool, true, false, cond, true≢false}
use Prim.Native.Nat.{ℕ, zero, suc, ◌/◌, ◌%◌, ◌^◌, ◌≤◌, ◌<◌}
use native.Mathlib.Omega.{arith}
use borrow.Author.Tests.{eqb-true, le-leb}
use lib.Dec.{eqb}
use lib.IntN.{pos, neg_ℤ}
use Rattle.outcome.proofs.OutcomeLaws.{by_test, by_tests}
use Rattle.annotations.specs.Signed.{signed_of}
use Rattle.annotations.specs.Annotation.{annotation_of}
use Rattle.annotations.specs.declared.annotation.Triple.{Triple}
use Rattle.annotation_records.specs.Ranges.{◌to◌, within, is_signed, carries, writable}
use Rattle.annotation_records.specs.declared.record.Record.{Record}
use Rattle.annotation_writer_statements.proofs.AgainLaws.{signed_again, packed_again, again, plain_is}
use Rattle.shortest_statements.specs.Rewriting.{odd_zero}

-- a choice that is not taken keeps v
kept : (b : Bool) (x v : ℕ) → b ≡ false → cond b x v ≡ v
kept true x v e = absurd (true≢false e)
kept false x v e = refl

kept_only : (b : Bool) {x v : ℕ} → (b ≡ true → x < v) → cond b x v ≡ v → b ≡ false
kept_only true h e = absurd (omega (arith, h refl))
kept_only false h e = refl

-- what is written for v is v exactly where there is no odd zero
module _ (op v : ℕ) where
  pub again_is : odd_zero op v ≡ false → again op v ≡ v
  unfolding again odd_zero
  again_is =
      let P : Bool → ℕ → Type 0 = λ odd n. odd ≡ false → n ≡ v in
      by_tests P (is_signed op) (λ _ e. signed_again v ∙ kept (eqb v 1) 0 v e)
      (λ _. by_tests P (eqb op 11) (λ _ e. packed_again v ∙ kept (eqb (v / 16) 1) (v % 16) v e) (λ _ _. refl))

  pub again_only : again op v ≡ v → odd_zero op v ≡ false
  unfolding again odd_zero
  again_only =
      let P : ℕ → Bool → Type 0 = λ n odd. n ≡ v → odd ≡ false in
      by_tests P (is_signed op)
      (λ _ e. kept_only (eqb v 1) (λ t. omega (arith, eqb-true v 1 t)) (sym (signed_again v) ∙ e))
      (λ _. by_tests P (eqb op 11)
      (λ _ e. kept_only (eqb (v / 16) 1) (λ t. omega (arith, eqb-true (v / 16) 1 t)) (sym (packed_again v) ∙ e))
      (λ _ _. refl))

-- 12 has none
pub two_clean : (op v : ℕ) → eqb op 12 ≡ true → odd_zero op v ≡ false
unfolding odd_zero
two_clean op v t = rw (eqb-true op 12 t)

-- ---- numbers that were read can be written
-- the record that says an annotation
abbrev pub record_of : Triple → Record
record_of t = record { opcode = pos t.opcode; first = t.first; second = t.second }

natural_within : (m v : ℕ) → v ≤ m → within (pos 0 to pos m) (pos v) ≡ true
natural_within m v l = rw (le-leb 0 v (omega arith), le-leb v m l)

signed_within : (m v : ℕ) → v / 2 ≤ m → within (neg_ℤ (pos m) to pos m) (signed_of v) ≡ true
unfolding signed_of
signed_within m v l =
    by_test (λ z. within (neg_ℤ (pos m) to pos m) z ≡ true) (eqb (v % 2) 0) (λ _. above m) (λ _. below m (v / 2) l)
  where
    above : (n : ℕ) → within (neg_ℤ (pos n) to pos m) (pos (v / 2)) ≡ true
    above zero = natural_within m (v / 2) l
    above (suc n) = rw (le-leb (v / 2) m l)

    below : (n h : ℕ) → h ≤ n → within (neg_ℤ (pos n) to pos n) (neg_ℤ (pos h)) ≡ true
    below zero zero k = refl
    below zero (suc h) k = absurd (omega arith)
    below (suc n) zero k = rw (le-leb 0 (suc n) k)
    below (suc n) (suc h) k = rw (le-leb h n (omega arith))

module _ (op v : ℕ) (some : 1 ≤ op) (known : op ≤ 13) (small : v < 2 ^ 29) where
  pub one_writable : eqb op 12 ≡ false → writable (record_of (annotation_of op v 0)) ≡ true
  unfolding annotation_of carries writable
  one_writable t = go (eqb op 6) (eqb op 10) (eqb op 11) refl refl refl
    where
      go : (a b c : Bool) → eqb op 6 ≡ a → eqb op 10 ≡ b → eqb op 11 ≡ c
          → writable (record_of (annotation_of op v 0)) ≡ true
      go true b c e f g = rw (eqb-true op 6 e, signed_within 268435455 v (omega arith))
      go false true c e f g = rw (eqb-true op 10 f, signed_within 268435455 v (omega arith))
      go false false true e f g =
          rw (eqb-true op 11 g, natural_within 15 (v % 16) (omega arith), signed_within 16777215 (v / 16) (omega arith))
      go false false false e f g =
          rw (plain_is op v e f g t, e, f, g, t, le-leb 1 op some, le-leb op 13 known)
          (rw (natural_within 536870911 v (omega arith)))

  pub two_writable : (w : ℕ) → w < 2 ^ 29 → eqb op 12 ≡ true → writable (record_of (annotation_of op v w)) ≡ true
  unfolding annotation_of carries writable
  two_writable w l t =
      rw (eqb-true op 12 t, natural_within 536870911 v (omega arith), natural_within 536870911 w (omega arith))
