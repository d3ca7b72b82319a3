-- What a range says of the numbers in it, and so what kinds of numbers an opcode can carry.
use mathlib.Core.Path.{◌≡◌, refl, sym, ◌∙◌, ap}
use mathlib.Core.Bool.{Bool, true, false, cond, true≢false}
use mathlib.Core.Logic.{◌⊎◌, inl, inr, ⊎_elim}
use Prim.Native.Nat.{ℕ, zero, suc, ◌≤◌}
use native.Mathlib.Omega.{arith}
use borrow.Author.Tests.{eqb-true, eqb-false, leb-true}
use lib.Dec.{eqb}
use lib.IntN.{ℤ, pos, negsuc, neg_ℤ, nat_abs}
use lib.Signed.{mag, le_z}
use mir.Syntax.{w64}
use mir.Val.{to_z, of_z}
use Rattle.outcome.proofs.OutcomeLaws.{and_true}
use Rattle.annotations.proofs.AnnotationLaws.{stored}
use Rattle.annotation_records.specs.Ranges.{◌to◌, within, is_signed, first_range, second_range, carries, writable}
use Rattle.annotation_records.specs.declared.record.Record.{Record}

-- a number that the machine stored and read back
abbrev pub kept : ℤ → ℤ
kept z = to_z w64 (of_z w64 z)

-- ---- what a range says of a number in it
pub from : (l : ℕ) (z : ℤ) {m : ℕ} → within (pos l to pos m) z ≡ true → (l ≤ nat_abs z) × ((z ≡ pos (nat_abs z)) × (nat_abs z ≤ m))
from l z {m} e = go z (and_true (le_z (pos l) z) (le_z z (pos m)) e)
  where
    go : (y : ℤ) → (le_z (pos l) y ≡ true) × (le_z y (pos m) ≡ true) → (l ≤ nat_abs y) × ((y ≡ pos (nat_abs y)) × (nat_abs y ≤ m))
    go (pos n) f = (leb-true l n f.0, (refl, leb-true n m f.1))
    go (negsuc n) f = absurd (true≢false (sym f.0))

module _ (m : ℕ) (z : ℤ) where
  pub natural : within (pos 0 to pos m) z ≡ true → (z ≡ pos (nat_abs z)) × (nat_abs z ≤ m)
  natural e = (from 0 z e).1

  pub either_sign : within (neg_ℤ (pos m) to pos m) z ≡ true → nat_abs z ≤ m
  either_sign e = go m z (and_true (le_z (neg_ℤ (pos m)) z) (le_z z (pos m)) e)
    where
      go : (k : ℕ) (y : ℤ) → (le_z (neg_ℤ (pos k)) y ≡ true) × (le_z y (pos k) ≡ true) → nat_abs y ≤ k
      go k (pos n) f = leb-true n k f.1
      go zero (negsuc n) f = absurd (true≢false (sym f.0))
      go (suc k) (negsuc n) f = let h = leb-true n k f.0 in omega arith

pub is_zero : (z : ℤ) → within (pos 0 to pos 0) z ≡ true → z ≡ pos 0
is_zero z e = let n = natural 0 z e in n.0 ∙ ap pos (omega (arith, n.1))

-- ---- a small number is read back as it is
mag_small : (z : ℤ) {n : ℕ} → nat_abs z ≤ n → mag z ≤ n
mag_small (pos n) h = h
mag_small (negsuc n) h = omega arith

pub is_kept : (z : ℤ) → nat_abs z ≤ 536870911 → kept z ≡ z
is_kept z small = let h = mag_small z small in stored (omega arith)

-- ---- the four kinds of numbers that an opcode can carry
pub data Carried (op : ℕ) (first second : ℤ) : Type 0 where
  signed : is_signed op ≡ true → (op ≡ 12 → ⊥) → nat_abs first ≤ 268435455 → second ≡ pos 0 → Carried op first second
  packed : is_signed op ≡ false → op ≡ 11 → first ≡ pos (nat_abs first) → nat_abs first ≤ 15 → nat_abs second ≤ 16777215 → Carried op first second
  two : is_signed op ≡ false → op ≡ 12 → first ≡ pos (nat_abs first) → nat_abs first ≤ 536870911 → second ≡ pos (nat_abs second) → nat_abs second ≤ 536870911 → Carried op first second
  plain : is_signed op ≡ false → (op ≡ 11 → ⊥) → (op ≡ 12 → ⊥) → first ≡ pos (nat_abs first) → nat_abs first ≤ 536870911 → second ≡ pos 0 → Carried op first second

pub is_signed_lem : (op : ℕ) → is_signed op ≡ true → (op ≡ 6) ⊎ (op ≡ 10)
is_signed_lem op = go (eqb op 6) refl
  where
    go : (b : Bool) → eqb op 6 ≡ b → cond b true (eqb op 10) ≡ true → (op ≡ 6) ⊎ (op ≡ 10)
    go true e _ = inl (eqb-true op 6 e)
    go false _ f = inr (eqb-true op 10 f)

signed_kind : (op : ℕ) (first second : ℤ) → is_signed op ≡ true → within (first_range op) first ≡ true → within (second_range op) second ≡ true → Carried op first second
signed_kind op first second h f g =
    let f' : within (neg_ℤ (pos 268435455) to pos 268435455) first ≡ true = rw h at f in
    ⊎_elim
    (λ (e : op ≡ 6). signed h (λ t. omega arith) (either_sign 268435455 first f') (is_zero second (rw e at g)))
    (λ (e : op ≡ 10). signed h (λ t. omega arith) (either_sign 268435455 first f') (is_zero second (rw e at g)))
    (is_signed_lem op h)

module _ (op : ℕ) (first second : ℤ) (h : is_signed op ≡ false) where
  other_kind : (b c : Bool) → eqb op 11 ≡ b → eqb op 12 ≡ c → within (first_range op) first ≡ true → within (second_range op) second ≡ true → Carried op first second
  other_kind true c e _ f g =
      let n = natural 15 first (rw (h, e) at f) in
      packed h (eqb-true op 11 e) n.0 n.1 (either_sign 16777215 second (rw e at g))
  other_kind false true e d f g =
      let m = natural 536870911 first (rw (h, e) at f) in
      let n = natural 536870911 second (rw (e, d) at g) in
      two h (eqb-true op 12 d) m.0 m.1 n.0 n.1
  other_kind false false e d f g =
      let m = natural 536870911 first (rw (h, e) at f) in
      plain h (eqb-false op 11 e) (eqb-false op 12 d) m.0 m.1 (is_zero second (rw (e, d) at g))

pub carried : (op : ℕ) (first second : ℤ) → carries op first second ≡ true → Carried op first second
unfolding carries
carried op first second e =
    let p = and_true (within (first_range op) first) (within (second_range op) second) e in
    go (is_signed op) refl p.0 p.1
  where
    go : (b : Bool) → is_signed op ≡ b → within (first_range op) first ≡ true → within (second_range op) second ≡ true → Carried op first second
    go true h f g = signed_kind op first second h f g
    go false h f g = other_kind op first second h (eqb op 11) (eqb op 12) refl refl f g

-- ---- a record that can be written
pub record Writable (r : Record) : Type 0 where
  pub some : 1 ≤ nat_abs r.opcode
  pub known : nat_abs r.opcode ≤ 13
  pub opcode : r.opcode ≡ pos (nat_abs r.opcode)
  pub carries : Carried (nat_abs r.opcode) r.first r.second

pub writable_carries : (r : Record) → writable r ≡ true → carries (nat_abs r.opcode) r.first r.second ≡ true
unfolding writable
writable_carries r e = (and_true (within (pos 1 to pos 13) r.opcode) _ e).1

pub can_be_written : (r : Record) → writable r ≡ true → Writable r
unfolding writable
can_be_written r e =
    let o = from 1 r.opcode (and_true (within (pos 1 to pos 13) r.opcode) _ e).0 in
    record { some = o.0; known = o.1.1; opcode = o.1.0; carries = carried _ _ _ (writable_carries r e) }
