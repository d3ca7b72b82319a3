-- The numbers of a record as the machine computes them: small enough at each step, and those of `operands_of`. Then their
-- widths, and their forms put one after another.
use mathlib.Core.Path.{◌≡◌, refl, sym, ◌∙◌, ap}
use mathlib.Core.Bool.{Bool, true, false, cond, true≢false}
use mathlib.Core.List.{List, [], ◌∷◌, ◌++◌, append-nil, append_assoc}
use Prim.Native.Nat.{ℕ, ◌+◌, ◌*◌, ◌^◌, ◌≤◌, ◌<◌}
use native.Mathlib.Omega.{arith}
use borrow.Author.Tests.{eq-eqb, ne_eqb}
use lib.Dec.{eqb}
use lib.ListN.{length, length-append}
use lib.IntN.{ℤ, pos, negsuc, nat_abs}
use mir.Syntax.{w32}
use mir.Val.{Fits}
use Rattle.std.specs.Bool.{then_some}
use Rattle.std.specs.Prelude.{Option, Some, None, IfSome, option_to_list}
use Rattle.store.specs.Putting.{Putting}
use Rattle.store.proofs.PutLaws.{puts_more}
use Rattle.annotations.specs.Annotation.{triple}
use Rattle.annotations.specs.declared.annotation.Triple.{Triple}
use Rattle.shortest.proofs.ShortLaws.{short_some, short_most}
use Rattle.annotation_records.specs.Ranges.{carries, writable}
use Rattle.annotation_records.specs.Operands.{operand_of, operands_of, shorts, annotation_bytes}
use Rattle.annotation_records.specs.Inner.{first_operand, second_operand, numbers_in, NumbersOf}
use Rattle.annotation_records.proofs.RangeLaws.{kept, is_kept, Carried, signed, packed, two, plain, carried, Writable, can_be_written, writable_carries}
use Rattle.annotation_records.specs.declared.record.Record.{Record}
use Rattle.annotation_records.specs.declared.operands.Numbers.{Numbers}

-- ---- `operand_of`
pub operand_most : (z : ℤ) → operand_of z ≤ 2 * nat_abs z + 1
unfolding operand_of
operand_most (pos n) = omega arith
operand_most (negsuc n) = omega arith

-- ---- `first_operand`: each number is as small as its kind says, so none is cut
module _ {op : ℕ} {first second : ℤ} where
  first_small : Carried op first second → nat_abs first ≤ 536870911
  first_small (signed h n l z) = omega arith
  first_small (packed h n e l m) = omega arith
  first_small (two h n e l f m) = l
  first_small (plain h n k e l z) = l

  pub second_small : Carried op first second → nat_abs second ≤ 536870911
  second_small (signed h n l z) = rw z (omega arith)
  second_small (packed h n e l m) = omega arith
  second_small (two h n e l f m) = m
  second_small (plain h n k e l z) = rw z (omega arith)

  packed_small : op ≡ 11 → Carried op first second → (nat_abs first ≤ 15) × (nat_abs second ≤ 16777215)
  packed_small t (signed h n l z) = absurd (true≢false (sym h ∙ rw t))
  packed_small t (packed h n e l m) = (l, m)
  packed_small t (two h n e l f m) = absurd (omega arith)
  packed_small t (plain h n k e l z) = absurd (n t)

module _ (op : ℕ) (first second : ℤ) (h : carries op first second ≡ true) (n : op ≡ 11) {v : ℕ} (j : v ≡ operand_of (kept second)) where
  small : (nat_abs first ≤ 15) × (nat_abs second ≤ 16777215)
  small = packed_small n (carried op first second h)

  above_most : v ≤ 33554431
  above_most =
      let v_is : v ≡ operand_of second = j ∙ ap operand_of (is_kept second (omega (arith, small.1))) in
      omega (arith, v_is, operand_most second, small.1)

  pub above_fits : Fits w32 (16 * v)
  above_fits = record { fits = omega (arith, above_most) }

  pub packed_fits : {m : ℕ} → m ≡ nat_abs (kept first) → Fits w32 (m + 16 * v)
  packed_fits o =
      let first_is = ap nat_abs (is_kept first (omega (arith, small.0))) in
      record { fits = omega (arith, above_most, o ∙ first_is, small.0) }

pub ruleset first_cases = (above_fits, packed_fits)

-- ---- `numbers_of`
module _ {op : ℕ} {first second : ℤ} where
  pub first_form : Carried op first second → first_operand op first second < 2 ^ 29
  first_form (signed h n l z) = rw h (omega (arith, operand_most first))
  first_form (packed h n e l m) = rw (h, eq-eqb op 11 n) (omega (arith, operand_most second))
  first_form (two h n e l f m) = rw (h, ne_eqb op 11 (λ k. omega arith)) (omega arith)
  first_form (plain h n k e l z) = rw (h, ne_eqb op 11 n) (omega arith)

  pub second_form : Carried op first second → IfSome (second_operand op second) (λ second. second < 2 ^ 29)
  second_form k = go (eqb op 12)
    where
      go : (b : Bool) → IfSome (cond b (Some (nat_abs second)) None) (λ second. second < 2 ^ 29)
      go true = omega (arith, second_small k)
      go false = tt

  pub numbers_are : Carried op first second → numbers_in (record { opcode = op; first = first_operand op first second; second = second_operand op second }) ≡ op ∷ operands_of (triple op first second)
  unfolding operands_of
  numbers_are (signed h n l z) = rw (h, ne_eqb op 12 n)
  numbers_are (packed h n e l m) = rw (h, eq-eqb op 11 n, ne_eqb op 12 (λ k. omega arith))
  numbers_are (two h n e l f m) = rw (h, ne_eqb op 11 (λ k. omega arith), eq-eqb op 12 n)
  numbers_are (plain h n k e l z) = rw (h, ne_eqb op 11 n, ne_eqb op 12 k)

module _ (r : Record) (w : writable r ≡ true) where
  good : Writable r
  good = can_be_written r w

  opcode_kept : kept r.opcode ≡ r.opcode
  opcode_kept = is_kept r.opcode (let k = good.known in omega arith)

  left_kept : kept r.first ≡ r.first
  left_kept = is_kept r.first (first_small good.carries)

  right_kept : kept r.second ≡ r.second
  right_kept = is_kept r.second (second_small good.carries)

  pub opcode_magnitude : nat_abs (kept r.opcode) ≤ 536870911
  opcode_magnitude = rw opcode_kept (let k = good.known in omega arith)

  pub second_magnitude : nat_abs (kept r.second) ≤ 536870911
  second_magnitude = rw right_kept (second_small good.carries)

  module _ {op : ℕ} (i : op ≡ nat_abs (kept r.opcode)) where
    pub opcode_carries : carries op (kept r.first) (kept r.second) ≡ true
    opcode_carries = rw (i, opcode_kept, left_kept, right_kept) (writable_carries r w)

    module _ {first : ℕ} (j : first ≡ first_operand op (kept r.first) (kept r.second)) where
      pub numbers : {second : Option ℕ} → second ≡ second_operand op r.second → NumbersOf r (record { opcode = op; first = first; second = second })
      numbers {second} k =
          let op_is : op ≡ nat_abs r.opcode = i ∙ ap nat_abs opcode_kept in
          let first_is : first ≡ first_operand (nat_abs r.opcode) r.first r.second = j ∙ rw (op_is, left_kept, right_kept) in
          rw (k, op_is, first_is)
          (record {
            are = numbers_are good.carries;
            small = record { opcode = let l = good.known in omega arith; first = first_form good.carries; second = second_form good.carries };
          })

      pub of_twelve : {m : ℕ} → m ≡ nat_abs (kept r.second) → {second : Option ℕ} → second ≡ then_some (eqb op 12) m → NumbersOf r (record { opcode = op; first = first; second = second })
      of_twelve {m} k l = numbers (l ∙ go (eqb op 12))
        where
          go : (b : Bool) → then_some b m ≡ cond b (Some (nat_abs r.second)) None
          go true = ap Some (k ∙ ap nat_abs right_kept)
          go false = refl

pub ruleset numbers_cases = (opcode_magnitude, second_magnitude, opcode_carries, of_twelve)

-- at most four bytes each
pub numbers_few : (n : Numbers) → length (shorts (numbers_in n)) ≤ 12
unfolding shorts
numbers_few n = go n.second
  where
    go : (second : Option ℕ) → length (shorts (n.opcode ∷ n.first ∷ option_to_list second)) ≤ 12
    go (Some m) = rw (length-append, length-append, length-append) (omega (arith, short_most n.opcode, short_most n.first, short_most m))
    go None = rw (length-append, length-append) (omega (arith, short_most n.opcode, short_most n.first))

-- an annotation has an opcode, so it takes bytes
pub annotation_some : (t : Triple) → 1 ≤ length (annotation_bytes t)
unfolding shorts
annotation_some t = rw length-append (omega (arith, short_some t.opcode))

-- ---- `put`: form after form
module _ {a b out out₁ out₂ : List ℕ} {at r₁ r₂ : ℕ} (p : Putting a out at out₁ r₁) (q : Putting b out₁ r₁ out₂ r₂) where
  pub puts_two : Putting (a ++ (b ++ [])) out at out₂ r₂
  puts_two = rw append-nil (puts_more p q)

  pub puts_three : {c out₃ : List ℕ} {r₃ : ℕ} → Putting c out₂ r₂ out₃ r₃ → Putting (a ++ (b ++ (c ++ []))) out at out₃ r₃
  puts_three {c} s = rw (append-nil, ← append_assoc a b c) (puts_more (puts_more p q) s)

pub ruleset put_cases = (puts_two, puts_three)
