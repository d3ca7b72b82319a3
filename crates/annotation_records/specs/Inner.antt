-- What inner functions promise their callers: the numbers that a record is written as.
use Rattle.std.specs.Prelude.{◌≡◌, cond, List, ◌∷◌, ℕ, ◌+◌, ◌*◌, ◌^◌, ◌<◌, eqb, ℤ, nat_abs, Option, Some, None, IfSome, option_to_list}
use Rattle.annotation_records.specs.Records.{annotation_in}
use Rattle.annotation_records.specs.Ranges.{is_signed}
use Rattle.annotation_records.specs.Operands.{operand_of, operands_of}
use Rattle.annotation_records.specs.declared.record.Record.{Record}
use Rattle.annotation_records.specs.declared.operands.Numbers.{Numbers}

-- the first operand, by its kind
abbrev pub first_operand : ℕ → ℤ → ℤ → ℕ
first_operand op first second =
    cond (is_signed op) (operand_of first) (cond (eqb op 11) (nat_abs first + 16 * operand_of second) (nat_abs first))

-- only 12 has the second operand
abbrev pub second_operand : ℕ → ℤ → Option ℕ
second_operand op second = cond (eqb op 12) (Some (nat_abs second)) None

-- the numbers that are written
abbrev pub numbers_in : Numbers → List ℕ
numbers_in n = n.opcode ∷ n.first ∷ option_to_list n.second

-- each is small enough to have a form
pub record HaveForms (n : Numbers) : Type 0 where
  pub opcode : n.opcode < 2 ^ 29
  pub first : n.first < 2 ^ 29
  pub second : IfSome n.second (λ second. second < 2 ^ 29)

-- the numbers of a record that can be written
pub record NumbersOf (r : Record) (n : Numbers) : Type 0 where
  pub are : numbers_in n ≡ (annotation_in r).opcode ∷ operands_of (annotation_in r)
  pub small : HaveForms n
