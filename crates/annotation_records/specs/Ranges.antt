-- Request 2026-01: which records can be written. "An opcode outside 1 to 13, an operand outside what that opcode can
-- carry, or a second number that should be 0" makes a bad record.
use Rattle.std.specs.Prelude.{ℕ, Bool, true, false, cond, eqb, ℤ, pos, neg_ℤ, nat_abs}
use Rattle.std.specs.Int.Signed.{le_z}
use Rattle.annotation_records.specs.declared.record.Record.{Record}
use Rattle.annotation_records.specs.declared.range.Range.{Range}

-- "from … to …": both ends belong to a range
infix 20 ◌to◌
abbrev pub ◌to◌ : ℤ → ℤ → Range
low to high = record { low = low; high = high }

abbrev pub within : Range → ℤ → Bool
within x z = cond (le_z x.low z) (le_z z x.high) false

-- 6 and 10 are signed
abbrev pub is_signed : ℕ → Bool
is_signed op = cond (eqb op 6) true (eqb op 10)

-- "Operands run from 0 to 536870911; signed ones of 6 and 10 from -268435455 to 268435455; for 11, 0 to 15 and
-- -16777215 to 16777215"
abbrev pub first_range : ℕ → Range
first_range op =
    cond (is_signed op) (neg_ℤ (pos 268435455) to pos 268435455)
    (cond (eqb op 11) (pos 0 to pos 15) (pos 0 to pos 536870911))

-- only 11 and 12 have a second number; any other's is 0
abbrev pub second_range : ℕ → Range
second_range op =
    cond (eqb op 11) (neg_ℤ (pos 16777215) to pos 16777215)
    (cond (eqb op 12) (pos 0 to pos 536870911) (pos 0 to pos 0))

unfoldable pub carries : ℕ → ℤ → ℤ → Bool
carries op first second = cond (within (first_range op) first) (within (second_range op) second) false

unfoldable pub writable : Record → Bool
writable r =
    cond (within (pos 1 to pos 13) r.opcode) (carries (nat_abs r.opcode) r.first r.second) false
