-- Request 2026-01: each refusal of a list comes exactly under its condition, in the order 21, 20, 10.
use Rattle.std.specs.Prelude.{◌≡◌, ◌⊎◌, ◌↔◌, true, false, List, ℕ, ◌%◌, ◌≤◌, ◌<◌, length, ℤ, pos, neg_ℤ, ◌≤ℤ◌, Ok, Err}
use Rattle.annotation_records.specs.Records.{entries_each, count, record_at}
use Rattle.annotation_records.specs.Ranges.{writable}
use Rattle.annotation_records.specs.declared.record.Record.{Record}
use Rattle.annotation_writer.specs.Refusal.{refusal_in}
use Rattle.annotation_writer.specs.Writing.{list_bytes, writing}
use Rattle.annotation_writer.specs.declared.refusal.Refusal.TheVariants.{BadRecord, RaggedList, NoRoom}

-- from one number to another, both included
pub record Between (low high z : ℤ) : Type 0 where
  pub above : low ≤ℤ z
  pub below : z ≤ℤ high

-- the record of an opcode and two numbers can be written
abbrev pub Fine : ℕ → ℤ → ℤ → Type 0
Fine op first second = writable (record { opcode = pos op; first = first; second = second }) ≡ true

-- the opcodes with one plain operand: 1 to 5, 7 to 9 and 13
abbrev pub Plain : ℕ → Type 0
Plain op = ((1 ≤ op) × (op ≤ 5)) ⊎ (((7 ≤ op) × (op ≤ 9)) ⊎ (op ≡ 13))

-- which numbers each kind of opcode carries, with the ends of each range
pub record CarriesExactly : Type 0 where
  pub plain : (op : ℕ) (first second : ℤ) → Plain op
      → Fine op first second ↔ (Between (pos 0) (pos 536870911) first × (second ≡ pos 0))
  pub signed : (op : ℕ) (first second : ℤ) → (op ≡ 6) ⊎ (op ≡ 10)
      → Fine op first second ↔ (Between (neg_ℤ (pos 268435455)) (pos 268435455) first × (second ≡ pos 0))
  pub packed : (first second : ℤ)
      → Fine 11 first second ↔ (Between (pos 0) (pos 15) first × Between (neg_ℤ (pos 16777215)) (pos 16777215) second)
  pub two : (first second : ℤ)
      → Fine 12 first second ↔ (Between (pos 0) (pos 536870911) first × Between (pos 0) (pos 536870911) second)
  pub known : (r : Record) → writable r ≡ true → Between (pos 1) (pos 13) r.opcode

-- a whole number of records, and the first k of them can be written
pub record FineTo (list : List ℤ) (k : ℕ) : Type 0 where
  pub whole : length list % entries_each ≡ 0
  pub each : (j : ℕ) → j < k → writable (record_at list j) ≡ true

-- record k is the first that cannot
pub record FirstBad (list : List ℤ) (k : ℕ) : Type 0 where
  pub before : FineTo list k
  pub there : k < count list
  pub bad : writable (record_at list k) ≡ false

pub record RefusedExactly : Type 0 where
  pub ragged : (list : List ℤ) (room : ℕ)
      → (writing list room ≡ Err (refusal_in RaggedList)) ↔ (length list % entries_each ≡ 0 → ⊥)
  pub bad : (list : List ℤ) (room k : ℕ) → (writing list room ≡ Err (refusal_in (BadRecord k))) ↔ FirstBad list k
  pub no_room : (list : List ℤ) (room n : ℕ) → (writing list room ≡ Err (refusal_in (NoRoom n)))
      ↔ (FineTo list (count list) × ((n ≡ length (list_bytes list)) × (room < n)))
  pub accepted : (list : List ℤ) (room n : ℕ) → (writing list room ≡ Ok n)
      ↔ (FineTo list (count list) × ((n ≡ length (list_bytes list)) × (n ≤ room)))
