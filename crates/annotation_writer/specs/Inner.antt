-- What inner functions promise their callers. None of it is part of an operation's own promise.
use Rattle.std.specs.Prelude.{◌≡◌, true, cond, List, ℕ, ◌≤◌, ◌<◌, length, ℤ, Option, Some, None, IfSome}
use Rattle.annotation_records.specs.Records.{count, record_at, annotation_in}
use Rattle.annotation_records.specs.Ranges.{writable}
use Rattle.annotation_records.specs.Operands.{annotation_bytes}
use Rattle.annotation_records.specs.declared.record.Record.{Record}

-- how many bytes a record takes, if it is good
pub record Width (r : Record) (width : Option ℕ) : Type 0 where
  pub is : width ≡ cond (writable r) (Some (length (annotation_bytes (annotation_in r)))) None
  pub small : IfSome width (λ w. w ≤ 12)

-- each record can be written
pub record AllWritable (list : List ℤ) : Type 0 where
  pub each : (k : ℕ) → k < count list → writable (record_at list k) ≡ true
