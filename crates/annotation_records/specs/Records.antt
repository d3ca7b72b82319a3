-- Document 01's store layout, as request 2026-01 takes it: "three signed 64-bit numbers for each: opcode, first, second
-- or 0".
use Rattle.std.specs.Prelude.{ℕ, ◌+◌, ◌*◌, ◌/◌, List, length, get_or, ℤ, pos, nat_abs}
use Rattle.annotations.specs.Annotation.{triple}
use Rattle.annotations.specs.declared.annotation.Triple.{Triple}
use Rattle.annotation_records.specs.declared.record.Record.{Record}

abbrev pub entries_each : ℕ
entries_each = 3

-- how many records a list has, and record k, counted from 0
abbrev pub count : List ℤ → ℕ
count list = length list / entries_each

abbrev pub record_at : List ℤ → ℕ → Record
record_at list k =
    record {
      opcode = get_or list (entries_each * k) (pos 0);
      first = get_or list (entries_each * k + 1) (pos 0);
      second = get_or list (entries_each * k + 2) (pos 0);
    }

-- the annotation that a record says
abbrev pub annotation_in : Record → Triple
annotation_in r = triple (nat_abs r.opcode) r.first r.second
