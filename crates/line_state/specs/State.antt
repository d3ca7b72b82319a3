-- Request 2026-07: the state of a line program, and its records.
use Rattle.std.specs.Prelude.{ℕ, ◌+◌, ℤ, pos, None}
use Rattle.line_state.specs.declared.state.Position.{Position}
use Rattle.line_state.specs.declared.state.State.{State}

-- "Start: code offset, base, file, line, columns 0; line count 1; kind 1"
abbrev pub start : State
start =
    record {
      at = record { code = 0; base = 0; file = 0; line = pos 0; count = 1; kind = 1; start = 0; end = pos 0 };
      last = None;
    }

-- "offset (base plus code offset)"
abbrev pub offset_of : Position → ℕ
offset_of p = p.base + p.code

-- a position by its numbers, in order
abbrev pub position : ℕ → ℕ → ℕ → ℤ → ℕ → ℕ → ℕ → ℤ → Position
position code base file line count kind start end =
    record { code = code; base = base; file = file; line = line; count = count; kind = kind; start = start; end = end }

-- a position with one of them changed
module _ (p : Position) where
  abbrev pub with_code : ℕ → Position
  with_code v = position v p.base p.file p.line p.count p.kind p.start p.end

  abbrev pub with_base : ℕ → Position
  with_base v = position p.code v p.file p.line p.count p.kind p.start p.end

  abbrev pub with_file : ℕ → Position
  with_file v = position p.code p.base v p.line p.count p.kind p.start p.end

  abbrev pub with_line : ℤ → Position
  with_line z = position p.code p.base p.file z p.count p.kind p.start p.end

  abbrev pub with_count : ℕ → Position
  with_count v = position p.code p.base p.file p.line v p.kind p.start p.end

  abbrev pub with_kind : ℕ → Position
  with_kind v = position p.code p.base p.file p.line p.count v p.start p.end

  abbrev pub with_start : ℕ → Position
  with_start v = position p.code p.base p.file p.line p.count p.kind v p.end

  abbrev pub with_end : ℤ → Position
  with_end z = position p.code p.base p.file p.line p.count p.kind p.start z
