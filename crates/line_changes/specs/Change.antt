-- Request 2026-07: the changes of a line program's state that annotations are made of. A refusal here is 25.
use Rattle.std.specs.Prelude.{ℕ, ◌+◌, ◌-◌, ◌^◌, ltb, leb, ℤ, Option, Some, None, Ok, Err}
use Rattle.outcome.specs.Outcome.{◌>>=◌, ◌>>◌, require}
use Rattle.line_state.specs.State.{offset_of, with_code}
use Rattle.line_state.specs.Sum.{OrBad, line_advanced, end_advanced}
use Rattle.line_state.specs.declared.state.Position.{Position}
use Rattle.line_state.specs.declared.state.Line.{Line}
use Rattle.line_changes.specs.declared.After.{After}

abbrev pub after : Position → Option Line → Option Line → OrBad After
after p last closed = Ok (record { state = record { at = p; last = last }; closed = closed })

abbrev pub line_at : Position → Option ℕ → Line
line_at p n = record { at = p; length = n }

-- "An emission closes the previous record, if that has no length, with the difference of offsets": a length that is set
-- stays. "A falling offset where a length is due" is refused
unfoldable pub settled : Position → Option ℕ → ℕ → OrBad ℕ
settled from (Some n) to = Ok n
settled from None to = require (leb (offset_of from) to) tt >> Ok (to - offset_of from)

unfoldable pub closed : Option Line → ℕ → OrBad (Option Line)
closed None to = Ok None
closed (Some l) to = do
  n ← settled l.at l.length to
  Ok (Some (line_at l.at (Some n)))

-- a record is emitted at a position, with a length of its own or none. "An emitted offset above 32 bits" is refused
unfoldable pub emission : Option Line → Position → Option ℕ → OrBad After
emission last p own = do
  require (ltb (offset_of p) (2 ^ 32)) tt
  done ← closed last (offset_of p)
  after p (Some (line_at p own)) done

-- "4 sets the previous record's length", whether that has one or not; "4 before any emission" is refused
unfoldable pub lengthening : Position → Option Line → ℕ → OrBad After
lengthening p None n = Err tt
lengthening p (Some l) n = after p (Some (line_at l.at (Some n))) None

unfoldable pub advancing_line : Position → Option Line → ℤ → OrBad After
advancing_line p last by = line_advanced p by >>= λ q. after q last None

unfoldable pub advancing_end : Position → Option Line → ℤ → OrBad After
advancing_end p last by = end_advanced p by >>= λ q. after q last None

unfoldable pub emission_on_line : Option Line → Position → ℕ → ℤ → OrBad After
emission_on_line last p v by = line_advanced p by >>= λ q. emission last (with_code q (q.code + v)) None
