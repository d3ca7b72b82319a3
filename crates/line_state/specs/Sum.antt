-- Request 2026-07, "a line or column outside signed 64 bits": a sum of signed numbers, if it fits.
use Rattle.std.specs.Prelude.{◌^◌, ltb, ℤ, ◌+ℤ◌, Result, Ok}
use Rattle.std.specs.Int.Signed.{mag}
use Rattle.outcome.specs.Outcome.{◌>>=◌, ◌>>◌, require}
use Rattle.line_state.specs.State.{with_line, with_end}
use Rattle.line_state.specs.declared.state.Position.{Position}

-- a refusal here is 25, and has no value yet: the annotation's index is known above
abbrev pub OrBad : Type 0 → Type 0
OrBad A = Result A (Unit {0})

-- `pos n` is n and `negsuc n` is -1 - n, where n is below 2^63
unfoldable pub summed : ℤ → ℤ → OrBad ℤ
summed z by = require (ltb (mag (z +ℤ by)) (2 ^ 63)) tt >> Ok (z +ℤ by)

-- a position with its line or its end column advanced
abbrev pub line_advanced : Position → ℤ → OrBad Position
line_advanced p by = summed p.line by >>= λ z. Ok (with_line p z)

abbrev pub end_advanced : Position → ℤ → OrBad Position
end_advanced p by = summed p.end by >>= λ z. Ok (with_end p z)
