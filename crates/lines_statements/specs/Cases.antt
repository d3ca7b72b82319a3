-- Line programs and their records, worked out from request 2026-07. proofs/Cases.antt proves them by computation.
use Rattle.std.specs.Prelude.{◌≡◌, List, [], ◌∷◌, map, ℕ, ◌^◌, ◌-◌, ℤ, pos, negsuc, Result, Ok, Err}
use Rattle.std.proofs.Math.Option.{none, some}
use Rattle.outcome.specs.Outcome.{◌>>=◌}
use Rattle.annotations.specs.Annotation.{triple}
use Rattle.decode.specs.Decode.{DecodeStop}
use Rattle.line_state.specs.State.{start, with_line, with_end}
use Rattle.line_state.specs.Sum.{OrBad}
use Rattle.line_turn.specs.Turn.{turning}
use Rattle.line_state.specs.declared.state.State.{State}
use Rattle.line_changes.specs.declared.After.{After}
use Rattle.line_entries.specs.Entries.{line_entries}
use Rattle.lines.specs.Lines.{running}

-- the records of a program as numbers, in a store that is large enough
abbrev records_of : List ℕ → Result (List (List ℤ)) DecodeStop
records_of s = running s 24 >>= λ lines. Ok (map line_entries lines)

-- a record: offset, length, file, line, line count, kind, start column, end column
abbrev eight : ℕ → ℤ → ℕ → ℤ → ℕ → ℕ → ℕ → ℤ → List ℤ
eight offset length file line count kind start end =
    pos offset ∷ length ∷ pos file ∷ line ∷ pos count ∷ pos kind ∷ pos start ∷ end ∷ []

-- a record of the start, but for its offset and its length
abbrev at : ℕ → ℤ → List ℤ
at offset length = eight offset length 0 (pos 0) 1 1 0 (pos 0)

abbrev unset : ℤ
unset = negsuc 0

abbrev bad : ℕ → Result (List (List ℤ)) DecodeStop
bad i = Err (record { refusal = record { number = 25; value = i }; place = none })

abbrev stops : ℕ → ℕ → ℕ → Result (List (List ℤ)) DecodeStop
stops number value place = Err (record { refusal = record { number = number; value = value }; place = some place })

-- the start with another line, or end column, and what an annotation leaves there
abbrev on_line : ℤ → State
on_line z = record { at = with_line start.at z; last = start.last }

abbrev to_column : ℤ → State
to_column z = record { at = with_end start.at z; last = start.last }

abbrev goes_on : State → OrBad After
goes_on s = Ok (record { state = s; closed = start.last })

pub record Cases : Type 0 where
  pub nothing : records_of [] ≡ Ok []
  pub one : records_of (3 ∷ 5 ∷ []) ≡ Ok (at 5 unset ∷ [])
  -- "closes the previous record with the difference of offsets"; equal offsets too
  pub closes : records_of (3 ∷ 5 ∷ 3 ∷ 2 ∷ 3 ∷ 0 ∷ []) ≡ Ok (at 5 (pos 2) ∷ at 7 (pos 0) ∷ at 7 unset ∷ [])
  -- 4 sets the length, the last of them, and does not move the code offset
  pub four : records_of (3 ∷ 5 ∷ 4 ∷ 2 ∷ 4 ∷ 9 ∷ 3 ∷ 2 ∷ []) ≡ Ok (at 5 (pos 9) ∷ at 7 unset ∷ [])
  -- 12 sets its own, and offsets may fall after it
  pub twelve : records_of (1 ∷ 100 ∷ 12 ∷ 5 ∷ 0 ∷ 1 ∷ 0 ∷ 3 ∷ 0 ∷ []) ≡ Ok (at 100 (pos 5) ∷ at 0 unset ∷ [])
  -- the base is added, 7 and 8 set, 5 is the file, 9, 10 and 13 the columns, 11 advances the line too
  pub state : records_of (2 ∷ 64 ∷ 5 ∷ 3 ∷ 7 ∷ 4 ∷ 8 ∷ 2 ∷ 9 ∷ 6 ∷ 13 ∷ 8 ∷ 10 ∷ 3 ∷ 11 ∷ 0x72 ∷ [])
      ≡ Ok (eight 66 unset 3 (negsuc 2) 4 2 6 (pos 7) ∷ [])
  pub below_zero : records_of (6 ∷ 3 ∷ 10 ∷ 5 ∷ 3 ∷ 0 ∷ []) ≡ Ok (eight 0 unset 0 (negsuc 0) 1 1 0 (negsuc 1) ∷ [])
  pub end_of_program : records_of (3 ∷ 1 ∷ 0 ∷ 4 ∷ []) ≡ Ok (at 1 unset ∷ [])
  -- 25 and its index; the first refusal wins
  pub early_four : records_of (1 ∷ 2 ∷ 4 ∷ 0 ∷ []) ≡ bad 1
  pub falling : records_of (3 ∷ 1 ∷ 1 ∷ 0 ∷ 3 ∷ 0 ∷ []) ≡ bad 2
  pub bad_first : records_of (4 ∷ 0 ∷ 14 ∷ []) ≡ bad 0
  pub unknown_first : records_of (14 ∷ 4 ∷ 0 ∷ []) ≡ stops 9 14 1
  pub cut_short : records_of (3 ∷ 1 ∷ 3 ∷ []) ≡ stops 7 0 3
  -- both ends of 64 bits, for the line and for the end column
  pub highest : turning (on_line (pos (2 ^ 63 - 2))) (triple 6 (pos 1) (pos 0)) ≡ goes_on (on_line (pos (2 ^ 63 - 1)))
  pub too_high : turning (on_line (pos (2 ^ 63 - 1))) (triple 6 (pos 1) (pos 0)) ≡ Err tt
  pub lowest : turning (on_line (negsuc (2 ^ 63 - 2))) (triple 6 (negsuc 0) (pos 0))
      ≡ goes_on (on_line (negsuc (2 ^ 63 - 1)))
  pub too_low : turning (on_line (negsuc (2 ^ 63 - 1))) (triple 11 (pos 0) (negsuc 0)) ≡ Err tt
  pub column_high : turning (to_column (pos (2 ^ 63 - 1))) (triple 10 (pos 1) (pos 0)) ≡ Err tt
  pub column_low : turning (to_column (negsuc (2 ^ 63 - 1))) (triple 10 (negsuc 0) (pos 0)) ≡ Err tt
