-- What inner functions promise their callers. None of it is part of an operation's own promise.
use Rattle.std.specs.Prelude.{◌≡◌, List, ℕ, ◌*◌, ◌≤◌, length, ℤ, Result, Ok}
use Rattle.outcome.specs.Store.{written}
use Rattle.decode.specs.Decode.{decode_all, DecodeStop}
use Rattle.line_state.specs.State.{start}
use Rattle.line_state.specs.declared.state.Line.{Line}
use Rattle.line_entries.specs.Entries.{entries_each, entries}
use Rattle.lines.specs.Lines.{lines_from, how_many}
use Rattle.lines.specs.Refusal.{told}
use Rattle.lines.specs.declared.refusal.Refusal.{Refusal}

-- all records of these bytes, before room is judged
abbrev pub all_lines : List ℕ → Result (List Line) DecodeStop
all_lines s = lines_from start 0 (decode_all s)

-- the program is accepted, and its records have room
pub record Accepted (s : List ℕ) (room : ℕ) : Type 0 where
  pub lines : List Line
  pub is : all_lines s ≡ Ok lines
  pub fits : entries_each * length lines ≤ room

-- a pass counts the records and, if they have room, writes them
pub record Passing (s : List ℕ) (store : List ℤ) (r : Result ℕ Refusal) (store' : List ℤ) : Type 0 where
  pub answer : told r ≡ how_many (all_lines s)
  pub after : Accepted s (length store) → store' ≡ written (all_lines s) entries store
