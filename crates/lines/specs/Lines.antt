-- Request 2026-07, "turns annotations into line records": the program over what the decoder found, its records in the
-- store, and the order of its refusals.
use Rattle.std.specs.Prelude.{ℕ, suc, ◌-◌, ◌*◌, ◌^◌, min, List, [], ◌∷◌, ◌++◌, length, leb, Result, Ok}
use Rattle.std.proofs.Math.Option.{none}
use Rattle.outcome.specs.Outcome.{◌>>=◌, ◌>>◌, require, raise}
use Rattle.annotations.specs.Step.{PlacedTriple}
use Rattle.decode.specs.Decode.{Run, decode_all, DecodeStop, with_place, no_room_for}
use Rattle.line_state.specs.State.{start}
use Rattle.line_state.specs.declared.state.Line.{Line}
use Rattle.line_state.specs.declared.state.State.{State}
use Rattle.line_turn.specs.Turn.{turning}
use Rattle.line_entries.specs.Entries.{listed, entries_each}

-- ---- the records
-- the records of a program that goes on from a state: those that the annotations close, and then the last one. Or the
-- index of the first annotation that is refused, if the next one has index i
unfoldable pub program : State → ℕ → List PlacedTriple → Result (List Line) ℕ
program s i [] = Ok (listed s.last)
program s i (x ∷ later) = do
  a ← raise (λ _. i) (turning s x.triple)
  lines ← program a.state (suc i) later
  Ok (listed a.closed ++ lines)

-- ---- refusals
-- 25, "with the annotation's index from 0". It has no place
abbrev pub bad_line : ℕ → DecodeStop
bad_line i = record { refusal = record { number = 25; value = i }; place = none }

-- "The decoder's refusals come up unchanged; whichever refusal comes first in the bytes wins": that of the decoder
-- comes after all annotations that it found
unfoldable pub lines_from : State → ℕ → Run → Result (List Line) DecodeStop
lines_from s i r = do
  lines ← raise bad_line (program s i r.found)
  raise with_place r.last
  Ok lines

-- ---- the store
-- the entries that n records need. Of 2^61 and more, which take a program of 2^62 bytes, 64 bits can say no more
abbrev pub needed : ℕ → ℕ
needed n = min (entries_each * n) (2 ^ 64 - 1)

-- ---- the operation: the records of these bytes, for a store of `room` entries. "10 last"
unfoldable pub running : List ℕ → ℕ → Result (List Line) DecodeStop
running s room = do
  lines ← lines_from start 0 (decode_all s)
  require (leb (entries_each * length lines) room) (no_room_for (needed (length lines)))
  Ok lines

abbrev pub how_many : Result (List Line) DecodeStop → Result ℕ DecodeStop
how_many o = o >>= λ lines. Ok (length lines)
