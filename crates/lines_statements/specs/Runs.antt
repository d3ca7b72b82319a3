-- Annotations run one after the other, and when each answer of a line program comes. proofs/Runs.antt proves it.
use Rattle.std.specs.Prelude.{◌≡◌, ◌↔◌, List, [], ◌∷◌, ◌++◌, ℕ, ◌*◌, ◌≤◌, ◌<◌, length, Result, Ok, Err}
use Rattle.numbers.specs.Refusal.{Stop}
use Rattle.annotations.specs.Step.{PlacedTriple}
use Rattle.decode.specs.Decode.{decode_all, with_place, no_room_for}
use Rattle.line_state.specs.State.{start}
use Rattle.line_turn.specs.Turn.{turning}
use Rattle.line_state.specs.declared.state.Line.{Line}
use Rattle.line_state.specs.declared.state.State.{State}
use Rattle.line_changes.specs.declared.After.{After}
use Rattle.line_entries.specs.Entries.{listed, entries_each}
use Rattle.lines.specs.Lines.{bad_line, needed, running}

-- these annotations run, from one state to another, and close these records
pub data Runs : State → List PlacedTriple → State → List Line → Type 0 where
  none : {s : State} → Runs s [] s []
  more : {s t : State} {x : PlacedTriple} {later : List PlacedTriple} {a : After} {lines : List Line}
      → turning s x.triple ≡ Ok a → Runs a.state later t lines
      → Runs s (x ∷ later) t (listed a.closed ++ lines)

-- all of them run, and these are the records: those that were closed, and the last one
pub record RunsTo (from : State) (found : List PlacedTriple) (lines : List Line) : Type 0 where
  pub state : State
  pub closed : List Line
  pub runs : Runs from found state closed
  pub are : lines ≡ closed ++ listed state.last

-- the first i run, and the next does not
pub record StopsAt (from : State) (found : List PlacedTriple) (i : ℕ) : Type 0 where
  pub before : List PlacedTriple
  pub next : PlacedTriple
  pub later : List PlacedTriple
  pub all : found ≡ before ++ next ∷ later
  pub index : length before ≡ i
  pub state : State
  pub closed : List Line
  pub runs : Runs from before state closed
  pub stops : turning state next.triple ≡ Err tt

-- decoding comes to the end
abbrev pub Ended : Result ℕ Stop → Type 0
Ended last = (place : ℕ) × (last ≡ Ok place)

-- "Whichever refusal comes first in the bytes wins; 10 last": each answer exactly under its condition
pub record RunExactly : Type 0 where
  pub bad : (s : List ℕ) (room i : ℕ) → (running s room ≡ Err (bad_line i)) ↔ StopsAt start (decode_all s).found i
  pub decoder : (s : List ℕ) (room : ℕ) (why : Stop) → (running s room ≡ Err (with_place why))
      ↔ (((lines : List Line) × RunsTo start (decode_all s).found lines) × ((decode_all s).last ≡ Err why))
  pub no_room : (s : List ℕ) (room n : ℕ) → (running s room ≡ Err (no_room_for n))
      ↔ ((lines : List Line) × (RunsTo start (decode_all s).found lines × Ended (decode_all s).last
      × (room < entries_each * length lines) × (n ≡ needed (length lines))))
  pub accepted : (s : List ℕ) (room : ℕ) (lines : List Line) → (running s room ≡ Ok lines)
      ↔ (RunsTo start (decode_all s).found lines × Ended (decode_all s).last × (entries_each * length lines ≤ room))
