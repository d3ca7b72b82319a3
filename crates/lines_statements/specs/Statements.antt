-- Statements about line programs beyond the promise of `run_lines`. proofs/ has a proof of each record.
use Rattle.std.specs.Prelude.{◌≡◌, ◌↔◌, ◌⊎◌, true, cond, List, [], ◌∷◌, ◌++◌, map, ℕ, suc, ◌+◌, ◌-◌, ◌^◌, ◌≤◌, ◌<◌, eqb, length, get_or, ℤ, pos, negsuc, nat_abs, ◌+ℤ◌, ◌<ℤ◌, Result, Ok, Err, Option, Some, None}
use Rattle.std.specs.Int.Signed.{mag}
use Rattle.outcome.specs.Outcome.{◌>>◌, raise}
use Rattle.outcome.specs.Refusal as paper
use Rattle.outcome.specs.Store.{written}
use Rattle.outcome.specs.Only.{Only₂, Injective}
use Rattle.numbers.specs.Refusal.{Stop}
use Rattle.annotations.specs.Annotation.{triple, emits}
use Rattle.annotations.specs.Step.{PlacedTriple}
use Rattle.annotations.specs.declared.annotation.Triple.{Triple}
use Rattle.decode.specs.Decode.{decode_all, DecodeStop}
use Rattle.line_state.specs.State.{start, offset_of}
use Rattle.line_changes.specs.Change.{line_at}
use Rattle.line_turn.specs.Turn.{turning}
use Rattle.line_state.specs.declared.state.Position.{Position}
use Rattle.line_state.specs.declared.state.Line.{Line}
use Rattle.line_state.specs.declared.state.State.{State}
use Rattle.line_changes.specs.declared.After.{After}
use Rattle.line_entries.specs.Entries.{listed, entries}
use Rattle.lines.specs.Lines.{running}
use Rattle.lines.specs.Refusal.{stop_in, told}
use Rattle.lines.specs.Promises.{Running}
use Rattle.lines_statements.specs.Runs.{Runs, RunsTo}

-- what an answer says on paper tells it from every other answer
pub record Told : Type 0 where
  pub refusal : Injective stop_in
  pub ran : Injective (told {A = ℕ})

-- no second answer, and no other store, satisfies the promise
pub record SingleValued : Type 0 where
  pub run_lines : (s : List ℕ) (store : List ℤ) → Only₂ (Running s store)

-- ---- how many records
-- how many of these annotations emit
unfoldable pub emitting : List PlacedTriple → ℕ
emitting [] = 0
emitting (x ∷ later) = cond (emits x.triple.opcode) 1 0 + emitting later

-- while it runs: each annotation that emitted has its record, closed or the last one. On acceptance: exactly as many
pub record AsMany : Type 0 where
  pub runs : (found : List PlacedTriple) (t : State) (closed : List Line) → Runs start found t closed
      → length closed + length (listed t.last) ≡ emitting found
  pub closed : (found : List PlacedTriple) (t : State) (closed : List Line) → Runs start found t closed
      → length closed ≤ emitting found
  pub accepted : (s : List ℕ) (room : ℕ) (lines : List Line) → running s room ≡ Ok lines
      → length lines ≡ emitting (decode_all s).found

-- ---- lengths
-- record i
abbrev pub line_of : List Line → ℕ → Line
line_of lines i = get_or lines i (line_at start.at None)

-- the length that annotations give to a record: 12 gives its own one, and then each 4 before the next emission another
abbrev pub own_length : Triple → Option ℕ
own_length t = cond (eqb t.opcode 12) (Some (nat_abs t.first)) None

unfoldable pub given : Option ℕ → List PlacedTriple → Option ℕ
given n [] = n
given n (x ∷ later) =
    cond (emits x.triple.opcode) n
    (given (cond (eqb x.triple.opcode 4) (Some (nat_abs x.triple.first)) n) later)

-- the record that x emits. As many come first as `before` emits
pub record HasLength (before later : List PlacedTriple) (x : PlacedTriple) (lines : List Line) : Type 0 where
  -- what is given stays
  pub set : (n : ℕ) → given (own_length x.triple) later ≡ Some n
      → (line_of lines (emitting before)).length ≡ Some n
  -- what is not given is the difference of the offsets, and the next one is not below
  pub due : given (own_length x.triple) later ≡ None → suc (emitting before) < length lines
      → (offset_of (line_of lines (emitting before)).at ≤ offset_of (line_of lines (suc (emitting before))).at)
      × ((line_of lines (emitting before)).length
      ≡ Some (offset_of (line_of lines (suc (emitting before))).at
      - offset_of (line_of lines (emitting before)).at))
  -- and the last record has none then
  pub left : given (own_length x.triple) later ≡ None → length lines ≡ suc (emitting before)
      → (line_of lines (emitting before)).length ≡ None

-- every record but the last has a length, and each has the length that its annotations give it or that is due
pub record Lengths : Type 0 where
  pub each : (s : List ℕ) (room : ℕ) (lines : List Line) → running s room ≡ Ok lines
      → (i : ℕ) → suc i < length lines → (n : ℕ) × ((line_of lines i).length ≡ Some n)
  pub are : (before later : List PlacedTriple) (x : PlacedTriple) (lines : List Line)
      → RunsTo start (before ++ x ∷ later) lines → emits x.triple.opcode ≡ true → HasLength before later x lines

-- ---- "It sees only the decoder's promise"
-- the annotations that were found, and how decoding closes, without places
abbrev pub triples_of : List ℕ → List Triple
triples_of s = map (λ (x : PlacedTriple). x.triple) (decode_all s).found

abbrev pub closes_as : List ℕ → Result (Unit {0}) paper.Refusal
closes_as s = raise (λ (x : Stop). x.refusal) ((decode_all s).last >> Ok tt)

abbrev pub without_place : Result (List Line) DecodeStop → Result (List Line) paper.Refusal
without_place o = raise (λ (x : DecodeStop). x.refusal) o

-- two byte strings with the same annotations and the same closing step, but for its place, have the same answer, but
-- for the place, and the same store
pub record OnlyThePromise : Type 0 where
  pub answer : (s t : List ℕ) (room : ℕ) → triples_of s ≡ triples_of t → closes_as s ≡ closes_as t
      → without_place (running s room) ≡ without_place (running t room)
  pub store : (s t : List ℕ) (store : List ℤ) → triples_of s ≡ triples_of t → closes_as s ≡ closes_as t
      → written (running s (length store)) entries store ≡ written (running t (length store)) entries store

-- ---- what every state satisfies
pub record BoundedPosition (p : Position) : Type 0 where
  pub code : p.code < 2 ^ 32
  pub base : p.base < 2 ^ 29
  pub file : p.file < 2 ^ 29
  pub line : mag p.line < 2 ^ 63
  pub count : p.count < 2 ^ 29
  pub kind : p.kind < 2 ^ 29
  pub start : p.start < 2 ^ 29
  pub end : mag p.end < 2 ^ 63

pub record BoundedLine (l : Line) : Type 0 where
  pub at : BoundedPosition l.at
  pub offset : offset_of l.at < 2 ^ 32
  pub length : (n : ℕ) → l.length ≡ Some n → n < 2 ^ 32

pub record BoundedState (s : State) : Type 0 where
  pub at : BoundedPosition s.at
  pub last : (l : Line) → s.last ≡ Some l → BoundedLine l

-- an annotation with operands that a number can hold
abbrev pub Held : Triple → Type 0
Held t = (nat_abs t.first < 2 ^ 29) × (nat_abs t.second < 2 ^ 29)

pub data AllHeld : List PlacedTriple → Type 0 where
  none : AllHeld []
  more : {x : PlacedTriple} {later : List PlacedTriple} → Held x.triple → AllHeld later → AllHeld (x ∷ later)

pub record Bounded : Type 0 where
  pub begins : BoundedState start
  pub runs : (found : List PlacedTriple) (t : State) (closed : List Line) → AllHeld found → Runs start found t closed
      → BoundedState t
  pub turns : (s : State) (t : Triple) (a : After) → BoundedState s → Held t → turning s t ≡ Ok a
      → BoundedState a.state × ((l : Line) → a.closed ≡ Some l → BoundedLine l)

-- ---- "a line or column outside signed 64 bits"
abbrev pub Outside : ℤ → Type 0
Outside z = (z <ℤ negsuc (2 ^ 63 - 1)) ⊎ (pos (2 ^ 63 - 1) <ℤ z)

-- 6 and 10 are refused exactly if the sum is outside, and 11 if it is; from every state, and so from those that no
-- program of any size reaches
pub record Ends : Type 0 where
  pub line : (s : State) (z w : ℤ) → (turning s (triple 6 z w) ≡ Err tt) ↔ Outside (s.at.line +ℤ z)
  pub column : (s : State) (z w : ℤ) → (turning s (triple 10 z w) ≡ Err tt) ↔ Outside (s.at.end +ℤ z)
  pub both : (s : State) (v z : ℤ) → Outside (s.at.line +ℤ z) → turning s (triple 11 v z) ≡ Err tt
  pub moves : (s : State) (z w : ℤ) (a : After) → turning s (triple 6 z w) ≡ Ok a
      → a.state.at.line ≡ s.at.line +ℤ z
