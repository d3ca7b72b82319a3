-- Document 01, "Decoding all stops at the end, or at the first refusal, which it returns with its place".
use Rattle.std.specs.Prelude.{ℕ, zero, suc, ◌-◌, ◌*◌, Bool, List, [], ◌∷◌, ◌++◌, length, leb, ℤ, pos, Result, Ok, Err}
use Rattle.std.proofs.Math.Option.{Option, none, some}
use Rattle.outcome.specs.Outcome.{◌>>=◌, ◌>>◌, require, raise}
use Rattle.outcome.specs.Refusal as paper
use Rattle.numbers.specs.Refusal.{Stop}
use Rattle.numbers.specs.Number.{flag}
use Rattle.annotations.specs.Step.{PlacedTriple, Stepped, annotation, end, step_at}
use Rattle.annotations.specs.declared.annotation.Triple.{Triple}

-- a run of steps: what was found, where the last step was taken, and its answer: the end with its place, or a refusal
pub record Run : Type 0 where
  pub found : List PlacedTriple
  pub at : ℕ
  pub last : Result ℕ Stop

-- a run that begins with a step's answer; after an annotation it goes on
unfoldable pub on_step : ℕ → Result Stepped Stop → (ℕ → Run) → Run
on_step at (Ok (annotation x)) next =
    let r : Run = next x.next in record { found = x ∷ r.found; at = r.at; last = r.last }
on_step at (Ok (end p)) next = record { found = []; at = at; last = Ok p }
on_step at (Err why) next = record { found = []; at = at; last = Err why }

-- at most `fuel` steps from a place on
unfoldable pub run_from : List ℕ → ℕ → ℕ → Run
run_from s zero at = record { found = []; at = at; last = Ok at }
run_from s (suc fuel) at = on_step at (step_at s at) (run_from s fuel)

-- all steps from a place on. (An annotation takes at least one byte, so the fuel is enough; `Agreement` of
-- annotations_statements says the same without fuel.)
unfoldable pub rest : List ℕ → ℕ → Run
rest s at = run_from s (suc (length s - at)) at

unfoldable pub decode_all : List ℕ → Run
decode_all s = rest s 0

-- "signed 64-bit numbers for each: opcode, first, second or 0"; request 2026-06: "a fourth entry, 1 or 0", which says
-- whether all its numbers were shortest, "so it now needs 4 entries an annotation"
abbrev pub entries_each : ℕ
entries_each = 4

abbrev pub triple_entries : Triple → List ℤ
triple_entries t = pos t.opcode ∷ t.first ∷ t.second ∷ []

-- the entries of one annotation, of several, and of all that the bytes hold
abbrev pub entries_of : Triple → Bool → List ℤ
entries_of t shortest = triple_entries t ++ pos (flag shortest) ∷ []

unfoldable pub entries : List PlacedTriple → List ℤ
entries [] = []
entries (x ∷ later) = entries_of x.triple x.shortest ++ entries later

abbrev pub decoded_entries : List ℕ → List ℤ
decoded_entries s = entries (decode_all s).found

-- how many annotations, or the first refusal with its place
abbrev pub counted : Run → Result ℕ Stop
counted r = r.last >> Ok (length r.found)

-- a refusal of decoding all: 7, 8 and 9 with their place; 10, with the entries needed, has none
pub record DecodeStop : Type 0 where
  pub refusal : paper.Refusal
  pub place : Option ℕ

abbrev pub with_place : Stop → DecodeStop
with_place x = record { refusal = x.refusal; place = some x.place }

abbrev pub no_room_for : ℕ → DecodeStop
no_room_for needed = record { refusal = record { number = 10; value = needed }; place = none }

-- decoding all into a store of `room` entries: how many annotations. 10 comes last
unfoldable pub decoding : List ℕ → ℕ → Result ℕ DecodeStop
decoding s room = do
  n ← raise with_place (counted (decode_all s))
  require (leb (entries_each * n) room) (no_room_for (entries_each * n))
  Ok n
