-- The records from a place on, by the step that is taken there and what the annotation does to the state.
use mathlib.Core.Path.{◌≡◌, refl, sym, ap}
use mathlib.Core.List.{List, [], ◌∷◌, ◌++◌}
use Prim.Native.Nat.{ℕ, suc, ◌+◌, ◌*◌, ◌≤◌}
use native.Mathlib.Nat.{add_assoc}
use native.Mathlib.Omega.{arith}
use lib.ListN.{length, length-append}
use Rattle.std.specs.Prelude.{Option, Some, None, Result, Ok, Err}
use Rattle.outcome.specs.Outcome.{and_next, and_then, ◌>>=◌, ◌>>◌, raise}
use Rattle.numbers.specs.Refusal.{Stop}
use Rattle.annotations.specs.Step.{PlacedTriple, annotation, end, step_at}
use Rattle.decode.specs.Decode.{rest, DecodeStop, with_place}
use Rattle.decode.proofs.RunLaws.{rest_on, rest_end, rest_refused}
use Rattle.line_turn.specs.Turn.{turning}
use Rattle.line_state.specs.declared.state.Line.{Line}
use Rattle.line_state.specs.declared.state.State.{State}
use Rattle.line_changes.specs.declared.After.{After}
use Rattle.line_entries.specs.Entries.{listed, line_entries, entries, entries_each}
use Rattle.lines.specs.Lines.{program, bad_line, lines_from, how_many}

-- ---- lists of records
pub listed_few : (m : Option Line) → length (listed m) ≤ 1
listed_few None = omega arith
listed_few (Some l) = omega arith

pub entries_append : (l m : List Line) → entries (l ++ m) ≡ entries l ++ entries m
unfolding entries
entries_append [] m = refl
entries_append (x ∷ l) m = ap (λ (r : List _). line_entries x ++ r) (entries_append l m)

pub length_entries : (l : List Line) → length (entries l) ≡ entries_each * length l
unfolding entries
length_entries [] = refl
length_entries (x ∷ l) = rw length-append (omega (arith, length_entries l))

-- ---- records that come before others, and how many there are then
abbrev pub before : List Line → Result (List Line) DecodeStop → Result (List Line) DecodeStop
before l o = o >>= λ m. Ok (l ++ m)

abbrev pub plus : ℕ → Result ℕ DecodeStop → Result ℕ DecodeStop
plus n o = o >>= λ m. Ok (n + m)

pub plus_none : (o : Result ℕ DecodeStop) → o ≡ plus 0 o
unfolding and_then
plus_none (Ok m) = ap Ok (omega arith)
plus_none (Err why) = refl

pub how_many_before : (l : List Line) (o : Result (List Line) DecodeStop) → how_many (before l o) ≡ plus (length l) (how_many o)
unfolding and_then
how_many_before l (Ok m) = ap Ok (length-append l m)
how_many_before l (Err why) = refl

pub plus_plus : (n m : ℕ) (o : Result ℕ DecodeStop) → plus n (plus m o) ≡ plus (n + m) o
unfolding and_then
plus_plus n m (Ok k) = ap Ok (sym (add_assoc n m k))
plus_plus n m (Err why) = refl

-- ---- the step at a place
both : (l : List Line) (p : Result (List Line) ℕ) (last : Result ℕ Stop) → (raise bad_line (p >>= λ m. Ok (l ++ m)) >>= λ m. raise with_place last >> Ok m) ≡ before l (raise bad_line p >>= λ m. raise with_place last >> Ok m)
unfolding and_then and_next raise
both l (Ok m) (Ok place) = refl
both l (Ok m) (Err why) = refl
both l (Err i) last = refl

module _ (s : List ℕ) (at i : ℕ) (state : State) where
  module _ {x : PlacedTriple} (e : step_at s at ≡ Ok (annotation x)) where
    pub lines_on : {a : After} → turning state x.triple ≡ Ok a → lines_from state i (rest s at) ≡ before (listed a.closed) (lines_from a.state (suc i) (rest s x.next))
    unfolding lines_from program and_then raise
    lines_on {a} f =
        rw (rest_on s at e, f) (both (listed a.closed) (program a.state (suc i) (rest s x.next).found) (rest s x.next).last)

    pub lines_bad : turning state x.triple ≡ Err tt → lines_from state i (rest s at) ≡ Err (bad_line i)
    unfolding lines_from program and_then raise
    lines_bad f = rw (rest_on s at e, f)

  pub lines_end : {place : ℕ} → step_at s at ≡ Ok (end place) → lines_from state i (rest s at) ≡ Ok (listed state.last)
  unfolding lines_from program and_then and_next raise
  lines_end e = rw (rest_end s at e)

  pub lines_refused : {why : Stop} → step_at s at ≡ Err why → lines_from state i (rest s at) ≡ Err (with_place why)
  unfolding lines_from program and_then and_next raise
  lines_refused e = rw (rest_refused s at e)
