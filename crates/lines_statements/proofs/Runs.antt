-- A program is what running its annotations one after the other gives, so each answer comes exactly under its condition.
use mathlib.Core.Path.{◌≡◌, refl, sym, ◌∙◌, ap}
use mathlib.Core.Bool.{Bool, true, false}
use mathlib.Core.List.{List, [], ◌∷◌, ◌++◌, append_assoc}
use mathlib.Core.Option.{none, some}
use Prim.Native.Nat.{ℕ, suc, ◌+◌, ◌*◌, ◌≤◌, ◌<◌}
use native.Mathlib.Omega.{arith}
use borrow.Author.Tests.{le-leb, lt-leb, leb-true, leb-false}
use lib.Dec.{leb}
use lib.ListN.{length}
use Rattle.std.specs.Prelude.{Result, Ok, Err}
use Rattle.outcome.specs.Outcome.{and_next, and_then, ◌>>=◌, ◌>>◌, require, raise}
use Rattle.outcome.proofs.OutcomeLaws.{ok_is, ok_refused, refused_is}
use Rattle.numbers.specs.Refusal.{Stop}
use Rattle.annotations.specs.Step.{PlacedTriple}
use Rattle.decode.specs.Decode.{decode_all, DecodeStop, with_place, no_room_for}
use Rattle.line_state.specs.State.{start}
use Rattle.line_state.specs.Sum.{OrBad}
use Rattle.line_turn.specs.Turn.{turning}
use Rattle.line_state.specs.declared.state.Line.{Line}
use Rattle.line_state.specs.declared.state.State.{State}
use Rattle.line_changes.specs.declared.After.{After}
use Rattle.line_entries.specs.Entries.{listed, entries_each}
use Rattle.lines.specs.Lines.{program, bad_line, lines_from, needed, running}
use Rattle.lines_statements.specs.Runs.{Runs, none, more, RunsTo, StopsAt, Ended, RunExactly}

-- ---- from runs to the program
pub runs_program : {s t : State} {found : List PlacedTriple} {closed : List Line} → Runs s found t closed → (i : ℕ) → program s i found ≡ Ok (closed ++ listed t.last)
unfolding program and_then raise
runs_program none i = refl
runs_program (more {a} {lines} e r) i = rw (e, runs_program r (suc i)) (ap Ok (sym (append_assoc (listed a.closed) lines _)))

pub stops_program : {s t : State} {before : List PlacedTriple} {closed : List Line} → Runs s before t closed → (x : PlacedTriple) (later : List PlacedTriple) → turning t x.triple ≡ Err tt → (i : ℕ) → program s i (before ++ x ∷ later) ≡ Err (i + length before)
unfolding program and_then raise
stops_program none x later e i = rw e (ap Err (omega arith))
stops_program (more {later = rest} f r) x later e i = rw (f, stops_program r x later e (suc i)) (ap Err (omega arith))

-- ---- from the program to runs
more_lines : {s : State} {x : PlacedTriple} {later : List PlacedTriple} {a : After} {m : List Line} → turning s x.triple ≡ Ok a → RunsTo a.state later m → RunsTo s (x ∷ later) (listed a.closed ++ m)
more_lines {a} e r =
    record {
      state = r.state;
      closed = listed a.closed ++ r.closed;
      runs = more e r.runs;
      are = ap (λ (l : List Line). listed a.closed ++ l) r.are ∙ sym (append_assoc (listed a.closed) r.closed (listed r.state.last));
    }

later_stops : {s : State} {x : PlacedTriple} {later : List PlacedTriple} {a : After} {i : ℕ} → turning s x.triple ≡ Ok a → StopsAt a.state later i → StopsAt s (x ∷ later) (suc i)
later_stops {x} {a} e r =
    record {
      before = x ∷ r.before;
      next = r.next;
      later = r.later;
      all = ap (λ (l : List PlacedTriple). x ∷ l) r.all;
      index = ap suc r.index;
      state = r.state;
      closed = listed a.closed ++ r.closed;
      runs = more e r.runs;
      stops = r.stops;
    }

pub program_runs : (found : List PlacedTriple) (s : State) (i : ℕ) {lines : List Line} → program s i found ≡ Ok lines → RunsTo s found lines
unfolding program and_then raise
program_runs [] s i e = record { state = s; closed = []; runs = none; are = ok_is (sym e) }
program_runs (x ∷ later) s i {lines} e = go (λ t m g. program_runs later t (suc i) g) (turning s x.triple) refl e
  where
    go : ((t : State) (m : List Line) → program t (suc i) later ≡ Ok m → RunsTo t later m) → (o : OrBad After) → turning s x.triple ≡ o → (raise (λ _. i) o >>= λ a. (program a.state (suc i) later >>= λ m. Ok (listed a.closed ++ m))) ≡ Ok lines → RunsTo s (x ∷ later) lines
    go ih (Err why) f h = absurd (ok_refused (sym h))
    go ih (Ok a) f h = then (program a.state (suc i) later) refl h
      where
        then : (p : Result (List Line) ℕ) → program a.state (suc i) later ≡ p → (p >>= λ m. Ok (listed a.closed ++ m)) ≡ Ok lines → RunsTo s (x ∷ later) lines
        then (Err j) g k = absurd (ok_refused (sym k))
        then (Ok m) g k = rw (ok_is (sym k)) (more_lines f (ih a.state m g))

-- (the program counts from i)
pub program_stops : (found : List PlacedTriple) (s : State) (i : ℕ) {j : ℕ} → program s i found ≡ Err j → (n : ℕ) × ((i + n ≡ j) × StopsAt s found n)
unfolding program and_then raise
program_stops [] s i e = absurd (ok_refused e)
program_stops (x ∷ later) s i {j} e = go (λ t l g. program_stops later t (suc i) g) (turning s x.triple) refl e
  where
    go : ((t : State) (l : ℕ) → program t (suc i) later ≡ Err l → (n : ℕ) × ((suc i + n ≡ l) × StopsAt t later n)) → (o : OrBad After) → turning s x.triple ≡ o → (raise (λ _. i) o >>= λ a. (program a.state (suc i) later >>= λ m. Ok (listed a.closed ++ m))) ≡ Err j → (n : ℕ) × ((i + n ≡ j) × StopsAt s (x ∷ later) n)
    go ih (Err tt) f h =
        (0, (omega (arith, refused_is h), record { before = []; next = x; later = later; all = refl; index = refl; state = s; closed = []; runs = none; stops = f }))
    go ih (Ok a) f h = then (program a.state (suc i) later) refl h
      where
        then : (p : Result (List Line) ℕ) → program a.state (suc i) later ≡ p → (p >>= λ m. Ok (listed a.closed ++ m)) ≡ Err j → (n : ℕ) × ((i + n ≡ j) × StopsAt s (x ∷ later) n)
        then (Ok m) g k = absurd (ok_refused k)
        then (Err l) g k =
            let r = ih a.state l g in
            (suc r.0, (omega (arith, r.1.0, refused_is k), later_stops f r.1.1))

-- ---- the program and the closing step give the answer
abbrev pub answer : Result (List Line) ℕ → Result ℕ Stop → ℕ → Result (List Line) DecodeStop
answer p last room =
    ((raise bad_line p >>= λ lines. raise with_place last >> Ok lines) >>= λ lines. require (leb (entries_each * length lines) room) (no_room_for (needed (length lines))) >> Ok lines)

module _ (s : List ℕ) (room : ℕ) where
  abbrev all : Result (List Line) ℕ
  all = program start 0 (decode_all s).found

  abbrev closing : Result ℕ Stop
  closing = (decode_all s).last

  pub is_answer : running s room ≡ answer all closing room
  unfolding running lines_from
  is_answer = refl

-- what an answer says of the two
number_of : {A : Type 0} {x y : DecodeStop} → ◌≡◌ {A = Result A DecodeStop} (Err x) (Err y) → x.refusal.number ≡ y.refusal.number
number_of e = ap (λ (d : DecodeStop). d.refusal.number) (refused_is e)

value_of : {A : Type 0} {x y : DecodeStop} → ◌≡◌ {A = Result A DecodeStop} (Err x) (Err y) → x.refusal.value ≡ y.refusal.value
value_of e = ap (λ (d : DecodeStop). d.refusal.value) (refused_is e)

placed_not : {A B : Type 0} {x y : DecodeStop} {place : ℕ} → ◌≡◌ {A = Result A DecodeStop} (Err x) (Err y) → x.place ≡ some place → y.place ≡ none → B
placed_not {x} {y} {place} e f g =
    let h : x ≡ y = refused_is e in
    let z : ◌≡◌ {A = ℕ} 0 1 = cc in
    absurd (omega arith)

module _ (room : ℕ) where
  -- 25 is the program's, and comes wherever that is refused
  bad_is : (p : Result (List Line) ℕ) (last : Result ℕ Stop) {i : ℕ} → answer p last room ≡ Err (bad_line i) → p ≡ Err i
  unfolding and_then and_next require raise
  bad_is (Err j) last e = ap Err (value_of e)
  bad_is (Ok lines) (Err why) e = placed_not e refl refl
  bad_is (Ok lines) (Ok place) e = go (leb (entries_each * length lines) room) e
    where
      go : (b : Bool) {i : ℕ} → (require b (no_room_for (needed (length lines))) >> Ok lines) ≡ Err (bad_line i) → Ok lines ≡ Err i
      go true f = absurd (ok_refused f)
      go false f = absurd (omega (arith, number_of f))

  decoder_is : (p : Result (List Line) ℕ) (last : Result ℕ Stop) {why : Stop} → answer p last room ≡ Err (with_place why) → ((lines : List Line) × (p ≡ Ok lines)) × (last ≡ Err why)
  unfolding and_then and_next require raise
  decoder_is (Err j) last e = placed_not (sym e) refl refl
  decoder_is (Ok lines) (Err w) {why} e =
      let h : with_place w ≡ with_place why = refused_is e in
      let r : w.refusal ≡ why.refusal = ap (λ (d : DecodeStop). d.refusal) h in
      let o : some w.place ≡ some why.place = ap (λ (d : DecodeStop). d.place) h in
      let q : w.place ≡ why.place = cc in
      ((lines, refl), λ i. Err (record { refusal = r i; place = q i }))
  decoder_is (Ok lines) (Ok place) e = go (leb (entries_each * length lines) room) e
    where
      go : (b : Bool) {why : Stop} → (require b (no_room_for (needed (length lines))) >> Ok lines) ≡ Err (with_place why) → ((l : List Line) × (◌≡◌ {A = Result (List Line) ℕ} (Ok lines) (Ok l))) × (◌≡◌ {A = Result ℕ Stop} (Ok place) (Err why))
      go true f = absurd (ok_refused f)
      go false f = placed_not (sym f) refl refl

  no_room_is : (p : Result (List Line) ℕ) (last : Result ℕ Stop) {n : ℕ} → answer p last room ≡ Err (no_room_for n) → (lines : List Line) × ((p ≡ Ok lines) × (Ended last × ((room < entries_each * length lines) × (n ≡ needed (length lines)))))
  unfolding and_then and_next require raise
  no_room_is (Err j) last e = absurd (omega (arith, number_of e))
  no_room_is (Ok lines) (Err why) e = placed_not e refl refl
  no_room_is (Ok lines) (Ok place) {n} e = go (leb (entries_each * length lines) room) refl e
    where
      go : (b : Bool) → leb (entries_each * length lines) room ≡ b → (require b (no_room_for (needed (length lines))) >> Ok lines) ≡ Err (no_room_for n) → (l : List Line) × ((◌≡◌ {A = Result (List Line) ℕ} (Ok lines) (Ok l)) × (Ended (Ok place) × ((room < entries_each * length l) × (n ≡ needed (length l)))))
      go true t f = absurd (ok_refused f)
      go false t f =
          (lines, (refl, ((place, refl), (leb-false (entries_each * length lines) room t, sym (value_of f)))))

  accepted_is : (p : Result (List Line) ℕ) (last : Result ℕ Stop) {lines : List Line} → answer p last room ≡ Ok lines → (p ≡ Ok lines) × (Ended last × (entries_each * length lines ≤ room))
  unfolding and_then and_next require raise
  accepted_is (Err j) last e = absurd (ok_refused (sym e))
  accepted_is (Ok m) (Err why) e = absurd (ok_refused (sym e))
  accepted_is (Ok m) (Ok place) {lines} e = go (leb (entries_each * length m) room) refl e
    where
      go : (b : Bool) → leb (entries_each * length m) room ≡ b → (require b (no_room_for (needed (length m))) >> Ok m) ≡ Ok lines → (◌≡◌ {A = Result (List Line) ℕ} (Ok m) (Ok lines)) × (Ended (Ok place) × (entries_each * length lines ≤ room))
      go true t f = let same : m ≡ lines = ok_is f in (ap Ok same, ((place, refl), rw same at (leb-true (entries_each * length m) room t)))
      go false t f = absurd (ok_refused (sym f))

ran : {found : List PlacedTriple} {lines : List Line} → RunsTo start found lines → program start 0 found ≡ Ok lines
ran x = runs_program x.runs 0 ∙ ap Ok (sym x.are)

stopped : {found : List PlacedTriple} {i : ℕ} → StopsAt start found i → program start 0 found ≡ Err i
stopped x =
    rw x.all (stops_program x.runs x.next x.later x.stops 0 ∙ ap Err (omega (arith, x.index)))

pub run_exactly : RunExactly
unfolding and_then and_next require raise
run_exactly =
    record {
      bad = λ s room i. (
        λ e.
            let r = program_stops (decode_all s).found start 0 (bad_is room (all s room) (closing s room) (sym (is_answer s room) ∙ e)) in
            let same : r.0 ≡ i = omega (arith, r.1.0) in
            rw same at r.1.1,
        λ x. is_answer s room ∙ rw (stopped x),
      );
      decoder = λ s room why. (
        λ e.
            let r = decoder_is room (all s room) (closing s room) (sym (is_answer s room) ∙ e) in
            ((r.0.0, program_runs (decode_all s).found start 0 r.0.1), r.1),
        λ x. is_answer s room ∙ rw (ran x.0.1, x.1),
      );
      no_room = λ s room n. (
        λ e.
            let r = no_room_is room (all s room) (closing s room) (sym (is_answer s room) ∙ e) in
            (r.0, (program_runs (decode_all s).found start 0 r.1.0, r.1.1.0, r.1.1.1.0, r.1.1.1.1)),
        λ x.
            is_answer s room ∙ rw (ran x.1.0, x.1.1.1, lt-leb (entries_each * length x.0) room x.1.2, x.1.3),
      );
      accepted = λ s room lines. (
        λ e.
            let r = accepted_is room (all s room) (closing s room) (sym (is_answer s room) ∙ e) in
            (program_runs (decode_all s).found start 0 r.0, r.1.0, r.1.1),
        λ x. is_answer s room ∙ rw (ran x.0, x.1.1, le-leb (entries_each * length lines) room x.2),
      );
    }
