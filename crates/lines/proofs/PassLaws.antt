-- The loop of a pass. Its invariant says what is left in terms of what is wanted: the records counted and, if the program
-- is accepted and the store has the room, the records written. So the loop's end gives the promise.
use mathlib.Core.Path.{◌≡◌, refl, sym, ◌∙◌, ap}
use mathlib.Core.List.{List, ◌++◌}
use Prim.Native.Nat.{ℕ, suc, ◌+◌, ◌-◌, ◌*◌, ◌≤◌, ◌<◌}
use native.Mathlib.Omega.{arith}
use native.Mathlib.Numerals.{add-one}
use lib.ListN.{length, length-append}
use lib.Seq.{sets}
use lib.IntN.{ℤ}
use Rattle.std.specs.Prelude.{Option, Some, None, ok_or, Result, Ok, Err}
use Rattle.outcome.specs.Outcome.{and_then, raise}
use Rattle.outcome.specs.Store.{written}
use Rattle.outcome.proofs.OutcomeLaws.{ok_is, ok_refused, came_by}
use Rattle.store.proofs.SetsLaws.{sets_append}
use Rattle.numbers.specs.Refusal.{stop_in}
use Rattle.numbers.specs.declared.refusal.PlacedRefusal.{PlacedRefusal}
use Rattle.annotations.specs.Annotation.{annotation_of}
use Rattle.annotations.specs.Step.{annotation, end, step_at}
use Rattle.annotations.specs.Inner.{made_of, read_in, Reading}
use Rattle.annotations.specs.declared.operands.Operands.{Operands}
use Rattle.annotations.specs.declared.step.Step.{Step}
use Rattle.annotations.specs.declared.step.Step.TheVariants as read
use Rattle.annotations.proofs.MoveLaws.{advanced}
use Rattle.decode.specs.Decode.{decode_all, rest, DecodeStop}
use Rattle.line_state.specs.State.{start}
use Rattle.line_turn.specs.Turn.{turning}
use Rattle.line_state.specs.declared.state.Line.{Line}
use Rattle.line_state.specs.declared.state.State.{State}
use Rattle.line_changes.specs.declared.After.{After}
use Rattle.line_entries.specs.Entries.{listed, entries_each, entries}
use Rattle.lines.specs.Lines.{lines_from, how_many}
use Rattle.line_entries.specs.Inner.{Appending}
use Rattle.lines.specs.Inner.{all_lines, Accepted, Passing}
use Rattle.lines.specs.declared.refusal.Refusal.TheVariants.{Annotation, BadLine}
use Rattle.lines.proofs.ProgramLaws.{listed_few, entries_append, length_entries, before, plus, plus_none, how_many_before, plus_plus, lines_on, lines_bad, lines_end, lines_refused}

-- ---- what the promises of the calls say
module _ {s : List ℕ} {at : ℕ} {x : Step Operands} (p : Reading s at x) where
  stepped : {a : Operands} → x ≡ read.Annotation a → step_at s at ≡ Ok (annotation (made_of a))
  unfolding read_in
  stepped e = sym p.is.answer ∙ ap read_in e

  ended : {place : ℕ} → x ≡ read.End place → step_at s at ≡ Ok (end place)
  unfolding read_in
  ended e = sym p.is.answer ∙ ap read_in e

  stopped_by : {why : PlacedRefusal} → x ≡ read.Refused why → step_at s at ≡ Err (stop_in why)
  unfolding read_in
  stopped_by e = sym p.is.answer ∙ ap read_in e

  -- fewer bytes are left after an annotation
  pub fewer_left : {a : Operands} → x ≡ read.Annotation a → length s - a.next < length s - at
  fewer_left e = let m = advanced s at (stepped e) in omega arith

-- ---- the invariant: after i annotations n records are closed, and the others follow from `at`
-- these are left, and writing them after the n gives what is wanted
pub record Left (s : List ℕ) (st₀ st : List ℤ) (state : State) (at i n : ℕ) : Type 0 where
  pub lines : List Line
  pub is : lines_from state i (rest s at) ≡ Ok lines
  pub wanted : sets st (entries_each * n) (entries lines) ≡ written (all_lines s) entries st₀
  pub room : entries_each * (n + length lines) ≤ length st

pub record Passed (s : List ℕ) (st₀ st : List ℤ) (state : State) (at i n : ℕ) : Type 0 where
  pub few : 2 * i ≤ at
  pub within : at ≤ length s
  pub fewer : n ≤ i
  pub many : how_many (all_lines s) ≡ plus n (how_many (lines_from state i (rest s at)))
  pub same : length st ≡ length st₀
  pub left : Accepted s (length st₀) → Left s st₀ st state at i n

pub pass_none : (s : List ℕ) (st : List ℤ) {state : State} → state ≡ start → Passed s st st state 0 0 0
unfolding decode_all written
pass_none s st e =
    rw e
    (record {
      few = omega arith;
      within = omega arith;
      fewer = omega arith;
      many = plus_none _;
      same = refl;
      left = λ a. record { lines = a.lines; is = a.is; wanted = rw a.is; room = let h = a.fits in omega arith };
    })

module _ {s : List ℕ} {st₀ st : List ℤ} {state : State} {at i n : ℕ} (c : Passed s st₀ st state at i n) where
  module _ {x : Step Operands} (p : Reading s at x) {a : Operands} (e : x ≡ read.Annotation a) {t : Option After} (q : ok_or t tt ≡ turning state (annotation_of a.opcode a.first a.second)) where
    turned : {o : Option After} → t ≡ o → turning state (annotation_of a.opcode a.first a.second) ≡ ok_or o tt
    turned f = sym q ∙ ap (λ (o : Option After). ok_or o tt) f

    pub pass_bad : t ≡ None → Passing s st₀ (Err (BadLine i)) st
    unfolding and_then raise
    pass_bad f =
        let bad = lines_bad s at i state (stepped p e) (turned f) in
        record {
          answer = sym (c.many ∙ rw bad);
          after = λ w. absurd (ok_refused (sym (c.left w).is ∙ bad));
        }

    module _ {y : After} (f : t ≡ Some y) {st' : List ℤ} {r : ℕ} (g : Appending (listed y.closed) st n st' r) where
      abbrev done : List Line
      done = listed y.closed

      abbrev later : Result (List Line) DecodeStop
      later = lines_from y.state (suc i) (rest s a.next)

      here : lines_from state i (rest s at) ≡ before done later
      here = lines_on s at i state (stepped p e) (turned f)

      -- the records that are left begin with the one that was closed
      left_more : Left s st₀ st state at i n → Left s st₀ st' y.state a.next (suc i) r
      left_more w =
          came_by later (λ m. Ok (done ++ m)) (sym here ∙ w.is) (λ m k h.
          let all : w.lines ≡ done ++ m = ok_is (sym h) in
          let long : length w.lines ≡ length done + length m = ap length all ∙ simp length-append in
          let put : st' ≡ sets st (entries_each * n) (entries done) = g.store (omega (arith, w.room)) in
          let place : entries_each * r ≡ entries_each * n + length (entries done) = omega (arith, g.many, length_entries done) in
          let both : entries w.lines ≡ entries done ++ entries m = ap entries all ∙ entries_append done m in
          record {
            lines = m;
            is = k;
            wanted = rw (place, put) (sets_append (entries done) (entries m) st (entries_each * n) ∙ rw both at w.wanted);
            room = omega (arith, w.room, g.many, g.same);
          })

      pub pass_more : Passed s st₀ st' y.state a.next (i + 1) r
      pass_more =
          let m = advanced s at (stepped p e) in
          record {
            few = omega (arith, c.few);
            within = m.within;
            fewer = few_more;
            many = rw (add-one, g.many) (c.many ∙ ap (λ (z : Result (List Line) DecodeStop). plus n (how_many z)) here ∙ ap (plus n) (how_many_before done later) ∙ plus_plus n (length done) (how_many later));
            same = g.same ∙ c.same;
            left = λ w. rw add-one (left_more (c.left w));
          }
        where
          few_more : r ≤ i + 1
          few_more = omega (arith, c.fewer, g.many, listed_few y.closed)

  module _ {x : Step Operands} (p : Reading s at x) where
    pub pass_end : {place : ℕ} → x ≡ read.End place → {st' : List ℤ} {r : ℕ} → Appending (listed state.last) st n st' r → Passing s st₀ (Ok r) st'
    unfolding and_then raise
    pass_end e g =
        let last = lines_end s at i state (ended p e) in
        record {
          answer = sym (c.many ∙ rw (last, g.many));
          after = λ w.
              let all : (c.left w).lines ≡ listed state.last = ok_is (sym (c.left w).is ∙ last) in
              g.store (rw all at (c.left w).room) ∙ rw all at (c.left w).wanted;
        }

    pub pass_refused : {why : PlacedRefusal} → x ≡ read.Refused why → Passing s st₀ (Err (Annotation why)) st
    unfolding and_then raise
    pass_refused e =
        let stop = lines_refused s at i state (stopped_by p e) in
        record {
          answer = sym (c.many ∙ rw stop);
          after = λ w. absurd (ok_refused (sym (c.left w).is ∙ stop));
        }

pub ruleset pass_cases = (fewer_left, pass_none, pass_bad, pass_more, pass_end, pass_refused)
