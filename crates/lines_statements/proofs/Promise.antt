-- The program is run over the annotations alone, and the closing step only passes its refusal on.
use mathlib.Core.Path.{◌≡◌, refl, sym, ◌∙◌, ap}
use mathlib.Core.List.{List, [], ◌∷◌, map}
use Prim.Native.Nat.{ℕ, suc}
use lib.ListN.{length}
use lib.IntN.{ℤ}
use Rattle.std.specs.Prelude.{Result, Ok, Err}
use Rattle.outcome.specs.Outcome.{and_next, and_then, ◌>>◌, raise}
use Rattle.outcome.specs.Refusal as paper
use Rattle.outcome.specs.Store.{written}
use Rattle.outcome.proofs.OutcomeLaws.{bind_same, ok_refused, refused_is}
use Rattle.numbers.specs.Refusal.{Stop}
use Rattle.annotations.specs.Step.{PlacedTriple}
use Rattle.annotations.specs.declared.annotation.Triple.{Triple}
use Rattle.decode.specs.Decode.{decode_all, DecodeStop}
use Rattle.line_state.specs.State.{start}
use Rattle.line_turn.specs.Turn.{turning}
use Rattle.line_state.specs.declared.state.Line.{Line}
use Rattle.line_state.specs.declared.state.State.{State}
use Rattle.line_entries.specs.Entries.{entries}
use Rattle.lines.specs.Lines.{program, running}
use Rattle.lines_statements.specs.Statements.{triples_of, closes_as, without_place, OnlyThePromise}
use Rattle.lines_statements.proofs.Runs.{answer, is_answer}
use Rattle.lines_statements.proofs.Records.{head_is, tail_is, no_head}

abbrev triples : List PlacedTriple → List Triple
triples found = map (λ (x : PlacedTriple). x.triple) found

program_same : (f g : List PlacedTriple) (s : State) (i : ℕ) → triples f ≡ triples g → program s i f ≡ program s i g
unfolding program
program_same [] [] s i e = refl
program_same [] (y ∷ g) s i e = absurd (no_head (sym e))
program_same (x ∷ f) [] s i e = absurd (no_head e)
program_same (x ∷ f) (y ∷ g) s i e =
    bind_same (ap (λ (t : Triple). raise (λ _. i) (turning s t)) (head_is e)) (λ a _. bind_same (program_same f g a.state (suc i) (tail_is e)) (λ m _. refl))

-- the same program, with closing steps that differ by their place
abbrev closes : Result ℕ Stop → Result (Unit {0}) paper.Refusal
closes last = raise (λ (x : Stop). x.refusal) (last >> Ok tt)

answer_same : (room : ℕ) (p : Result (List Line) ℕ) (l m : Result ℕ Stop) → closes l ≡ closes m → without_place (answer p l room) ≡ without_place (answer p m room)
unfolding and_then and_next raise
answer_same room (Err i) l m e = refl
answer_same room (Ok lines) (Ok a) (Ok b) e = refl
answer_same room (Ok lines) (Ok a) (Err w) e = absurd (ok_refused e)
answer_same room (Ok lines) (Err v) (Ok b) e = absurd (ok_refused (sym e))
answer_same room (Ok lines) (Err v) (Err w) e = ap Err (refused_is e)

both_same : (s t : List ℕ) (room : ℕ) → triples_of s ≡ triples_of t → closes_as s ≡ closes_as t → without_place (running s room) ≡ without_place (running t room)
both_same s t room e f =
    ap without_place (is_answer s room)
    ∙ ap (λ (p : Result (List Line) ℕ). without_place (answer p (decode_all s).last room)) (program_same (decode_all s).found (decode_all t).found start 0 e)
    ∙ answer_same room (program start 0 (decode_all t).found) (decode_all s).last (decode_all t).last f
    ∙ ap without_place (sym (is_answer t room))

-- a store does not depend on the place of a refusal
written_without : (o : Result (List Line) DecodeStop) (store : List ℤ) → written o entries store ≡ written (without_place o) entries store
unfolding written raise
written_without (Ok lines) store = refl
written_without (Err why) store = refl

pub only_the_promise : OnlyThePromise
only_the_promise =
    record {
      answer = both_same;
      store = λ s t store e f.
          written_without (running s (length store)) store
          ∙ ap (λ (o : Result (List Line) paper.Refusal). written o entries store) (both_same s t (length store) e f)
          ∙ sym (written_without (running t (length store)) store);
    }
