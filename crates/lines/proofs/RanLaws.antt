-- The returns of `run_lines`: what was counted, and the room, judged in the order of `running`.
use mathlib.Core.Path.{◌≡◌, refl, sym, ◌∙◌, ap}
use mathlib.Core.List.{List}
use Prim.Native.Nat.{ℕ, ◌*◌, ◌/◌, ◌≤◌, ◌<◌}
use native.Mathlib.Omega.{arith}
use borrow.Author.Tests.{le-leb, lt-leb}
use lib.ListN.{length}
use lib.IntN.{ℤ}
use Rattle.std.specs.Prelude.{Result, Ok, Err}
use Rattle.outcome.specs.Outcome.{and_next, and_then, require, raise}
use Rattle.outcome.specs.Store.{written}
use Rattle.outcome.proofs.OutcomeLaws.{ok_is, ok_refused}
use Rattle.decode.specs.Decode.{DecodeStop}
use Rattle.line_state.specs.declared.state.Line.{Line}
use Rattle.line_entries.specs.Entries.{entries_each}
use Rattle.lines.specs.Lines.{needed, running, how_many}
use Rattle.lines.specs.Refusal.{stop_in}
use Rattle.lines.specs.Promises.{Running}
use Rattle.lines.specs.Inner.{all_lines, Accepted, Passing}
use Rattle.lines.specs.declared.refusal.Refusal.{Refusal}
use Rattle.lines.specs.declared.refusal.Refusal.TheVariants.{NoRoom}

-- ---- what a count says of the records
refuses : (o : Result (List Line) DecodeStop) {why : DecodeStop} → how_many o ≡ Err why → o ≡ Err why
unfolding and_then
refuses (Ok l) e = absurd (ok_refused e)
refuses (Err w) e = cc

counts : (o : Result (List Line) DecodeStop) {n : ℕ} → how_many o ≡ Ok n → (l : List Line) × ((o ≡ Ok l) × (n ≡ length l))
unfolding and_then
counts (Ok l) e = (l, (refl, ok_is (sym e)))
counts (Err w) e = absurd (ok_refused (sym e))

module _ (s : List ℕ) (store : List ℤ) {none none' : List ℤ} where
  module _ {why : Refusal} (p : Passing s none (Err why) none') where
    refused : all_lines s ≡ Err (stop_in why)
    unfolding raise
    refused = refuses (all_lines s) (sym p.answer)

    pub run_refused : {r : Result ℕ Refusal} → r ≡ Err why → Running s store r store
    unfolding running written and_then raise
    run_refused e = record { answer = rw (e, refused); after = rw refused }

  module _ {n : ℕ} (p : Passing s none (Ok n) none') where
    all : (l : List Line) × ((all_lines s ≡ Ok l) × (n ≡ length l))
    unfolding raise
    all = counts (all_lines s) (sym p.answer)

    pub run_no_room : length store / 8 < n → {k : ℕ} → k ≡ needed n → Running s store (Err (NoRoom k)) store
    unfolding running written and_then and_next require raise
    run_no_room h g =
        let m = all.1.1 in
        let t = lt-leb (entries_each * length all.0) (length store) (omega arith) in
        record { answer = rw (all.1.0, t, g ∙ ap needed m); after = rw (all.1.0, t) }

    module _ (h : n ≤ length store / 8) where
      accepted : Accepted s (length store)
      accepted = let m = all.1.1 in record { lines = all.0; is = all.1.0; fits = omega arith }

      pub run_counted : {d : Result ℕ Refusal} {store' : List ℤ} → Passing s store d store' → Running s store d store'
      unfolding running written and_then and_next require
      run_counted q =
          let m = all.1.1 in
          let t = le-leb (entries_each * length all.0) (length store) (omega arith) in
          record { answer = q.answer ∙ rw (all.1.0, t); after = q.after accepted ∙ rw (all.1.0, t) }
