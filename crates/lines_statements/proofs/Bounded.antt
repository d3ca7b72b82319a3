-- The state's invariants, row by row, and the ends of the range.
use mathlib.Core.Path.{◌≡◌, refl, sym, ◌∙◌, ap}
use mathlib.Core.Logic.{inl, inr}
use mathlib.Core.Bool.{Bool, true, false}
use mathlib.Core.List.{List, [], ◌∷◌}
use Prim.Native.Nat.{ℕ, zero, suc, ◌+◌, ◌^◌, ◌≤◌, ◌<◌}
use native.Mathlib.Omega.{arith}
use borrow.Author.Tests.{ltb-true, ltb-false, le-ltb}
use lib.Dec.{ltb, lt→ltb, ltb→lt}
use lib.IntN.{ℤ, pos, negsuc, nat_abs, ◌+ℤ◌}
use lib.Signed.{mag}
use Rattle.std.specs.Prelude.{Ok, Err, Option, Some, None}
use Rattle.outcome.specs.Outcome.{and_next, and_then, ◌>>=◌, ◌>>◌, require}
use Rattle.outcome.proofs.OutcomeLaws.{ok_is, ok_refused}
use Rattle.annotations.specs.Annotation.{triple}
use Rattle.annotations.specs.Step.{PlacedTriple}
use Rattle.line_state.specs.State.{start, offset_of, with_code, with_line, with_end}
use Rattle.line_state.specs.Sum.{OrBad, summed, line_advanced, end_advanced}
use Rattle.line_changes.specs.Change.{after, line_at, settled, closed, emission, lengthening, advancing_line, advancing_end, emission_on_line}
use Rattle.line_turn.specs.Turn.{turning}
use Rattle.line_state.specs.declared.state.Position.{Position}
use Rattle.line_state.specs.declared.state.Line.{Line}
use Rattle.line_state.specs.declared.state.State.{State}
use Rattle.line_changes.specs.declared.After.{After}
use Rattle.lines_statements.specs.Statements.{AllHeld, BoundedPosition, BoundedLine, BoundedState, Bounded, Outside, Ends}
use Rattle.lines_statements.specs.Statements as held
use Rattle.lines_statements.specs.Runs.{Runs, none, more}
use Rattle.lines_statements.proofs.Records.{some_is, some_none, settled_due, settled_set}

-- ---- sums
summed_fits : (z by : ℤ) {r : ℤ} → summed z by ≡ Ok r → (r ≡ z +ℤ by) × (mag r < 2 ^ 63)
unfolding summed and_next require
summed_fits z by {r} e = go (ltb (mag (z +ℤ by)) (2 ^ 63)) refl e
  where
    go : (b : Bool) → ltb (mag (z +ℤ by)) (2 ^ 63) ≡ b → ◌≡◌ {A = OrBad ℤ} (require b tt >> Ok (z +ℤ by)) (Ok r) → (r ≡ z +ℤ by) × (mag r < 2 ^ 63)
    go true t f = let s = ok_is f in (sym s, rw s at (ltb-true (mag (z +ℤ by)) (2 ^ 63) t))
    go false t f = absurd (ok_refused (sym f))

-- ---- what a turn leaves
abbrev Leaves : OrBad After → Type 0
Leaves o = (a : After) → o ≡ Ok a → BoundedState a.state × ((l : Line) → a.closed ≡ Some l → BoundedLine l)

leaves_none : Leaves (Err tt)
leaves_none a e = absurd (ok_refused (sym e))

quiet : (p : Position) (last : Option Line) → BoundedPosition p → ((l : Line) → last ≡ Some l → BoundedLine l) → Leaves (after p last None)
quiet p last h k a e =
    rw (← ok_is e) (record { at = h; last = k }, λ l f. absurd (some_none (sym f)))

lines_advance : (p : Position) (by : ℤ) (k : Position → OrBad After) → ((z : ℤ) → mag z < 2 ^ 63 → Leaves (k (with_line p z))) → Leaves (line_advanced p by >>= k)
unfolding and_then
lines_advance p by k h = go (summed p.line by) refl
  where
    go : (o : OrBad ℤ) → summed p.line by ≡ o → Leaves ((o >>= λ z. Ok (with_line p z)) >>= k)
    go (Ok z) e = h z (summed_fits p.line by e).1
    go (Err tt) e = leaves_none

ends_advance : (p : Position) (by : ℤ) (k : Position → OrBad After) → ((z : ℤ) → mag z < 2 ^ 63 → Leaves (k (with_end p z))) → Leaves (end_advanced p by >>= k)
unfolding and_then
ends_advance p by k h = go (summed p.end by) refl
  where
    go : (o : OrBad ℤ) → summed p.end by ≡ o → Leaves ((o >>= λ z. Ok (with_end p z)) >>= k)
    go (Ok z) e = h z (summed_fits p.end by e).1
    go (Err tt) e = leaves_none

-- a record that is closed, or that is emitted, is bounded
settled_small : (from : Position) (n : Option ℕ) (to : ℕ) {m : ℕ} → settled from n to ≡ Ok m → to < 2 ^ 32 → ((k : ℕ) → n ≡ Some k → k < 2 ^ 32) → m < 2 ^ 32
settled_small from (Some j) to e t h = rw (settled_set from (Some j) to j e refl) (h j refl)
settled_small from None to e t h = let d = settled_due from None to e refl in omega (arith, d.1)

module _ (p : Position) (own : Option ℕ) (b : BoundedPosition p) (small : (n : ℕ) → own ≡ Some n → n < 2 ^ 32) (t : offset_of p < 2 ^ 32) where
  emitted_state : BoundedState (record { at = p; last = Some (line_at p own) })
  emitted_state =
      record { at = b; last = λ l e. rw (← some_is e) (record { at = b; offset = t; length = small }) }

  closes_line : (l : Line) → BoundedLine l → (o : OrBad ℕ) → settled l.at l.length (offset_of p) ≡ o → Leaves ((o >>= λ n. Ok (Some (line_at l.at (Some n)))) >>= λ done. after p (Some (line_at p own)) done)
  unfolding and_then
  closes_line l h (Err tt) e = leaves_none
  closes_line l h (Ok n) e = λ a f.
      rw (← ok_is f)
      (emitted_state, λ m g. rw (← some_is g) (record { at = h.at; offset = h.offset; length = λ k i. let is : n ≡ k = cc in rw is at (settled_small l.at l.length (offset_of p) e t h.length) }))

  closes_last : (last : Option Line) → ((l : Line) → last ≡ Some l → BoundedLine l) → Leaves (closed last (offset_of p) >>= λ done. after p (Some (line_at p own)) done)
  unfolding closed and_then
  closes_last None h = λ a f. rw (← ok_is f) (emitted_state, λ m g. absurd (some_none (sym g)))
  closes_last (Some l) h = closes_line l (h l refl) (settled l.at l.length (offset_of p)) refl

-- (the code offset is bounded by the offset)
emits : (last : Option Line) (p : Position) (own : Option ℕ) → (p.code < 2 ^ 32 → BoundedPosition p) → ((n : ℕ) → own ≡ Some n → n < 2 ^ 32) → ((l : Line) → last ≡ Some l → BoundedLine l) → Leaves (emission last p own)
unfolding emission and_next require
emits last p own b small h = go (ltb (offset_of p) (2 ^ 32)) refl
  where
    go : (c : Bool) → ltb (offset_of p) (2 ^ 32) ≡ c → Leaves (require c tt >> (closed last (offset_of p) >>= λ done. after p (Some (line_at p own)) done))
    go true e =
        let t = ltb-true (offset_of p) (2 ^ 32) e in
        closes_last p own (b (omega arith)) small t last h
    go false e = leaves_none

sets : (p : Position) (last : Option Line) (n : ℕ) → n < 2 ^ 32 → BoundedPosition p → ((l : Line) → last ≡ Some l → BoundedLine l) → Leaves (lengthening p last n)
unfolding lengthening
sets p None n t b h = leaves_none
sets p (Some l) n t b h =
    quiet p (Some (line_at l.at (Some n))) b (λ m e. rw (← some_is e) (record { at = (h l refl).at; offset = (h l refl).offset; length = λ k f. let is : n ≡ k = cc in rw is at t }))

-- ---- every row
module _ (s : State) (b : BoundedState s) (first second : ℤ) (h : (nat_abs first < 2 ^ 29) × (nat_abs second < 2 ^ 29)) where
  abbrev p : Position
  p = s.at

  abbrev q : BoundedPosition s.at
  q = b.at

  plain : (r : Position) → BoundedPosition r → Leaves (after r s.last None)
  plain r k = quiet r s.last k b.last

  with_line_lem : (z : ℤ) → mag z < 2 ^ 63 → BoundedPosition (with_line p z)
  with_line_lem z m =
      record { code = q.code; base = q.base; file = q.file; line = m; count = q.count; kind = q.kind; start = q.start; end = q.end }

  with_end_lem : (z : ℤ) → mag z < 2 ^ 63 → BoundedPosition (with_end p z)
  with_end_lem z m =
      record { code = q.code; base = q.base; file = q.file; line = q.line; count = q.count; kind = q.kind; start = q.start; end = m }

  at_code : (r : Position) → BoundedPosition r → (c : ℕ) → c < 2 ^ 32 → BoundedPosition (with_code r c)
  at_code r k c t =
      record { code = t; base = k.base; file = k.file; line = k.line; count = k.count; kind = k.kind; start = k.start; end = k.end }

  no_length : (n : ℕ) → None ≡ Some n → n < 2 ^ 32
  no_length n e = let z : ◌≡◌ {A = ℕ} 0 1 = cc in omega arith

  own_length_lem : (n : ℕ) → Some (nat_abs first) ≡ Some n → n < 2 ^ 32
  own_length_lem n e = let is : nat_abs first ≡ n = cc in let k = h.0 in omega arith

  row : (op : ℕ) → Leaves (turning s (triple op first second))
  unfolding turning advancing_line advancing_end emission_on_line
  row zero = leaves_none
  row (suc zero) = plain _ (at_code p q (nat_abs first) (omega (arith, h.0)))
  row (suc (suc zero)) =
      plain _ (record { code = q.code; base = h.0; file = q.file; line = q.line; count = q.count; kind = q.kind; start = q.start; end = q.end })
  row (suc (suc (suc zero))) = emits s.last _ None (at_code p q (p.code + nat_abs first)) no_length b.last
  row (suc (suc (suc (suc zero)))) = sets p s.last (nat_abs first) (omega (arith, h.0)) q b.last
  row (suc (suc (suc (suc (suc zero))))) =
      plain _ (record { code = q.code; base = q.base; file = h.0; line = q.line; count = q.count; kind = q.kind; start = q.start; end = q.end })
  row (suc (suc (suc (suc (suc (suc zero)))))) = lines_advance p first _ (λ z m. plain _ (with_line_lem z m))
  row (suc (suc (suc (suc (suc (suc (suc zero))))))) =
      plain _ (record { code = q.code; base = q.base; file = q.file; line = q.line; count = h.0; kind = q.kind; start = q.start; end = q.end })
  row (suc (suc (suc (suc (suc (suc (suc (suc zero)))))))) =
      plain _ (record { code = q.code; base = q.base; file = q.file; line = q.line; count = q.count; kind = h.0; start = q.start; end = q.end })
  row (suc (suc (suc (suc (suc (suc (suc (suc (suc zero))))))))) =
      plain _ (record { code = q.code; base = q.base; file = q.file; line = q.line; count = q.count; kind = q.kind; start = h.0; end = q.end })
  row (suc (suc (suc (suc (suc (suc (suc (suc (suc (suc zero)))))))))) = ends_advance p first _ (λ z m. plain _ (with_end_lem z m))
  row (suc (suc (suc (suc (suc (suc (suc (suc (suc (suc (suc zero))))))))))) =
      lines_advance p second _ (λ z m. emits s.last _ None (at_code (with_line p z) (with_line_lem z m) (p.code + nat_abs first)) no_length b.last)
  row (suc (suc (suc (suc (suc (suc (suc (suc (suc (suc (suc (suc zero)))))))))))) =
      emits s.last _ (Some (nat_abs first)) (at_code p q (p.code + nat_abs second)) own_length_lem b.last
  row (suc (suc (suc (suc (suc (suc (suc (suc (suc (suc (suc (suc (suc zero))))))))))))) =
      plain _ (with_end_lem (pos (nat_abs first)) (omega (arith, h.0)))
  row (suc (suc (suc (suc (suc (suc (suc (suc (suc (suc (suc (suc (suc (suc n)))))))))))))) = leaves_none

all_held : (found : List PlacedTriple) (s : State) {t : State} {closed : List Line} → AllHeld found → Runs s found t closed → BoundedState s → BoundedState t
all_held [] s h none b = b
all_held (x ∷ later) s (held.more h k) (more {a} e r) b =
    all_held later a.state k r (row s b x.triple.first x.triple.second h x.triple.opcode a e).0

begins : BoundedState start
begins =
    record {
      at = record { code = omega arith; base = omega arith; file = omega arith; line = omega arith; count = omega arith; kind = omega arith; start = omega arith; end = omega arith };
      last = λ l e. absurd (some_none (sym e));
    }

pub bounded : Bounded
bounded =
    record {
      begins = begins;
      runs = λ found t closed h r. all_held found start h r begins;
      turns = λ s t a b h e. row s b t.first t.second h t.opcode a e;
    }

-- ---- the ends of the range
outside : (z : ℤ) → 2 ^ 63 ≤ mag z → Outside z
outside (pos n) h = inr (record { lt = lt→ltb 9223372036854775807 n (omega arith) })
outside (negsuc n) h = inl (record { lt = lt→ltb 9223372036854775807 n (omega arith) })

inside_not : (z : ℤ) → Outside z → 2 ^ 63 ≤ mag z
inside_not (pos n) (inl e) = absurd e.lt
inside_not (pos n) (inr e) = let h = ltb→lt 9223372036854775807 n e.lt in omega arith
inside_not (negsuc n) (inl e) = let h = ltb→lt 9223372036854775807 n e.lt in omega arith
inside_not (negsuc n) (inr e) = absurd e.lt

summed_out : (z by : ℤ) → Outside (z +ℤ by) → summed z by ≡ Err tt
unfolding summed and_next require
summed_out z by o = rw (le-ltb (mag (z +ℤ by)) (2 ^ 63) (inside_not (z +ℤ by) o))

summed_refused : (z by : ℤ) → summed z by ≡ Err tt → Outside (z +ℤ by)
unfolding summed and_next require
summed_refused z by e = go (ltb (mag (z +ℤ by)) (2 ^ 63)) refl e
  where
    go : (b : Bool) → ltb (mag (z +ℤ by)) (2 ^ 63) ≡ b → ◌≡◌ {A = OrBad ℤ} (require b tt >> Ok (z +ℤ by)) (Err tt) → Outside (z +ℤ by)
    go true t f = absurd (ok_refused f)
    go false t f = outside (z +ℤ by) (ltb-false (mag (z +ℤ by)) (2 ^ 63) t)

-- a turn that only advances is refused exactly if its sum is
only_sum : (o : OrBad ℤ) (to : ℤ → Position) (last : Option Line) → ((o >>= λ z. Ok (to z)) >>= λ q. after q last None) ≡ Err tt → o ≡ Err tt
unfolding and_then
only_sum (Ok z) to last e = absurd (ok_refused e)
only_sum (Err tt) to last e = refl

moved : (s : State) (z : ℤ) (o : OrBad ℤ) {a : After} → summed s.at.line z ≡ o → ((o >>= λ y. Ok (with_line s.at y)) >>= λ q. after q s.last None) ≡ Ok a → a.state.at.line ≡ s.at.line +ℤ z
unfolding and_then
moved s z (Err tt) f e = absurd (ok_refused (sym e))
moved s z (Ok y) f e = ap (λ (x : After). x.state.at.line) (sym (ok_is e)) ∙ (summed_fits s.at.line z f).0

pub ends : Ends
unfolding turning advancing_line advancing_end emission_on_line and_then
ends =
    record {
      line = λ s z w. (
        λ e. summed_refused s.at.line z (only_sum (summed s.at.line z) (λ y. with_line s.at y) s.last e),
        λ o. rw (summed_out s.at.line z o),
      );
      column = λ s z w. (
        λ e. summed_refused s.at.end z (only_sum (summed s.at.end z) (λ y. with_end s.at y) s.last e),
        λ o. rw (summed_out s.at.end z o),
      );
      both = λ s v z o. rw (summed_out s.at.line z o);
      moves = λ s z w a e. moved s z (summed s.at.line z) refl e;
    }
