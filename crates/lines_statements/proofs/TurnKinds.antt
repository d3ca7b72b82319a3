-- What a turn does to the last record, by kind of annotation: one law for all opcodes, from which the statements on
-- records follow.
use mathlib.Core.Path.{◌≡◌, refl}
use mathlib.Core.Bool.{Bool, true, false, cond}
use Prim.Native.Nat.{ℕ, zero, suc, ◌+◌, ◌^◌}
use native.Mathlib.Omega.{arith}
use lib.Dec.{eqb, ltb}
use lib.IntN.{ℤ, nat_abs}
use Rattle.std.specs.Prelude.{Ok, Err, Option, Some, None}
use Rattle.outcome.specs.Outcome.{and_next, and_then, ◌>>=◌, ◌>>◌, require}
use Rattle.annotations.specs.Annotation.{triple, emits}
use Rattle.line_state.specs.State.{offset_of, with_code}
use Rattle.line_state.specs.Sum.{OrBad, line_advanced, end_advanced}
use Rattle.line_changes.specs.Change.{after, line_at, settled, closed, emission, lengthening, advancing_line, advancing_end, emission_on_line}
use Rattle.line_turn.specs.Turn.{turning}
use Rattle.line_state.specs.declared.state.Position.{Position}
use Rattle.line_state.specs.declared.state.Line.{Line}
use Rattle.line_state.specs.declared.state.State.{State}
use Rattle.line_changes.specs.declared.After.{After}

abbrev pub state_of : Position → Option Line → State
state_of p last = record { at = p; last = last }

abbrev pub after_of : Position → Option Line → Option Line → After
after_of p last done = record { state = state_of p last; closed = done }

-- the length that an opcode gives to the record that it emits
abbrev pub own : ℕ → ℤ → Option ℕ
own op first = cond (eqb op 12) (Some (nat_abs first)) None

pub data Kind (last : Option Line) (op : ℕ) (first : ℤ) : OrBad After → Type 0 where
  bad : Kind last op first (Err tt)
  leaves : (p : Position) → emits op ≡ false → (op ≡ 4 → ⊥) → Kind last op first (Ok (after_of p last None))
  sets : (p : Position) {l : Line} → op ≡ 4 → last ≡ Some l → Kind last op first (Ok (after_of p (Some (line_at l.at (Some (nat_abs first)))) None))
  begins : (p : Position) → emits op ≡ true → last ≡ None → Kind last op first (Ok (after_of p (Some (line_at p (own op first))) None))
  closes : (p : Position) {l : Line} {n : ℕ} → emits op ≡ true → last ≡ Some l → settled l.at l.length (offset_of p) ≡ Ok n → Kind last op first (Ok (after_of p (Some (line_at p (own op first))) (Some (line_at l.at (Some n)))))

-- ---- by the functions of the rows
module _ (op : ℕ) (first : ℤ) (p : Position) where
  abbrev emitted : Option Line → OrBad After
  emitted done = after p (Some (line_at p (own op first))) done

  module _ (e : emits op ≡ true) where
    closes_kind : (l : Line) (o : OrBad ℕ) → settled l.at l.length (offset_of p) ≡ o → Kind (Some l) op first ((o >>= λ n. Ok (Some (line_at l.at (Some n)))) >>= emitted)
    unfolding and_then
    closes_kind l (Err tt) f = bad
    closes_kind l (Ok n) f = closes p e refl f

    next_kind : (last : Option Line) → Kind last op first (closed last (offset_of p) >>= emitted)
    unfolding closed and_then
    next_kind None = begins p e refl
    next_kind (Some l) = closes_kind l (settled l.at l.length (offset_of p)) refl

    fits_kind : (last : Option Line) (b : Bool) → Kind last op first (require b tt >> (closed last (offset_of p) >>= emitted))
    unfolding and_next require
    fits_kind last false = bad
    fits_kind last true = next_kind last

    emits_kind : (last : Option Line) → Kind last op first (emission last p (own op first))
    unfolding emission
    emits_kind last = fits_kind last (ltb (offset_of p) (2 ^ 32))

-- a row that advances the line or the end column first, and then does as another kind
summed_kind : {A : Type 0} {last : Option Line} {op : ℕ} {first : ℤ} (o : OrBad A) (k : A → OrBad After) → ((z : A) → Kind last op first (k z)) → Kind last op first (o >>= k)
unfolding and_then
summed_kind (Err tt) k h = bad
summed_kind (Ok z) k h = h z

sets_kind : (p : Position) (last : Option Line) (first : ℤ) → Kind last 4 first (lengthening p last (nat_abs first))
unfolding lengthening
sets_kind p None first = bad
sets_kind p (Some l) first = sets p refl refl

-- ---- every turn
module _ (s : State) (first second : ℤ) where
  pub turn_kind : (op : ℕ) → Kind s.last op first (turning s (triple op first second))
  unfolding turning advancing_line advancing_end emission_on_line
  turn_kind zero = bad
  turn_kind (suc zero) = leaves _ refl (λ e. omega arith)
  turn_kind (suc (suc zero)) = leaves _ refl (λ e. omega arith)
  turn_kind (suc (suc (suc zero))) = emits_kind 3 first _ refl s.last
  turn_kind (suc (suc (suc (suc zero)))) = sets_kind s.at s.last first
  turn_kind (suc (suc (suc (suc (suc zero))))) = leaves _ refl (λ e. omega arith)
  turn_kind (suc (suc (suc (suc (suc (suc zero)))))) =
      summed_kind (line_advanced s.at first) (λ q. after q s.last None) (λ z. leaves _ refl (λ e. omega arith))
  turn_kind (suc (suc (suc (suc (suc (suc (suc zero))))))) = leaves _ refl (λ e. omega arith)
  turn_kind (suc (suc (suc (suc (suc (suc (suc (suc zero)))))))) = leaves _ refl (λ e. omega arith)
  turn_kind (suc (suc (suc (suc (suc (suc (suc (suc (suc zero))))))))) = leaves _ refl (λ e. omega arith)
  turn_kind (suc (suc (suc (suc (suc (suc (suc (suc (suc (suc zero)))))))))) =
      summed_kind (end_advanced s.at first) (λ q. after q s.last None) (λ z. leaves _ refl (λ e. omega arith))
  turn_kind (suc (suc (suc (suc (suc (suc (suc (suc (suc (suc (suc zero))))))))))) =
      summed_kind (line_advanced s.at second) (λ q. emission s.last (with_code q (q.code + nat_abs first)) None) (λ z. emits_kind 11 first _ refl s.last)
  turn_kind (suc (suc (suc (suc (suc (suc (suc (suc (suc (suc (suc (suc zero)))))))))))) = emits_kind 12 first _ refl s.last
  turn_kind (suc (suc (suc (suc (suc (suc (suc (suc (suc (suc (suc (suc (suc zero))))))))))))) = leaves _ refl (λ e. omega arith)
  turn_kind (suc (suc (suc (suc (suc (suc (suc (suc (suc (suc (suc (suc (suc (suc n)))))))))))))) = bad
