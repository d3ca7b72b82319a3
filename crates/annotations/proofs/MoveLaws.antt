-- A step that answers an annotation ends at least two bytes past its start, within the bytes.
use mathlib.Core.Path.{◌≡◌, refl, subst}
use mathlib.Core.Bool.{Bool, true, false}
use mathlib.Core.List.{List}
use Prim.Native.Nat.{ℕ, ◌+◌, ◌≤◌, ◌<◌}
use native.Mathlib.Omega.{arith}
use lib.Dec.{leb, eqb}
use lib.ListN.{length}
use Rattle.std.specs.Prelude.{Result, Ok, Err}
use Rattle.outcome.specs.Outcome.{and_next, and_then, ◌>>=◌, ◌>>◌, require}
use Rattle.outcome.proofs.OutcomeLaws.{by_test}
use Rattle.numbers.specs.Refusal.{Stop}
use Rattle.numbers.specs.Number.{number_at}
use Rattle.numbers.proofs.MoveLaws.{number_in}
use Rattle.annotations.specs.Step.{PlacedTriple, Stepped, annotation, end, operands, step_at}
use Rattle.numbers.specs.declared.number.Number.{Number}

-- (A `data` type, as `Form` of numbers is.)
pub data StepMoves (s : List ℕ) (from : ℕ) : Result Stepped Stop → Type 0 where
  found : {x : PlacedTriple} → from + 2 ≤ x.next → x.next ≤ length s → StepMoves s from (Ok (annotation x))
  ended : {p : ℕ} → StepMoves s from (Ok (end p))
  stopped : {why : Stop} → StepMoves s from (Err why)

module _ {s : List ℕ} (from : ℕ) where
  -- a number is read and the step goes on: it ends where the rest ends
  after_number : (at : ℕ) (k : Number → Result Stepped Stop) → ((n : Number) → at < n.next → n.next ≤ length s → StepMoves s from (k n)) → StepMoves s from (number_at s at >>= k)
  unfolding and_then
  after_number at k h = go (number_at s at) refl
    where
      go : (r : Result Number Stop) → number_at s at ≡ r → StepMoves s from (r >>= k)
      go (Ok n) e = let m = number_in s at e in h n m.0 m.1
      go (Err why) e = stopped

  after_test : (b : Bool) (why : Stop) {k : Result Stepped Stop} → StepMoves s from k → StepMoves s from (require b why >> k)
  unfolding require and_next
  after_test true why h = h
  after_test false why h = stopped

pub step_moves : (s : List ℕ) (at : ℕ) → StepMoves s at (step_at s at)
unfolding step_at operands
step_moves s at =
    let P = StepMoves s at in
    by_test P (leb (length s) at) (λ _. ended)
    (λ _. after_number at at _ λ code l _.
    by_test P (eqb code.value 0) (λ _. ended)
    (λ _. after_test at (leb code.value 13) _
    (after_number at code.next _ λ v l₁ m₁.
    by_test P (eqb code.value 12) (λ _. after_number at v.next _ λ w l₂ m₂. found (omega arith) m₂)
    (λ _. found (omega arith) m₁))))

-- (A record, not a pair: `search` takes a pair apart before it looks for a lemma.)
pub record Advanced (s : List ℕ) (at p : ℕ) : Type 0 where
  pub past : at + 2 ≤ p
  pub within : p ≤ length s

module _ (s : List ℕ) (at : ℕ) {x : PlacedTriple} (e : step_at s at ≡ Ok (annotation x)) where
  pub advanced : Advanced s at x.next
  advanced = go _ (subst (StepMoves s at) e (step_moves s at)) refl
    where
      go : (y : Result Stepped Stop) → StepMoves s at y → y ≡ Ok (annotation x) → Advanced s at x.next
      go _ (found {x = x'} l m) g = let r : x' ≡ x = cc in record { past = rw (← r) l; within = rw (← r) m }
      go _ ended g = absurd (let z : ◌≡◌ {A = ℕ} 0 1 = cc in omega arith)
      go _ stopped g = absurd (let z : ◌≡◌ {A = ℕ} 0 1 = cc in omega arith)
