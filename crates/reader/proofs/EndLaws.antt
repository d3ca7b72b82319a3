-- Where a step ends: the place of an end is the length, and at or past the length every step is that end. Every other
-- step ends past its start.
use mathlib.Core.Path.{◌≡◌, refl, subst}
use mathlib.Core.Bool.{Bool, true, false}
use mathlib.Core.List.{List}
use Prim.Native.Nat.{ℕ, ◌≤◌, ◌<◌}
use native.Mathlib.Omega.{arith}
use borrow.Author.Tests.{le-leb, leb-false}
use lib.Dec.{leb, eqb}
use lib.ListN.{length}
use Rattle.std.specs.Prelude.{Result, Ok, Err}
use Rattle.outcome.specs.Outcome.{and_next, and_then, ◌>>=◌, ◌>>◌, require}
use Rattle.outcome.proofs.OutcomeLaws.{by_test}
use Rattle.numbers.specs.Refusal.{Stop}
use Rattle.numbers.specs.Number.{number_at}
use Rattle.numbers.proofs.FormLaws.{Form, short, invalid, form_at}
use Rattle.numbers.proofs.MoveLaws.{number_in}
use Rattle.annotations.specs.Step.{PlacedTriple, Stepped, annotation, end, operands, step_at}
use Rattle.numbers.specs.declared.number.Number.{Number}

-- if the answer is an end, its place is the length; else its place is past the start
pub data EndsAt (s : List ℕ) (from : ℕ) : Result Stepped Stop → Type 0 where
  found : {x : PlacedTriple} → from < length s → from < x.next → EndsAt s from (Ok (annotation x))
  ended : EndsAt s from (Ok (end (length s)))
  stopped : {why : Stop} → from < length s → from < why.place → EndsAt s from (Err why)

module _ {s : List ℕ} {from : ℕ} (inside : from < length s) where
  after_number : (at : ℕ) (k : Number → Result Stepped Stop) → from ≤ at → ((n : Number) → at < n.next → EndsAt s from (k n)) → EndsAt s from (number_at s at >>= k)
  unfolding and_then
  after_number at k l h = go (number_at s at) (form_at s at) refl
    where
      go : (r : Result Number Stop) → Form s at r → number_at s at ≡ r → EndsAt s from (r >>= k)
      go (Ok n) f e = h n (number_in s at e).0
      go _ (short m) e = stopped inside inside
      go _ (invalid m) e = stopped inside (omega arith)

  after_test : (b : Bool) (why : Stop) {k : Result Stepped Stop} → from < why.place → EndsAt s from k → EndsAt s from (require b why >> k)
  unfolding require and_next
  after_test true why l h = h
  after_test false why l h = stopped inside l

pub step_ends : (s : List ℕ) (at : ℕ) → EndsAt s at (step_at s at)
unfolding step_at operands
step_ends s at =
    let P = EndsAt s at in
    by_test P (leb (length s) at) (λ _. ended)
    (λ h.
    let inside : at < length s = leb-false (length s) at h in
    after_number inside at _ (omega arith) λ code l.
    by_test P (eqb code.value 0) (λ _. ended)
    (λ _. after_test inside (leb code.value 13) _ l
    (after_number inside code.next _ (omega arith) λ v m.
    by_test P (eqb code.value 12) (λ _. after_number inside v.next _ (omega arith) λ w n. found inside (omega arith)) (λ _. found inside (omega arith)))))

module _ (s : List ℕ) (at : ℕ) where
  pub end_place : {place : ℕ} → step_at s at ≡ Ok (end place) → place ≡ length s
  end_place {place} e = go _ (subst (EndsAt s at) e (step_ends s at)) refl
    where
      go : (y : Result Stepped Stop) → EndsAt s at y → y ≡ Ok (end place) → place ≡ length s
      go _ (found i l) f = absurd (let z : ◌≡◌ {A = ℕ} 0 1 = cc in omega arith)
      go _ ended f = cc
      go _ (stopped i l) f = absurd (let z : ◌≡◌ {A = ℕ} 0 1 = cc in omega arith)

pub step_past : (s : List ℕ) (at : ℕ) → length s ≤ at → step_at s at ≡ Ok (end (length s))
unfolding step_at
step_past s at h = rw (le-leb (length s) at h)
