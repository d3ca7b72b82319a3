-- What a step finds stays found when more bytes follow: an annotation, 8 and 9 as they are, an end by opcode 0 as an end at
-- the new length. Only 7, and an end for want of bytes, may change.
use mathlib.Core.Path.{◌≡◌, refl}
use mathlib.Core.Bool.{Bool, true, false}
use mathlib.Core.List.{List, ◌++◌}
use Prim.Native.Nat.{ℕ, ◌<◌}
use native.Mathlib.Omega.{arith}
use borrow.Author.Tests.{lt-leb}
use lib.Dec.{leb, eqb}
use lib.ListN.{length, length-append}
use Rattle.std.specs.Prelude.{Result, Ok, Err}
use Rattle.outcome.specs.Outcome.{and_next, and_then, ◌>>=◌, ◌>>◌, require}
use Rattle.outcome.proofs.OutcomeLaws.{by_tests}
use Rattle.numbers.specs.Refusal.{Stop, stop}
use Rattle.numbers.specs.Number.{number_at}
use Rattle.numbers.proofs.PrefixLaws.{NumberKeeps, number_keeps}
use Rattle.annotations.specs.Step.{PlacedTriple, Stepped, annotation, end, operands, step_at}
use Rattle.numbers.specs.declared.refusal.Refusal.TheVariants.{ShortData}
use Rattle.numbers.specs.declared.number.Number.{Number}

module _ (s t : List ℕ) where
  -- the second answer is over the first bytes, the first over more
  pub data StepKeeps (y : Result Stepped Stop) : Result Stepped Stop → Type 0 where
    found : {x : PlacedTriple} → y ≡ Ok (annotation x) → StepKeeps y (Ok (annotation x))
    stopped : {why : Stop} → y ≡ Err why → StepKeeps y (Err why)
    ended : {p : ℕ} → y ≡ Ok (end (length (s ++ t))) → StepKeeps y (Ok (end p))
    short : StepKeeps y (Err (stop ShortData (length s)))

  after_number : (at : ℕ) (k k' : Number → Result Stepped Stop) → ((n : Number) → StepKeeps (k' n) (k n)) → StepKeeps (number_at (s ++ t) at >>= k') (number_at s at >>= k)
  unfolding and_then
  after_number at k k' h = go (number_at s at) (number_keeps s t at)
    where
      both : (r : Result Number Stop) → StepKeeps (r >>= k') (r >>= k)
      both (Ok n) = h n
      both (Err why) = stopped refl

      go : (r : Result Number Stop) → NumberKeeps s t at r → StepKeeps (number_at (s ++ t) at >>= k') (r >>= k)
      go r (NumberKeeps.same e) = rw e (both r)
      go _ NumberKeeps.short = short

  after_test : (b : Bool) (why : Stop) {k k' : Result Stepped Stop} → StepKeeps k' k → StepKeeps (require b why >> k') (require b why >> k)
  unfolding require and_next
  after_test true why h = h
  after_test false why h = stopped refl

  pub step_keeps : (at : ℕ) → at < length s → StepKeeps (step_at (s ++ t) at) (step_at s at)
  unfolding step_at operands
  step_keeps at l =
      let K : Result Stepped Stop → Result Stepped Stop → Type 0 = StepKeeps in
      rw (lt-leb (length s) at l, lt-leb (length (s ++ t)) at (rw length-append (omega arith)))
      (after_number at _ _ λ code.
      by_tests K (eqb code.value 0) (λ _. ended refl)
      (λ _. after_test (leb code.value 13) _
      (after_number code.next _ _ λ v.
      by_tests K (eqb code.value 12) (λ _. after_number v.next _ _ λ w. found refl) (λ _. found refl))))
