-- A step from a place on is the step over the rest of the bytes, with the place moved.
use mathlib.Core.Path.{◌≡◌, refl, ap, ◌∙◌}
use mathlib.Core.Bool.{Bool, true, false}
use mathlib.Core.List.{List, ◌++◌}
use Prim.Native.Nat.{ℕ, ◌+◌}
use lib.Dec.{leb, eqb}
use lib.ListN.{length, length-append}
use Rattle.std.specs.Prelude.{Result, Ok, Err}
use Rattle.outcome.specs.Outcome.{and_next, and_then, ◌>>=◌, ◌>>◌, require}
use Rattle.outcome.proofs.OutcomeLaws.{by_tests}
use Rattle.numbers.specs.Refusal.{Stop}
use Rattle.numbers.specs.Number.{number_at}
use Rattle.numbers.proofs.ShiftLaws.{later_stop, later_number, leb_later, number_later}
use Rattle.annotations.specs.Step.{Stepped, annotation, end, placed, operands, step_at}
use Rattle.numbers.specs.declared.number.Number.{Number}

-- the same answer, k places later
unfoldable pub later_step : ℕ → Result Stepped Stop → Result Stepped Stop
later_step k (Ok (annotation x)) = Ok (annotation (placed x.triple x.shortest (k + x.next)))
later_step k (Ok (end p)) = Ok (end (k + p))
later_step k (Err why) = Err (later_stop k why)

-- (A record, so that its two answers are known.)
record Later (k : ℕ) (y x : Result Stepped Stop) : Type 0 where
  is : y ≡ later_step k x

module _ (u w : List ℕ) where
  after_number : (a : ℕ) (j j' : Number → Result Stepped Stop) → ((n : Number) → Later (length u) (j' (record { value = n.value; next = length u + n.next; taken = n.taken; shortest = n.shortest })) (j n)) → Later (length u) (number_at (u ++ w) (length u + a) >>= j') (number_at w a >>= j)
  unfolding and_then later_number later_step
  after_number a j j' h = rw (number_later u w a) (go (number_at w a))
    where
      go : (r : Result Number Stop) → Later (length u) (later_number (length u) r >>= j') (r >>= j)
      go (Ok n) = h n
      go (Err why) = record { is = refl }

  after_test : (b : Bool) (why : Stop) {k k' : Result Stepped Stop} → Later (length u) k' k → Later (length u) (require b (later_stop (length u) why) >> k') (require b why >> k)
  unfolding require and_next later_step
  after_test true why h = h
  after_test false why h = record { is = refl }

  step_is_later : (a : ℕ) → Later (length u) (step_at (u ++ w) (length u + a)) (step_at w a)
  unfolding step_at operands later_step
  step_is_later a =
      let P : Result Stepped Stop → Result Stepped Stop → Type 0 = Later (length u) in
      rw (ap (λ n. leb n (length u + a)) (length-append u w) ∙ leb_later (length u) (length w) a)
      (by_tests P (leb (length w) a) (λ _. record { is = cc (length-append u w) })
      (λ _. after_number a _ _ λ code.
      by_tests P (eqb code.value 0) (λ _. record { is = cc (length-append u w) })
      (λ _. after_test (leb code.value 13) _
      (after_number code.next _ _ λ v.
      by_tests P (eqb code.value 12) (λ _. after_number v.next _ _ λ x. record { is = refl })
      (λ _. record { is = refl })))))

  pub step_later : (a : ℕ) → step_at (u ++ w) (length u + a) ≡ later_step (length u) (step_at w a)
  step_later a = (step_is_later a).is
