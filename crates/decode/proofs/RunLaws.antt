-- An annotation takes bytes, so the fuel is enough, and all steps from a place are the step there and those after it.
use mathlib.Core.Path.{◌≡◌, refl, ap}
use mathlib.Core.List.{List, [], ◌∷◌}
use Prim.Native.Nat.{ℕ, zero, suc, ◌+◌, ◌-◌, ◌*◌, ◌≤◌, ◌<◌}
use native.Mathlib.Omega.{arith}
use lib.ListN.{length}
use Rattle.std.specs.Prelude.{Result, Ok, Err}
use Rattle.numbers.specs.Refusal.{Stop}
use Rattle.annotations.specs.Step.{PlacedTriple, Stepped, annotation, end, step_at}
use Rattle.decode.specs.Decode.{Run, on_step, run_from, rest, decode_all}
use Rattle.annotations.proofs.MoveLaws.{StepMoves, found, ended, stopped, step_moves, advanced}

-- ---- enough fuel is as good as more
on_same : {s : List ℕ} {at : ℕ} {x : Result Stepped Stop} {k l : ℕ → Run} → StepMoves s at x → ((p : ℕ) → at + 2 ≤ p → p ≤ length s → k p ≡ l p) → on_step at x k ≡ on_step at x l
unfolding on_step
on_same (found {x} l m) h = rw (h x.next l m)
on_same ended h = refl
on_same stopped h = refl

enough : (s : List ℕ) (m n at : ℕ) → length s - at < m → length s - at < n → run_from s m at ≡ run_from s n at
unfolding run_from
enough s zero n at h k = absurd (omega arith)
enough s (suc m) zero at h k = absurd (omega arith)
enough s (suc m) (suc n) at h k =
    on_same (step_moves s at) (λ p l l'. enough s m n p (omega arith) (omega arith))

module _ (s : List ℕ) (at : ℕ) where
  pub rest_on : {x : PlacedTriple} → step_at s at ≡ Ok (annotation x) → rest s at ≡ record { found = x ∷ (rest s x.next).found; at = (rest s x.next).at; last = (rest s x.next).last }
  unfolding rest run_from on_step
  rest_on {x} e =
      let m = advanced s at e in
      rw e (ap (λ (r : Run). record { found = x ∷ r.found; at = r.at; last = r.last }) (enough s (length s - at) (suc (length s - x.next)) x.next (omega arith) (omega arith)))

  pub rest_end : {p : ℕ} → step_at s at ≡ Ok (end p) → rest s at ≡ record { found = []; at = at; last = Ok p }
  unfolding rest run_from on_step
  rest_end e = rw e

  pub rest_refused : {why : Stop} → step_at s at ≡ Err why → rest s at ≡ record { found = []; at = at; last = Err why }
  unfolding rest run_from on_step
  rest_refused e = rw e

-- ---- at most half as many annotations as bytes
half_on : {s : List ℕ} {at : ℕ} {x : Result Stepped Stop} (k : ℕ → Run) → StepMoves s at x → ((p : ℕ) → 2 * length (k p).found ≤ length s - p) → 2 * length (on_step at x k).found ≤ length s - at
unfolding on_step
half_on k (found {x} l m) h = let g = h x.next in omega arith
half_on k ended h = omega arith
half_on k stopped h = omega arith

half_from : (s : List ℕ) (fuel at : ℕ) → 2 * length (run_from s fuel at).found ≤ length s - at
unfolding run_from
half_from s zero at = omega arith
half_from s (suc fuel) at = half_on (run_from s fuel) (step_moves s at) (half_from s fuel)

pub half : (s : List ℕ) → 2 * length (decode_all s).found ≤ length s
unfolding decode_all rest
half s = omega (arith, half_from s (suc (length s - 0)) 0)
