-- How answers cross to Rust and C: as numbers.
use Rattle.std.specs.Prelude.{◌≡◌, ℕ, Result, Ok, Err}
use Rattle.outcome.specs.Refusal as paper

-- what crosses of an answer: one thing of a value, another of a refusal
unfoldable pub told : {E A B : Type 0} → (A → B) → (E → B) → Result A E → B
told of why (Ok a) = of a
told of why (Err e) = why e

-- the returned number and the first lent one: 0 and a number of the value, or the refusal's number and value in
-- document 01's table
pub record Tells {A : Type 0} (o : Result A paper.Refusal) (of : A → ℕ) (r v : ℕ) : Type 0 where
  pub number : r ≡ told (λ _. 0) (λ (why : paper.Refusal). why.number) o
  pub value : v ≡ told of (λ (why : paper.Refusal). why.value) o
