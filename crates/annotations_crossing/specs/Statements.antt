-- What holds of these functions beyond their promises. proofs/Statements.antt proves it.
use Rattle.std.specs.Prelude.{List, ℕ, ℤ}
use Rattle.outcome.specs.Only.{Only}
use Rattle.annotations_crossing.specs.Promises.{Numbers, Steps, Decodes, Runs}

-- no other numbers, and no other stores, satisfy a promise. (All that a function gives is one tuple.)
pub record SingleValued : Type 0 where
  pub number : (s : List ℕ) (at : ℕ)
      → Only (λ (o : ℕ × ℕ × ℕ × ℕ × ℕ). Numbers s at o.0 o.1 o.2 o.3 o.4)
  pub step : (s : List ℕ) (at : ℕ)
      → Only (λ (o : ℕ × ℕ × ℤ × ℤ × ℕ × ℕ). Steps s at o.0 o.1 o.2 o.3 o.4 o.5)
  pub decode : (s : List ℕ) (store : List ℤ)
      → Only (λ (o : ℕ × ℕ × ℕ × List ℤ). Decodes s store o.0 o.1 o.2 o.3)
  pub run_lines : (s : List ℕ) (store : List ℤ)
      → Only (λ (o : ℕ × ℕ × ℕ × List ℤ). Runs s store o.0 o.1 o.2 o.3)
