-- What holds of these functions beyond their promises. proofs/Statements.antt proves it.
use Rattle.std.specs.Prelude.{List, ℕ, ℤ}
use Rattle.outcome.specs.Only.{Only}
use Rattle.writers_crossing.specs.Promises.{Writes, Packs}

-- no other numbers, and no other stores, satisfy a promise. (All that a function gives is one tuple.)
pub record SingleValued : Type 0 where
  pub write_annotations : (list : List ℤ) (out : List ℕ)
      → Only (λ (o : ℕ × ℕ × List ℕ). Writes list out o.0 o.1 o.2)
  pub write_container : (p : ℕ) (sizes bytes out : List ℕ)
      → Only (λ (o : ℕ × ℕ × List ℕ). Packs p sizes bytes out o.0 o.1 o.2)
