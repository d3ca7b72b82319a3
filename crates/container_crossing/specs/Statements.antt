-- What holds of these functions beyond their promises. proofs/Statements.antt proves it.
use Rattle.std.specs.Prelude.{List, ℕ, Option}
use Rattle.outcome.specs.Only.{Only}
use Rattle.parse_buffer.specs.Bytes.{File}
use Rattle.needed.specs.declared.Stage.{Stage}
use Rattle.container_crossing.specs.Promises.{Opens, Counts, Maps, Needs, Extracts}

-- no other numbers, and no other stores, satisfy a promise. (All that a function gives is one tuple.)
pub record SingleValued : Type 0 where
  pub opening : (f : File) (len : ℕ) → Only (λ (o : ℕ × ℕ × ℕ). Opens f len o.0 o.1 o.2)
  pub of_stream_count : (f : File) (len : ℕ) → Only (λ (o : ℕ × ℕ). Counts f len o.0 o.1)
  pub map : (f : File) (len k : ℕ) (limit : Option ℕ) (offsets sizes : List ℕ)
      → Only (λ (o : ℕ × ℕ × ℕ × List ℕ × List ℕ). Maps f len k limit offsets sizes o.0 o.1 o.2 o.3 o.4)
  pub needed_to_map : (f : File) (len : ℕ) (stage : Stage) (offsets sizes : List ℕ)
      → Only (λ (o : ℕ × ℕ × ℕ × List ℕ × List ℕ). Needs f len stage offsets sizes o.0 o.1 o.2 o.3 o.4)
  pub extract : (f : File) (len k : ℕ) (limit : Option ℕ) (out : List ℕ)
      → Only (λ (o : ℕ × ℕ × List ℕ). Extracts f len k limit out o.0 o.1 o.2)
