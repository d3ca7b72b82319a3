-- The promises of the writers' functions: the numbers that cross, and the lent store at exit.
use Rattle.std.specs.Prelude.{◌≡◌, List, ℕ, length, ℤ, Result}
use Rattle.outcome.specs.Refusal as paper
use Rattle.outcome.specs.Store.{written}
use Rattle.annotation_writer.specs.Writing.{list_bytes, writing}
use Rattle.container_layout.specs.Container.{container}
use Rattle.container_writer.specs.Writing as container_writer
use Rattle.container_writer.specs.Writing.{first_bytes}
use Rattle.crossing.specs.Crossing.{Tells}

-- (o is what writing answers, and these are the bytes that it writes)
pub record WritesOf (bytes : ℕ → List ℕ) (o : Result ℕ paper.Refusal) (out : List ℕ) (r value : ℕ) (out' : List ℕ)
    : Type 0 where
  pub answer : Tells o (λ n. n) r value
  pub after : out' ≡ written o bytes out

abbrev pub Writes : List ℤ → List ℕ → ℕ → ℕ → List ℕ → Type 0
Writes list out = WritesOf (λ _. list_bytes list) (writing list (length out)) out

abbrev pub Packs : ℕ → List ℕ → List ℕ → List ℕ → ℕ → ℕ → List ℕ → Type 0
Packs p sizes bytes out =
    WritesOf (first_bytes (container p sizes bytes)) (container_writer.writing p sizes (length bytes) (length out)) out
