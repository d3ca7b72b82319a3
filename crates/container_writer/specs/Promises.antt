-- The promise of `write_container`: the whole answer, as request 2026-05 numbers it, and the lent store at exit.
use Rattle.std.specs.Prelude.{◌≡◌, List, ℕ, length, Result}
use Rattle.outcome.specs.Store.{written}
use Rattle.container_layout.specs.Refusal.{told}
use Rattle.container_layout.specs.Container.{container}
use Rattle.container_layout.specs.declared.refusal.Refusal.{Refusal}
use Rattle.container_writer.specs.Writing.{first_bytes, writing}

pub record Writing (p : ℕ) (sizes bytes out : List ℕ) (r : Result ℕ Refusal) (out' : List ℕ) : Type 0 where
  pub answer : told r ≡ writing p sizes (length bytes) (length out)
  pub after : out' ≡ written (writing p sizes (length bytes) (length out)) (first_bytes (container p sizes bytes)) out
