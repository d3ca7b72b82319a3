-- The promise of `write_annotations`: the whole answer, as request 2026-01 numbers it, and the lent store at exit.
use Rattle.std.specs.Prelude.{◌≡◌, List, ℕ, length, ℤ, Result}
use Rattle.outcome.specs.Store.{written}
use Rattle.annotation_writer.specs.Refusal.{told}
use Rattle.annotation_writer.specs.Writing.{list_bytes, writing}
use Rattle.annotation_writer.specs.declared.refusal.Refusal.{Refusal}

pub record Writing (list : List ℤ) (out : List ℕ) (r : Result ℕ Refusal) (out' : List ℕ) : Type 0 where
  pub answer : told r ≡ writing list (length out)
  pub after : out' ≡ written (writing list (length out)) (λ _. list_bytes list) out
