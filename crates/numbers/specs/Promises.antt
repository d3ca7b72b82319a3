-- The promise of `uncompress_next`: the whole answer, as document 01 numbers it.
use Rattle.std.specs.Prelude.{◌≡◌, List, ℕ, Result}
use Rattle.numbers.specs.Refusal.{told}
use Rattle.numbers.specs.Number.{number_at}
use Rattle.numbers.specs.declared.refusal.PlacedRefusal.{PlacedRefusal}
use Rattle.numbers.specs.declared.number.Number.{Number}

pub record Uncompressing (s : List ℕ) (at : ℕ) (r : Result Number PlacedRefusal) : Type 0 where
  pub answer : told r ≡ number_at s at
