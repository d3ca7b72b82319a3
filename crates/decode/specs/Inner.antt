-- What inner functions promise their callers. None of it is part of an operation's own promise.
use Rattle.std.specs.Prelude.{◌≡◌, List, ℕ, Result}
use Rattle.numbers.specs.Refusal.{told}
use Rattle.numbers.specs.declared.refusal.PlacedRefusal.{PlacedRefusal}
use Rattle.decode.specs.Decode.{counted, decode_all}

-- how many annotations, or the first refusal with its place
pub record CountingAll (s : List ℕ) (r : Result ℕ PlacedRefusal) : Type 0 where
  pub answer : told r ≡ counted (decode_all s)
