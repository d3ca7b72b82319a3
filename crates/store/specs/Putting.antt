-- What putting a run of entries into a store leaves, for entries of any kind.
use Rattle.std.specs.Prelude.{◌≡◌, List, ℕ, ◌+◌, ◌≤◌, length}
use Rattle.std.proofs.lemmas.List.Edits.{sets}

-- the entries stand in the store from a place on, and all else there is as it was; the answer is the place after them,
-- which is still within the store
pub record Putting {B : Type 0} (entries before : List B) (at : ℕ) (after : List B) (r : ℕ) : Type 0 where
  pub store : after ≡ sets before at entries
  pub place : r ≡ at + length entries
  pub within : r ≤ length after
