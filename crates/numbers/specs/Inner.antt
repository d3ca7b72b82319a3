-- What inner functions promise their callers. None of it is part of an operation's own promise.
use Rattle.std.specs.Prelude.{◌≡◌, List, ℕ, ◌+◌, ◌≤◌, ◌<◌, length, get_or, Option, Some, None, IfSome, Result, Ok, Err}
use Rattle.numbers.specs.Refusal.{Stop, stop_in}
use Rattle.numbers.specs.Number.{number_of, number_at}
use Rattle.numbers.specs.declared.refusal.PlacedRefusal.{PlacedRefusal}
use Rattle.numbers.specs.declared.number.Number.{Number}

-- b is the byte at a place
pub record Byte (s : List ℕ) (at b : ℕ) : Type 0 where
  pub is : b ≡ get_or s at 0
  pub small : b < 256

-- how many bytes a number that was read takes, if there is one
unfoldable pub width_of : Result Number Stop → Option ℕ
width_of (Ok n) = Some n.taken
width_of (Err why) = None

pub record Width (s : List ℕ) (at : ℕ) (width : Option ℕ) : Type 0 where
  pub is : width ≡ width_of (number_at s at)
  pub within : IfSome width (λ w. (1 ≤ w) × (at + w ≤ length s))

-- the value of a number that takes `width` bytes
pub record Value (s : List ℕ) (at width value : ℕ) : Type 0 where
  pub is : number_at s at ≡ Ok (number_of at width value)

pub record Why (s : List ℕ) (at : ℕ) (why : PlacedRefusal) : Type 0 where
  pub is : number_at s at ≡ Err (stop_in why)
