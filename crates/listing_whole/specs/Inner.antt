-- What judging a file promises the crates of the listing.
use Rattle.std.specs.Prelude.{◌≡◌, ℕ, Result, Ok}
use Rattle.parse_buffer.specs.Bytes.{File}
use Rattle.listing_whole.specs.Whole.{told, judging}
use Rattle.listing_whole.specs.declared.refusal.ListRefusal.{ListRefusal}
use Rattle.listing_whole.specs.declared.Listable.{Listable}

-- `judge`
pub record Judges (f : File) (len : ℕ) (r : Result Listable ListRefusal) : Type 0 where
  pub answer : told r ≡ judging f len

-- what the functions of a line require: s was judged of this very file
pub record Whole (f : File) (len : ℕ) (s : Listable) : Type 0 where
  pub is : judging f len ≡ Ok s
