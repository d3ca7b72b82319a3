-- What inner functions promise their callers.
use Rattle.std.specs.Prelude.{◌≡◌, List, ℕ}
use Rattle.std.proofs.lemmas.List.Edits.{sets}
use Rattle.parse_buffer.specs.Bytes.{File}
use Rattle.listing.specs.Listing.{Lines, text_of, part_in}
use Rattle.listing.specs.declared.Part.{Part}

-- these lines stand in the buffer
pub record Writes (f : File) (len : ℕ) (l : Lines) (out : List ℕ) (r : Part) (out' : List ℕ) : Type 0 where
  pub answer : r ≡ part_in f len l
  pub after : out' ≡ sets out 0 (text_of f len l)
