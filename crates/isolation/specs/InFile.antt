-- Every listed byte is in the file. Only of the first 48, which opening reads, is the length not asked: a file may be
-- shorter than they are.
use Rattle.std.specs.Prelude.{◌⊎◌, ℕ, ◌<◌, Option}
use Rattle.parse_buffer.specs.Bytes.{File}
use Rattle.isolation.specs.Listed.{ListedBytes}

pub record InFile (f : File) (len k : ℕ) (limit : Option ℕ) : Type 0 where
  pub is : (i : ℕ) → ListedBytes f len k limit i → (i < len) ⊎ (i < 48)
