-- What the stages below the stream count promise their callers.
use Rattle.std.specs.Prelude.{◌≡◌, ℕ, Result}
use Rattle.parse_buffer.specs.Bytes.{File}
use Rattle.paged.specs.Refusal.{told}
use Rattle.paged.specs.declared.refusal.Refusal.{Refusal}
use Rattle.header.specs.declared.Header.{Header}
use Rattle.directory.specs.Directory.{listed, reached}

-- steps 1 to 4
pub record Listing (f : File) (len : ℕ) (r : Result Header Refusal) : Type 0 where
  pub answer : told r ≡ listed f len

-- steps 1 to 5
pub record Reaching (f : File) (len : ℕ) (r : Result Header Refusal) : Type 0 where
  pub answer : told r ≡ reached f len
