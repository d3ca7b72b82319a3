-- What the stages of opening promise their callers.
use Rattle.std.specs.Prelude.{◌≡◌, ℕ, Result}
use Rattle.parse_buffer.specs.Bytes.{File}
use Rattle.paged.specs.Refusal.{told}
use Rattle.paged.specs.declared.refusal.Refusal.{Refusal}
use Rattle.header.specs.Header.{headed, located}
use Rattle.header.specs.declared.Header.{Header}

-- steps 1 and 2
pub record Heading (f : File) (len : ℕ) (r : Result Header Refusal) : Type 0 where
  pub answer : told r ≡ headed f len

-- steps 1 to 3
pub record Locating (f : File) (len : ℕ) (r : Result Header Refusal) : Type 0 where
  pub answer : told r ≡ located f len
