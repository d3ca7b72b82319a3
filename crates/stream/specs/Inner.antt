-- What finding a stream promises, and its parts.
use Rattle.std.specs.Prelude.{◌≡◌, ℕ, zero, suc, ◌+◌, ◌*◌, ◌^◌, ◌≤◌, Result, Ok}
use Rattle.parse_buffer.specs.Bytes.{File, word}
use Rattle.paged.specs.Refusal.{told}
use Rattle.paged.specs.declared.refusal.Refusal.{Refusal}
use Rattle.header.specs.Header.{words}
use Rattle.stream.specs.Stream.{pages_of, pages_before, present, found}
use Rattle.stream.specs.declared.Found.{Found}
use Rattle.stream.specs.declared.Present.{Present}

-- ---- `find`, and its parts
pub record Finding (f : File) (len k : ℕ) (r : Result Found Refusal) : Type 0 where
  pub answer : told r ≡ found f len k

pub record Sizing (f : File) (len k : ℕ) (r : Result Present Refusal) : Type 0 where
  pub answer : told r ≡ present f len k

-- the pages of the streams before k, of which a stream of 32 bits has at most 2^24
pub record Before (f : File) (p k r : ℕ) : Type 0 where
  pub is : r ≡ pages_before f p k
  pub small : r ≤ k * 2 ^ 24

-- the pages of streams whose sizes are the n words at a place
unfoldable pub pages_in : File → ℕ → ℕ → ℕ → ℕ
pages_in f p at zero = 0
pages_in f p at (suc n) = pages_in f p at n + pages_of p (word f (at + 4 * n))

pub record Within (f : File) (p at n r : ℕ) : Type 0 where
  pub is : r ≡ pages_in f p at n
  pub small : r ≤ n * 2 ^ 24

-- a stream that is present, in a directory that holds all sizes, and the pages of the streams before it
pub record Skipped (f : File) (len k : ℕ) (x : Present) (before : ℕ) : Type 0 where
  pub is : present f len k ≡ Ok x
  pub sizes : 1 + x.count ≤ words x.header
  pub pages : Before f x.header.pagesize k before
