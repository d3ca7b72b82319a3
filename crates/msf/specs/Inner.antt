-- What inner functions promise their callers.
use Rattle.std.specs.Prelude.{◌≡◌, List, ℕ, ◌+◌, ◌≤◌, ◌<◌, length, get_or, Ok}
use Rattle.parse_buffer.specs.Bytes.{File}
use Rattle.paged.specs.Checks.{lies_in_file}
use Rattle.extent.specs.Extent.{page_in}
use Rattle.extent.specs.declared.Extent.{Extent}
use Rattle.msf.specs.Extraction.{bytes_through}

-- ---- `copy_pages`: the bytes of an extent, and that they lie in the file
abbrev pub bytes_of : File → Extent → List ℕ
bytes_of f x = bytes_through f x.pagesize (page_in f x) x.bytes

pub record LiesIn (f : File) (len : ℕ) (x : Extent) : Type 0 where
  pub is : lies_in_file len x.pagesize (page_in f x) x.bytes x.pages ≡ Ok tt

-- ---- `copy`: n bytes of one list, from a place on, stand in the other, and all else there is as it was
pub record Copied (s : List ℕ) (from : ℕ) (o : List ℕ) (to n : ℕ) (o' : List ℕ) : Type 0 where
  pub same : length o' ≡ length o
  pub before : (k : ℕ) → k < to → get_or o' k 0 ≡ get_or o k 0
  pub inside : (k : ℕ) → k < n → get_or o' (to + k) 0 ≡ get_or s (from + k) 0
  pub after : (k : ℕ) → to + n ≤ k → get_or o' k 0 ≡ get_or o k 0
