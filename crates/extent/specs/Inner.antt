-- What the stages of step 8 promise their callers.
use Rattle.std.specs.Prelude.{◌≡◌, ℕ, ◌+◌, ◌^◌, ◌≤◌, Option, Result, Ok, IfOk}
use Rattle.outcome.specs.Outcome.{◌>>=◌}
use Rattle.outcome.specs.Refusal as paper
use Rattle.parse_buffer.specs.Bytes.{File}
use Rattle.paged.specs.PageSize.{PageSize, need}
use Rattle.paged.specs.Pages.{entry_of}
use Rattle.paged.specs.declared.refusal.Refusal.{Refusal}
use Rattle.runs.specs.Inner.{Lying}
use Rattle.stream.specs.Stream.{own_pages}
use Rattle.stream.specs.declared.Found.{Found}
use Rattle.extent.specs.Extent.{Asked, asked, readable, extent_of}
use Rattle.paged.specs.Refusal.{told}
use Rattle.extent.specs.declared.Extent.{Extent}

-- ---- what holds of an extent: its page size passes, it has as many pages as its bytes take, and their entries are
-- among the first 2^32 of their list (so there are no more than that; it stands here for those who only need this)
pub record Extends (x : Extent) : Type 0 where
  pub size : PageSize x.pagesize
  pub whole : x.pages ≡ need x.pagesize x.bytes
  pub small : entry_of x.list x.pages ≤ 2 ^ 32
  pub few : x.pages ≤ 2 ^ 32

-- its page numbers lie in a file of `len` bytes
abbrev pub EntriesLie : File → ℕ → Extent → Type 0
EntriesLie f len x = Lying f len x.pagesize x.list x.pages

-- what holds of a stream that was found
pub record Held (x : Found) : Type 0 where
  pub size : PageSize x.header.pagesize
  pub small : x.first + own_pages x ≤ 2 ^ 32

-- ---- what was asked for, by its pages
unfoldable pub extents : Result Asked paper.Refusal → Result Extent paper.Refusal
extents o = do
  x ← o
  Ok (extent_of x)

-- ---- what was measured is an extent, and its entries lie in the file
pub record Sound (f : File) (len : ℕ) (r : Result Extent Refusal) : Type 0 where
  pub extends : IfOk r Extends
  pub lie : IfOk r (EntriesLie f len)

-- ---- `measure` and `readable`
pub record Measuring (f : File) (len k : ℕ) (limit : Option ℕ) (r : Result Extent Refusal) : Type 0 where
  pub answer : told r ≡ extents (asked f len k limit)
  pub sound : Sound f len r

pub record Reading (f : File) (len k : ℕ) (limit : Option ℕ) (r : Result Extent Refusal) : Type 0 where
  pub answer : told r ≡ extents (readable f len k limit)
  pub sound : Sound f len r
