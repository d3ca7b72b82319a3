-- What the writing of a part promises its callers.
use Rattle.std.specs.Prelude.{◌≡◌, List, ℕ, ◌+◌, ◌-◌, ◌*◌, ◌%◌, ◌^◌, ◌≤◌, ◌<◌, length}
use Rattle.parse_buffer.specs.Bytes.{File, byte_at}
use Rattle.paged.specs.PageSize.{need}
use Rattle.container_layout.specs.Place.{pages_with, after}
use Rattle.container_layout.specs.Container.{number_bytes}
use Rattle.container_layout.specs.declared.layout.Layout.{Layout}
use Rattle.container_pages.specs.Inner.{Filled, map_of}

-- the first b data pages, and all pages before them, have room
pub record Room (l : Layout) (b room : ℕ) : Type 0 where
  pub few : b < 2 ^ 32
  pub fits : after l.pagesize b * l.pagesize ≤ room

-- ---- one part, which begins at the data page of this rank: these bytes, in data pages
abbrev pub part : Layout → ℕ → (ℕ → ℕ) → File
part l first content = pages_with l.pagesize (map_of l) (λ i. content (i - first * l.pagesize))

-- the data pages from rank `first` up to rank `next`, and the map pages before them
abbrev pub PartFilled : Layout → ℕ → ℕ → (ℕ → ℕ) → List ℕ → List ℕ → Type 0
PartFilled l first next content o o' =
    Filled (part l first content)
    o (after l.pagesize first * l.pagesize) (after l.pagesize next * l.pagesize) o'

-- so many bytes, at least one and fewer than 2^32, take no more data pages from this rank on than there are before the
-- next map page
pub record InRun (l : Layout) (first bytes : ℕ) : Type 0 where
  pub some : 0 < bytes
  pub few : bytes < 2 ^ 32
  pub fits : first % (l.pagesize - 2) + need l.pagesize bytes ≤ l.pagesize - 2

pub record Streaming (l : Layout) (first : ℕ) (stream o : List ℕ) (r : ℕ) (o' : List ℕ) : Type 0 where
  pub next : r ≡ first + need l.pagesize (length stream)
  pub filled : PartFilled l first r (byte_at stream) o o'

pub record Numbering (l : Layout) (first pages : ℕ) (numbers o o' : List ℕ) : Type 0 where
  pub filled : PartFilled l first (first + pages) (number_bytes numbers) o o'
