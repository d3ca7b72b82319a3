-- What inner functions promise their callers. None of it is part of the operation's own promise.
use Rattle.std.specs.Prelude.{◌≡◌, List, ℕ, ◌+◌, ◌*◌, ◌^◌, ◌≤◌, ◌<◌, length}
use Rattle.container_layout.specs.Place.{after}
use Rattle.container_layout.specs.Layout.{bytes_up_to, directory_pages}
use Rattle.container_layout.specs.Container.{container}
use Rattle.container_layout.specs.declared.layout.Layout.{Layout}
use Rattle.container_pages.specs.Inner.{Filled}

-- ---- the input has the bytes of the present streams, and one location page holds the directory's page numbers
pub record Given (p : ℕ) (sizes bytes : List ℕ) : Type 0 where
  pub all : bytes_up_to sizes (length sizes) ≡ length bytes
  pub short : length bytes < 2 ^ 63
  pub one : 4 * directory_pages p sizes ≤ p

-- ---- all pages from page 1 to the last of the streams, and to the location page
pub record Streams (l : Layout) (sizes bytes o o' : List ℕ) : Type 0 where
  pub filled :
      Filled (container l.pagesize sizes bytes) o l.pagesize (after l.pagesize l.streams * l.pagesize) o'

pub record Data (l : Layout) (sizes bytes o o' : List ℕ) : Type 0 where
  pub filled : Filled (container l.pagesize sizes bytes) o l.pagesize ((l.last + 1) * l.pagesize) o'
