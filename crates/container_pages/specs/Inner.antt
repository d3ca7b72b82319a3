-- What inner functions promise their callers. None of it is part of an operation's own promise.
use Rattle.std.specs.Prelude.{◌≡◌, List, ℕ, ◌+◌, ◌-◌, ◌*◌, ◌^◌, ◌≤◌, ◌<◌, length, get_or}
use Rattle.parse_buffer.specs.Bytes.{File}
use Rattle.container_layout.specs.Place.{data_page, pages_with, after}
use Rattle.container_layout.specs.Layout.{is_padding}
use Rattle.container_layout.specs.Container.{number_bytes, bits, map_byte}
use Rattle.container_layout.specs.declared.layout.Layout.{Layout}

-- ---- bytes of a store: those from one place up to another are the file's at the same places, and all else there is as
-- it was
pub record Filled (f : File) (o : List ℕ) (from to : ℕ) (o' : List ℕ) : Type 0 where
  pub same : length o' ≡ length o
  pub before : (i : ℕ) → i < from → get_or o' i 0 ≡ get_or o i 0
  pub inside : (i : ℕ) → from ≤ i → i < to → get_or o' i 0 ≡ f i
  pub after : (i : ℕ) → to ≤ i → get_or o' i 0 ≡ get_or o i 0

-- two places in order, within so many bytes
pub record Within (from to room : ℕ) : Type 0 where
  pub order : from ≤ to
  pub fits : to ≤ room

-- ---- `put_numbers`: the bytes of numbers from number `first` on, at a place
abbrev pub numbers_from : List ℕ → ℕ → ℕ → File
numbers_from numbers first at i = number_bytes numbers (4 * first + (i - at))

-- ---- the free map
-- n bits, all 1
abbrev pub low_bits : ℕ → ℕ
low_bits n = 2 ^ n - 1

-- the bits of eight pages from page n on
pub record Freeing (l : Layout) (n r : ℕ) : Type 0 where
  pub is : r ≡ bits (λ b. is_padding l.last l.used (n + b)) 8
  pub small : r < 256

abbrev pub map_of : Layout → ℕ → ℕ → ℕ
map_of l = map_byte l.pagesize l.last l.used

abbrev pub map_from : Layout → ℕ → ℕ → File
map_from l q at i = map_of l q (i - at)

-- ---- `begin_page`: all pages before the r-th data page, from that after the one before it on. What lies in data pages
-- does not matter
pub record Beginning (l : Layout) (r at : ℕ) (o o' : List ℕ) : Type 0 where
  pub place : at ≡ data_page l.pagesize r * l.pagesize
  pub maps : (body : ℕ → ℕ)
      → Filled (pages_with l.pagesize (map_of l) body) o (after l.pagesize r * l.pagesize) at o'
