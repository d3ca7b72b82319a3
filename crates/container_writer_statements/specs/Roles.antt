-- Request 2026-05, what each page is for: "Page 0 is the header [..]; pages whose number mod P is 1 or 2 are free-map
-- pages; data goes to the other pages in rising order: streams in order, directory, then exactly one location page. Pad
-- with free pages".
use Rattle.std.specs.Prelude.{◌≡◌, ◌⊎◌, List, ℕ, ◌+◌, ◌%◌, ◌<◌, length, get_or}
use Rattle.stream.specs.Stream.{pages_of}
use Rattle.container_layout.specs.Place.{data_page}
use Rattle.container_layout.specs.Layout.{pages_up_to, stream_pages, directory_pages, location_page, pages_used}
use Rattle.container_writer_statements.specs.Accepted.{Accepted}

pub data Role : Type 0 where
  header : Role
  free_map : Role
  stream : ℕ → Role
  directory : Role
  location : Role
  padding : Role

-- a page is one of n data pages from the r-th on
pub record Among (p r n page : ℕ) : Type 0 where
  pub which : ℕ
  pub below : which < n
  pub is : page ≡ data_page p (r + which)

pub record OfStream (p : ℕ) (sizes : List ℕ) (k page : ℕ) : Type 0 where
  pub there : k < length sizes
  pub among : Among p (pages_up_to p sizes k) (pages_of p (get_or sizes k 0)) page

-- page n has the role
abbrev pub Has : ℕ → List ℕ → Role → ℕ → Type 0
Has p sizes header n = n ≡ 0
Has p sizes free_map n = (n % p ≡ 1) ⊎ (n % p ≡ 2)
Has p sizes (stream k) n = OfStream p sizes k n
Has p sizes directory n = Among p (stream_pages p sizes) (directory_pages p sizes) n
Has p sizes location n = n ≡ location_page p sizes
Has p sizes padding n = (location_page p sizes < n) × (n < pages_used p sizes)

-- every page has one role, and so no two streams share a page
pub record OneRole : Type 0 where
  pub some : (p : ℕ) (sizes : List ℕ) (given : ℕ) → Accepted p sizes given → (n : ℕ) → n < pages_used p sizes →
      (r : Role) × Has p sizes r n
  pub one : (p : ℕ) (sizes : List ℕ) (given : ℕ) → Accepted p sizes given → (n : ℕ) (r s : Role) →
      Has p sizes r n → Has p sizes s n → r ≡ s
  pub apart : (p : ℕ) (sizes : List ℕ) (given : ℕ) → Accepted p sizes given → (n j k : ℕ) →
      OfStream p sizes j n → OfStream p sizes k n → j ≡ k
