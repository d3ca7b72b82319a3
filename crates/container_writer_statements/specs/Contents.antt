-- Request 2026-05, what stands in the pages of a file that is written: the header's words, the free map, zeros, and the
-- bytes that depend on the input's.
use Rattle.std.specs.Prelude.{◌≡◌, List, ℕ, ◌+◌, ◌*◌, ◌/◌, ◌%◌, ◌^◌, ◌≤◌, ◌<◌, length, get_or}
use Rattle.parse_buffer.specs.Bytes.{File, byte_at, word}
use Rattle.paged.specs.Pages.{through}
use Rattle.stream.specs.Stream.{pages_of}
use Rattle.container_layout.specs.Place.{data_page}
use Rattle.container_layout.specs.Layout.{present_bytes, bytes_up_to, pages_up_to, stream_pages, directory_size, directory_pages, location_page, pages_used}
use Rattle.container_layout.specs.Container.{container}
use Rattle.container_writer_statements.specs.Accepted.{Accepted, Holds}
use Rattle.container_writer_statements.specs.Roles.{padding, OfStream, Has}

-- ---- "Page 0 is the header, with free map 1"; "unused bytes and reserved are 0"
pub record HasHeaderWords (f : File) (p : ℕ) (sizes : List ℕ) : Type 0 where
  pub size : word f 32 ≡ p
  pub free : word f 36 ≡ 1
  pub used : word f 40 ≡ pages_used p sizes
  pub directory : word f 44 ≡ directory_size p sizes
  pub reserved : word f 48 ≡ 0
  pub location : word f 52 ≡ location_page p sizes

pub record HeaderWords : Type 0 where
  pub words : (f : File) (len p : ℕ) (sizes bytes : List ℕ) → Accepted p sizes (length bytes) →
      Holds f len p sizes bytes → HasHeaderWords f p sizes

-- ---- "The bit of page n is bit n mod 8, lowest first, of byte (n mod 8P)/8 of page 1 + P*(n/8P), divisions rounded
-- down"
abbrev pub map_page : ℕ → ℕ → ℕ
map_page p n = 1 + p * (n / (8 * p))

abbrev pub bit_of : File → ℕ → ℕ → ℕ
bit_of f p n = f (map_page p n * p + n % (8 * p) / 8) / 2 ^ (n % 8) % 2

-- "it is 1 for a padding page and 0 for every other page and past the last. Pages whose number mod P is 2 [..] are 0".
-- Every page's bit is in the file
pub record FreeBits (f : File) (p : ℕ) (sizes : List ℕ) : Type 0 where
  pub within : (n : ℕ) → n < pages_used p sizes → map_page p n < pages_used p sizes
  pub free : (n : ℕ) → map_page p n < pages_used p sizes → Has p sizes padding n → bit_of f p n ≡ 1
  pub taken : (n : ℕ) → map_page p n < pages_used p sizes → (Has p sizes padding n → ⊥) → bit_of f p n ≡ 0
  pub zeros : (n x : ℕ) → n < pages_used p sizes → x < p → n % p ≡ 2 → f (n * p + x) ≡ 0

pub record FreeMap : Type 0 where
  pub bits : (f : File) (len p : ℕ) (sizes bytes : List ℕ) → Accepted p sizes (length bytes) →
      Holds f len p sizes bytes → FreeBits f p sizes

-- ---- "unused bytes [..] are 0": what the header, each stream, the directory and the location list leave of their
-- pages, and the padding pages
pub record Unused (f : File) (p : ℕ) (sizes : List ℕ) : Type 0 where
  pub header_rest : (i : ℕ) → 56 ≤ i → i < p → f i ≡ 0
  pub stream_rest : (k i : ℕ) → k < length sizes → present_bytes (get_or sizes k 0) ≤ i →
      i < pages_of p (get_or sizes k 0) * p → f (through p (λ j. data_page p (pages_up_to p sizes k + j)) i) ≡ 0
  pub directory_rest : (i : ℕ) → directory_size p sizes ≤ i → i < directory_pages p sizes * p →
      f (through p (λ j. data_page p (stream_pages p sizes + j)) i) ≡ 0
  pub location_rest : (i : ℕ) → 4 * directory_pages p sizes ≤ i → i < p → f (location_page p sizes * p + i) ≡ 0
  pub padding_page : (n x : ℕ) → Has p sizes padding n → x < p → f (n * p + x) ≡ 0

pub record Zeros : Type 0 where
  pub unused : (f : File) (len p : ℕ) (sizes bytes : List ℕ) → Accepted p sizes (length bytes) →
      Holds f len p sizes bytes → Unused f p sizes

-- ---- demand 3's fellow
-- two inputs agree on the bytes given for stream k
abbrev pub SameFor : List ℕ → ℕ → List ℕ → List ℕ → Type 0
SameFor sizes k a b = (i : ℕ) → i < present_bytes (get_or sizes k 0) →
    byte_at a (bytes_up_to sizes k + i) ≡ byte_at b (bytes_up_to sizes k + i)

-- the bytes in stream k's pages depend on the input's own bytes for k alone, and those in the pages of no stream on no
-- byte of it
pub record OwnBytes : Type 0 where
  pub own : (p : ℕ) (sizes : List ℕ) (given : ℕ) → Accepted p sizes given → (a b : List ℕ) (k : ℕ) →
      SameFor sizes k a b → (n x : ℕ) → OfStream p sizes k n → x < p →
      container p sizes a (n * p + x) ≡ container p sizes b (n * p + x)
  pub other : (p : ℕ) (sizes : List ℕ) (given : ℕ) → Accepted p sizes given → (a b : List ℕ) (n x : ℕ) →
      ((k : ℕ) → OfStream p sizes k n → ⊥) → x < p →
      container p sizes a (n * p + x) ≡ container p sizes b (n * p + x)
