-- Document 01, "Bytes that stream k depends on", in its words and its order. Four lists, each with the one before: what
-- opening reads, the stream count, the mapping of stream k, and its extraction. (The file's length is beside them all.)
use Rattle.std.specs.Prelude.{◌≡◌, true, false, List, ◌∷◌, ℕ, ◌+◌, ◌*◌, min, ◌≤◌, ◌<◌, Result, Ok, Option}
use Rattle.outcome.specs.Refusal as paper
use Rattle.parse_buffer.specs.Bytes.{File}
use Rattle.paged.specs.Pages.{through, first_entry, location, directory_page, directory_word}
use Rattle.paged.specs.Checks.{lies_in_file}
use Rattle.header.specs.Header.{big_magic, stands_at, entries_in_block, directory_pages, location_pages, headed, located}
use Rattle.header.specs.declared.Header.{Header}
use Rattle.directory.specs.Directory.{holds, reached}
use Rattle.stream.specs.Stream.{own_pages, skipped_to}
use Rattle.stream.specs.declared.Found.{Found}
use Rattle.slices.specs.declared.SourceSlice.{SourceSlice}
use Rattle.extent.specs.Extent.{Asked, readable}
use Rattle.mapping.specs.Mapping.{slices_in}

-- i is one of the four bytes of the word at a place
abbrev pub InWord : ℕ → ℕ → Type 0
InWord at i = (at ≤ i) × (i < at + 4)

-- where entry j of the location list stands, and word w of the directory
abbrev pub entry_place : File → Header → ℕ → ℕ
entry_place f h j = through h.pagesize (location f) (4 * j)

abbrev pub word_place : File → Header → ℕ → ℕ
word_place f h w = through h.pagesize (directory_page f h.pagesize) (4 * w)

-- whether the location list lies in the file (refusal 6)
abbrev pub list_lies : File → ℕ → Header → Result (Unit {0}) paper.Refusal
list_lies f len h = lies_in_file len h.pagesize (location f) (4 * directory_pages h) (location_pages h)

-- i is a place that one of the slices names
pub data Named : List SourceSlice → ℕ → Type 0 where
  here : {i : ℕ} {s : SourceSlice} {rest : List SourceSlice} → s.offset ≤ i → i < s.offset + s.size →
      Named (s ∷ rest) i
  there : {i : ℕ} {s : SourceSlice} {rest : List SourceSlice} → Named rest i → Named (s ∷ rest) i

-- opening
pub data ListedOpen (f : File) (len : ℕ) : ℕ → Type 0 where
  -- bytes 0 to 35 and 40 to 47
  start : {i : ℕ} → i < 36 → ListedOpen f len i
  fields : {i : ℕ} → 40 ≤ i → i < 48 → ListedOpen f len i
  -- and 36 to 39 too where bytes 0 to 31 are not the big magic
  small : {i : ℕ} → stands_at f 0 big_magic ≡ false → 36 ≤ i → i < 40 → ListedOpen f len i
  -- the location entries in the header block, if the page size passes
  locations : {i j : ℕ} {h : Header} → headed f len ≡ Ok h → j < min (location_pages h) entries_in_block →
      InWord (first_entry + 4 * j) i → ListedOpen f len i

-- the stream count
pub data ListedCount (f : File) (len : ℕ) : ℕ → Type 0 where
  opening : {i : ℕ} → ListedOpen f len i → ListedCount f len i
  -- then, if that stage is reached (and the list lies in the file), the location list
  list : {i j : ℕ} {h : Header} → located f len ≡ Ok h → list_lies f len h ≡ Ok tt → j < directory_pages h →
      InWord (entry_place f h j) i → ListedCount f len i
  -- of the directory the count, if it holds it
  count : {i : ℕ} {h : Header} → reached f len ≡ Ok h → holds h 1 ≡ true →
      InWord (word_place f h 0) i → ListedCount f len i

-- mapping stream k
pub data ListedMap (f : File) (len k : ℕ) : ℕ → Type 0 where
  counting : {i : ℕ} → ListedCount f len i → ListedMap f len k i
  -- sizes 0 to k (as many as it holds; only the count if k is not below it)
  sizes : {i j : ℕ} {h : Header} → reached f len ≡ Ok h → k < directory_word f h.pagesize 0 → j ≤ k →
      holds h (2 + j) ≡ true → InWord (word_place f h (1 + j)) i → ListedMap f len k i
  -- and k's own page entries as many as it holds
  pages : {i j : ℕ} {x : Found} → skipped_to f len k ≡ Ok x → j < own_pages x →
      holds x.header (x.first + j + 1) ≡ true → InWord (word_place f x.header (x.first + j)) i →
      ListedMap f len k i

-- extracting it
pub data ListedBytes (f : File) (len k : ℕ) (limit : Option ℕ) : ℕ → Type 0 where
  mapping : {i : ℕ} → ListedMap f len k i → ListedBytes f len k limit i
  -- file bytes named by the cut slices, if all lie in the file
  bytes : {i : ℕ} {x : Asked} → readable f len k limit ≡ Ok x → Named (slices_in f x) i → ListedBytes f len k limit i

-- two files agree on a list of bytes
abbrev pub Agree : (ℕ → Type 0) → File → File → Type 0
Agree Bytes f g = (i : ℕ) → Bytes i → f i ≡ g i
