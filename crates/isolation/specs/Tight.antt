-- The list is tight: for each item two files that differ in one byte of that item alone, and are answered differently.
-- proofs/Tight.antt proves it by computation. Beside it, on file F, all that is listed, and so what is not.
use Rattle.std.specs.Prelude.{◌≡◌, cond, ◌⊎◌, List, [], ◌∷◌, ℕ, ◌+◌, ◌-◌, ◌*◌, ◌/◌, min, ◌≤◌, ◌<◌, eqb, Result, Ok, Err, None, Option, Some}
use Rattle.outcome.specs.Outcome.{◌>>=◌}
use Rattle.outcome.specs.Refusal as paper
use Rattle.parse_buffer.specs.Bytes.{File, byte_at}
use Rattle.header.specs.Header.{small_magic, opening}
use Rattle.header.specs.declared.Container.{Container}
use Rattle.directory.specs.Directory.{stream_count}
use Rattle.extent.specs.Extent.{length_of}
use Rattle.msf.specs.Extraction.{bytes_in, extraction}
use Rattle.container_statements.specs.FileF.{F}
use Rattle.container_statements.specs.Cases.{Answer, mapping_of, at}
use Rattle.isolation.specs.Listed.{ListedBytes}

-- a file with another byte at one place
abbrev pub changed : File → ℕ → ℕ → File
changed f place b i = cond (eqb i place) b (f i)

-- a file that begins with the small magic
abbrev pub small : File
small = byte_at small_magic

abbrev refusal : {A : Type 0} → ℕ → ℕ → Result A paper.Refusal
refusal number value = Err (record { number = number; value = value })

-- the first byte of stream 2
unfoldable pub first_byte : File → Result (List ℕ) paper.Refusal
first_byte f = do
  x ← extraction f 6144 2 (Some 1) 1
  Ok (bytes_in f x)

-- what opening F answers, and mapping its stream 2
abbrev opened_f : Result Container paper.Refusal
opened_f = Ok (record { pagesize = 256; used = 24 })

abbrev two_f : Result Answer paper.Refusal
two_f = Ok (record { slices = at 2560 512 ∷ at 1280 88 ∷ []; size = 600 })

-- with page 9 for page 10
abbrev two_changed : Result Answer paper.Refusal
two_changed = Ok (record { slices = at 2304 256 ∷ at 2816 256 ∷ at 1280 88 ∷ []; size = 600 })

-- each item: the answer of the file, and of the file changed
pub record Tight : Type 0 where
  pub start : (opening F 6144 ≡ opened_f) × (opening (changed F 0 0) 6144 ≡ refusal 1 0)
  pub fields : (opening F 6144 ≡ opened_f) × (opening (changed F 40 2) 6144 ≡ refusal 4 3)
  pub small : (opening small 6144 ≡ refusal 2 0) × (opening (changed small 36 0) 6144 ≡ refusal 1 0)
  pub locations : (opening F 6144 ≡ opened_f) × (opening (changed F 52 25) 6144 ≡ refusal 4 25)
  pub list : (stream_count F 6144 ≡ Ok 3) × (stream_count (changed F 768 0) 6144 ≡ refusal 4 0)
  pub count : (stream_count F 6144 ≡ Ok 3) × (stream_count (changed F 1024 2) 6144 ≡ Ok 2)
  -- size 0, for stream 2: with 556 bytes it has a page more, and stream 2's entries begin one later
  pub sizes : (mapping_of F 2 ≡ two_f) × (mapping_of (changed F 1029 2) 2 ≡ refusal 7 0)
  pub pages : (mapping_of F 2 ≡ two_f) × (mapping_of (changed F 1048 9) 2 ≡ two_changed)
  pub bytes : (first_byte F ≡ Ok (0 ∷ [])) × (first_byte (changed F 2560 7) ≡ Ok (7 ∷ []))

-- i is in one of these ranges; each has its first byte and the one after its last
abbrev pub Within : List (ℕ × ℕ) → ℕ → Type 0
Within [] i = ⊥
Within (range ∷ rest) i = ((range.0 ≤ i) × (i < range.1)) ⊎ Within rest i

-- of F, for every stream: bytes 0 to 35 and 40 to 47, one location entry, and the location list
abbrev pub start_f : List (ℕ × ℕ)
start_f = (0, 36) ∷ (40, 48) ∷ (52, 56) ∷ (768, 772) ∷ []

-- besides these, what is listed for stream k of F lies in the ranges given
abbrev pub OnlyIn : ℕ → Option ℕ → List (ℕ × ℕ) → Type 0
OnlyIn k limit ranges = (i : ℕ) → ListedBytes F 6144 k limit i → Within start_f i ⊎ Within ranges i

-- streams 0 and 2, where n bytes are asked for: the count and the sizes up to its own; its entries; n bytes of its
-- pages, which are 20 and 21, and 10, 11 and 5
abbrev pub stream_zero : ℕ → List (ℕ × ℕ)
stream_zero n = (1024, 1032) ∷ (1040, 1048) ∷ (5120, 5120 + n) ∷ []

abbrev pub stream_two : ℕ → List (ℕ × ℕ)
stream_two n = (1024, 1040) ∷ (1048, 1060) ∷ (2560, 2560 + min 512 n) ∷ (1280, 1280 + (n - 512)) ∷ []

-- F with directory_size 0
abbrev pub empty_f : File
empty_f = changed F 44 0

-- byte i is not listed for stream k of file F
abbrev pub NotListed : File → ℕ → ℕ → Type 0
NotListed f k i = (limit : Option ℕ) → ListedBytes f 6144 k limit i → ⊥

pub record NotTooMuch : Type 0 where
  -- all that is listed on F, whatever the limit
  pub stream_0 : (limit : Option ℕ) → OnlyIn 0 limit (stream_zero (length_of limit 300))
  pub stream_2 : (limit : Option ℕ) → OnlyIn 2 limit (stream_two (length_of limit 600))
  -- of stream 1, which is absent, the count and sizes 0 and 1
  pub stream_1 : (limit : Option ℕ) → OnlyIn 1 limit ((1024, 1036) ∷ [])
  -- "only the count if k is not below it"
  pub not_below : (k : ℕ) (limit : Option ℕ) → 3 ≤ k → OnlyIn k limit ((1024, 1028) ∷ [])
  -- "as many as it holds": with a directory of n bytes nothing of page 4 past its whole words, for every stream
  pub not_held : (n k i : ℕ) → n ≤ 36 → 1024 + 4 * (n / 4) ≤ i → i < 1280 → NotListed (changed F 44 n) k i
  -- so, item by item: free_page_map and reserved, for every stream
  pub free_page_map : (k i : ℕ) → 36 ≤ i → i < 40 → NotListed F k i
  pub reserved : (k i : ℕ) → 48 ≤ i → i < 52 → NotListed F k i
  -- sizes after k: those of streams 1 and 2, for stream 0
  pub sizes_after : (i : ℕ) → 1032 ≤ i → i < 1040 → NotListed F 0 i
  -- another stream's page entries: stream 0's for stream 2, stream 2's for stream 0
  pub entries_of_0 : (i : ℕ) → 1040 ≤ i → i < 1048 → NotListed F 2 i
  pub entries_of_2 : (i : ℕ) → 1048 ≤ i → i < 1060 → NotListed F 0 i
  -- another stream's pages: stream 0's, 20 and 21, for stream 2
  pub pages_of_0 : (i : ℕ) → 5120 ≤ i → i < 5632 → NotListed F 2 i
  -- what stream 2 leaves of its last page; and, with limit 513, what is past the cut
  pub slack : (i : ℕ) → 1368 ≤ i → i < 1536 → ListedBytes F 6144 2 None i → ⊥
  pub past_the_cut : (i : ℕ) → 1281 ≤ i → i < 1536 → ListedBytes F 6144 2 (Some 513) i → ⊥
  -- at directory_size 0 nothing of page 4, for every stream
  pub page_four : (k i : ℕ) → 1024 ≤ i → i < 1280 → NotListed empty_f k i
