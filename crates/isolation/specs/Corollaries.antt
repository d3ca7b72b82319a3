-- What a reader wants of demand 3, a line each.
use Rattle.std.specs.Prelude.{◌≡◌, true, List, ℕ, ◌+◌, ◌*◌, min, ◌≤◌, ◌<◌, Ok, Option}
use Rattle.parse_buffer.specs.Bytes.{File}
use Rattle.paged.specs.Pages.{first_entry, location, directory_page}
use Rattle.header.specs.Header.{big_magic, stands_at, entries_in_block, directory_pages, location_pages, headed, located}
use Rattle.header.specs.Promises.{Opening}
use Rattle.header.specs.declared.Header.{Header}
use Rattle.directory.specs.Directory.{reached}
use Rattle.directory.specs.Promises.{Counting}
use Rattle.stream.specs.Stream.{own_page, own_pages, found}
use Rattle.stream.specs.declared.Found.{Found}
use Rattle.slices.specs.declared.SourceSlice.{SourceSlice}
use Rattle.msf.specs.Promises.{Maps, Extracts}
use Rattle.slice_store.specs.Promises.{MapsInto}
use Rattle.isolation.specs.Listed.{ListedOpen, ListedMap, ListedBytes}
use Rattle.isolation.specs.NamedExactly.{InPages}
use Rattle.isolation.specs.Isolation.{Equal, Equal₂, Equal₃}

-- no operation tells the files apart when asked for stream k
pub record Alike (f g : File) (len k : ℕ) (limit : Option ℕ) : Type 0 where
  pub opening : Equal (Opening f len) (Opening g len)
  pub of_stream_count : Equal (Counting f len) (Counting g len)
  pub map : (offsets sizes : List ℕ) →
      Equal₃ (Maps f len k limit offsets sizes) (Maps g len k limit offsets sizes)
  pub extract : (out : List ℕ) → Equal₂ (Extracts f len k limit out) (Extracts g len k limit out)
  pub map_into : (store : List SourceSlice) → Equal₂ (MapsInto f len k limit store) (MapsInto g len k limit store)

-- the files differ at places of this kind alone
abbrev pub DifferOnlyAt : (ℕ → Type 0) → File → File → Type 0
DifferOnlyAt Place f g = (i : ℕ) → (Place i → ⊥) → f i ≡ g i

-- byte i is past the location entries, and in no page of the location list or of the directory. The pages of a stage
-- count only if it is reached
pub record OffTheLists (f : File) (len : ℕ) (h : Header) (i : ℕ) : Type 0 where
  pub past_entries : first_entry + 4 * min (location_pages h) entries_in_block ≤ i
  pub no_list : located f len ≡ Ok h → InPages h.pagesize (location f) (location_pages h) i → ⊥
  pub no_directory : reached f len ≡ Ok h →
      InPages h.pagesize (directory_page f h.pagesize) (directory_pages h) i → ⊥

-- and in no page of stream k
pub record Elsewhere (f : File) (len k : ℕ) (h : Header) (i : ℕ) : Type 0 where
  pub off_the_lists : OffTheLists f len h i
  pub no_own : {x : Found} → found f len k ≡ Ok x → InPages x.header.pagesize (own_page f x) (own_pages x) i → ⊥

pub record Corollaries (f g : File) (len k : ℕ) (limit : Option ℕ) : Type 0 where
  -- changing any byte that is not listed for k changes nothing for k
  pub unlisted : (at : ℕ) → (ListedBytes f len k limit at → ⊥) → DifferOnlyAt (λ i. i ≡ at) f g → Alike f g len k limit
  -- where the page size passes: a byte that is off the lists is not listed for mapping k, whatever k is. (Page 0 is no
  -- page of a list, so nothing is asked of its bytes past the location entries)
  pub off_the_lists : {h : Header} → headed f len ≡ Ok h → (i : ℕ) → OffTheLists f len h i → ListedMap f len k i → ⊥
  -- one that is not in k's own pages either is not listed for k at all; so changing any such bytes, those of another
  -- stream's pages among them, changes nothing for k
  pub elsewhere : {h : Header} → headed f len ≡ Ok h → (i : ℕ) → Elsewhere f len k h i → ListedBytes f len k limit i → ⊥
  pub other_stream : {h : Header} → headed f len ≡ Ok h → DifferOnlyAt (Elsewhere f len k h) f g → Alike f g len k limit
  -- page 0 holds nothing but the header: of its bytes only those that opening reads are listed
  pub page_zero : {h : Header} → headed f len ≡ Ok h → (i : ℕ) → i < h.pagesize →
      ListedBytes f len k limit i → ListedOpen f len i
  -- under the big magic, changing free_page_map changes nothing; nor does changing reserved, under any
  pub free_page_map : stands_at f 0 big_magic ≡ true → DifferOnlyAt (λ i. (36 ≤ i) × (i < 40)) f g →
      Alike f g len k limit
  pub reserved : DifferOnlyAt (λ i. (48 ≤ i) × (i < 52)) f g → Alike f g len k limit
