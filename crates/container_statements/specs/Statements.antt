-- What holds of the container's operations beyond their promises. proofs/ has a proof of each record.
use Rattle.std.specs.Prelude.{◌≡◌, List, ℕ, ◌+◌, ◌*◌, ◌/◌, ◌%◌, min, ◌≤◌, ◌<◌, length, get_or, Option, option_map, IfSome, Result, Ok}
use Rattle.std.specs.Borrow.{Bor}
use Rattle.outcome.specs.Only.{Only, Only₂, Only₃, Injective}
use Rattle.parse_buffer.specs.Bytes.{File}
use Rattle.parse_buffer.specs.Parse as parse
use Rattle.parse_buffer.specs.Parse.{Parsing, InPlace, Taking, PartAt}
use Rattle.parse_buffer.specs.declared.Word.{Word}
use Rattle.paged.specs.Refusal.{refusal_in, told}
use Rattle.paged.specs.declared.refusal.Refusal.{Refusal}
use Rattle.paged.specs.PageSize.{PageSize, need}
use Rattle.paged.specs.Pages.{directory_word}
use Rattle.header.specs.Inner.{Heading, Locating}
use Rattle.header.specs.Promises.{Opening}
use Rattle.header.specs.declared.Container.{Container}
use Rattle.header.specs.declared.Header.{Header}
use Rattle.directory.specs.Inner.{Reaching}
use Rattle.directory.specs.Promises.{Counting}
use Rattle.stream.specs.Inner.{Finding}
use Rattle.extent.specs.Inner.{Measuring, Reading}
use Rattle.mapping.specs.Inner.{Judging}
use Rattle.stream.specs.Stream.{absent, size_at, pages_of, first_of, own_page, own_pages, found}
use Rattle.stream.specs.declared.Found.{Found}
use Rattle.stream.specs.declared.Present.{Present}
use Rattle.slices.specs.Slices.{Full, total, place_of}
use Rattle.slices.specs.declared.SourceSlice.{SourceSlice}
use Rattle.extent.specs.Extent.{length_of, Asked}
use Rattle.mapping.specs.Mapping.{slices_in, mapping}
use Rattle.msf.specs.Promises.{Maps, Extracts}
use Rattle.extent.specs.declared.Extent.{Extent}
use Rattle.mapping.specs.declared.Mapped.{Mapped}
use Rattle.slice_store.specs.Promises.{MapsInto}

-- what an answer says on paper tells it from every other answer: those of the operations, and of the stages
pub record Told : Type 0 where
  pub refusal : Injective refusal_in
  pub parsed : Injective (parse.told {A = Word})
  pub opened : Injective (told {A = Container})
  pub counted : Injective (told {A = ℕ})
  pub mapped : Injective (told {A = Mapped})
  pub extracted : Injective (told {A = ℕ})
  pub checked : Injective (told {A = Unit {0}})
  pub headed : Injective (told {A = Header})
  pub presence : Injective (told {A = Present})
  pub sought : Injective (told {A = Found})
  pub measured : Injective (told {A = Extent})

-- no second answer, and no other store, satisfies a promise
pub record SingleValued : Type 0 where
  pub of_parse_u32 : (s : List ℕ) (at : ℕ) → Only (Parsing s at)
  -- the same bytes at the same place of memory
  pub take : (s : Bor (List ℕ)) (at n : ℕ) (a b : Bor (List ℕ)) → Taking s at n a → Taking s at n b →
      (a.now ≡ b.now) × InPlace a 0 b
  pub part_at : (s : Bor (List ℕ)) (at n : ℕ) (a b : Option (Bor (List ℕ))) → PartAt s at n a → PartAt s at n b →
      (option_map (λ p. p.now) a ≡ option_map (λ p. p.now) b) × IfSome a (λ p. IfSome b (InPlace p 0))
  pub opening : (f : File) (len : ℕ) → Only (Opening f len)
  pub of_stream_count : (f : File) (len : ℕ) → Only (Counting f len)
  pub map : (f : File) (len k : ℕ) (limit : Option ℕ) (offsets sizes : List ℕ) →
      Only₃ (Maps f len k limit offsets sizes)
  pub extract : (f : File) (len k : ℕ) (limit : Option ℕ) (out : List ℕ) → Only₂ (Extracts f len k limit out)
  pub map_into : (f : File) (len k : ℕ) (limit : Option ℕ) (store : List SourceSlice) →
      Only₂ (MapsInto f len k limit store)
  -- the stages
  pub parse : (f : File) (len : ℕ) → Only (Heading f len)
  pub locate : (f : File) (len : ℕ) → Only (Locating f len)
  pub reach : (f : File) (len : ℕ) → Only (Reaching f len)
  pub find : (f : File) (len k : ℕ) → Only (Finding f len k)
  pub measure : (f : File) (len k : ℕ) (limit : Option ℕ) → Only (Measuring f len k limit)
  pub readable : (f : File) (len k : ℕ) (limit : Option ℕ) → Only (Reading f len k limit)
  pub judge : (f : File) (len k : ℕ) (limit : Option ℕ) (room : ℕ) → Only (Judging f len k limit room)

-- where byte i of a stream stands in the file: page (i / P) * P + i mod P, where `page` is the stream's own entries in
-- the directory
abbrev pub byte_place : File → Found → ℕ → ℕ
byte_place f x i = own_page f x (i / x.header.pagesize) * x.header.pagesize + i % x.header.pagesize

-- demand 2: an accepted extraction of length n is of a stream found as stream k. Byte i of the store is the stream's
-- byte i, which is in the file, and past n nothing changed
pub record ExtractedFrom (f : File) (len k : ℕ) (limit : Option ℕ) (out out' : List ℕ) (n : ℕ) : Type 0 where
  pub stream : Found
  pub is : found f len k ≡ Ok stream
  pub size : n ≡ length_of limit stream.size
  pub byte : (i : ℕ) → i < n → get_or out' i 0 ≡ f (byte_place f stream i)
  pub inside : (i : ℕ) → i < n → byte_place f stream i < len
  pub beyond : (i : ℕ) → n ≤ i → get_or out' i 0 ≡ get_or out i 0

pub record TheByte : Type 0 where
  pub is : (f : File) (len k : ℕ) (limit : Option ℕ) (out : List ℕ) (r : Result ℕ Refusal) (out' : List ℕ) →
      Extracts f len k limit out r out' → (n : ℕ) → r ≡ Ok n → ExtractedFrom f len k limit out out' n

-- the slices of an accepted mapping: none is empty, they have the answered length, and laid end to end they name the
-- stream's bytes in their order
pub record SlicesOf (f : File) (x : Asked) : Type 0 where
  pub full : Full (slices_in f x)
  pub size : total (slices_in f x) ≡ x.length
  pub place : (i : ℕ) → i < x.length → place_of (slices_in f x) i ≡ byte_place f x.found i

pub record TheSlices : Type 0 where
  pub is : (f : File) (len k : ℕ) (limit : Option ℕ) (room : ℕ) {x : Asked} → mapping f len k limit room ≡ Ok x →
      SlicesOf f x

-- the two forms of a mapping, two number stores and one slice store: with room for as many slices there is one answer,
-- and if it is a mapping, entry i of the slice store is entry i of the number stores
abbrev pub none : SourceSlice
none = record { offset = 0; size = 0 }

pub record SameEntriesAs (m : Mapped) (offsets sizes : List ℕ) (store : List SourceSlice) : Type 0 where
  pub offset : (i : ℕ) → i < m.slices → (get_or store i none).offset ≡ get_or offsets i 0
  pub size : (i : ℕ) → i < m.slices → (get_or store i none).size ≡ get_or sizes i 0

pub record AnsweredAlike (r r' : Result Mapped Refusal) (offsets sizes : List ℕ)
    (store : List SourceSlice) : Type 0 where
  pub answer : r ≡ r'
  pub entries : (m : Mapped) → r ≡ Ok m → SameEntriesAs m offsets sizes store

pub record BothForms : Type 0 where
  pub alike : (f : File) (len k : ℕ) (limit : Option ℕ) (offsets sizes : List ℕ) (store : List SourceSlice) →
      length store ≡ min (length offsets) (length sizes) →
      (r r' : Result Mapped Refusal) (o t : List ℕ) (s : List SourceSlice) →
      Maps f len k limit offsets sizes r o t → MapsInto f len k limit store r' s → AnsweredAlike r r' o t s

-- need(b) is the least number of pages that hold b bytes; no word crosses a page
pub record PagesNeeded : Type 0 where
  pub enough : (p b : ℕ) → 0 < p → b ≤ need p b * p
  pub least : (p b n : ℕ) → 0 < p → b ≤ n * p → need p b ≤ n
  pub word : (p i : ℕ) → PageSize p → 4 * i % p + 4 ≤ p

-- a stream that is found as stream k has the entries of its number
pub record EntriesOf (f : File) (k : ℕ) (x : Found) : Type 0 where
  pub first : x.first ≡ first_of f x.header.pagesize (directory_word f x.header.pagesize 0) k
  pub pages : own_pages x ≡ pages_of x.header.pagesize (size_at f x.header.pagesize k)

-- each stream's own: the entry ranges follow the sizes in stream order, and those of two streams are disjoint. Absent
-- sizes take no pages; a size of 0 is present and empty
pub record Own : Type 0 where
  pub follows : (f : File) (p count k : ℕ) →
      first_of f p count (k + 1) ≡ first_of f p count k + pages_of p (size_at f p k)
  pub disjoint : (f : File) (p count j k : ℕ) → j < k →
      first_of f p count j + pages_of p (size_at f p j) ≤ first_of f p count k
  pub none : (p : ℕ) → pages_of p absent ≡ 0
  pub empty : (p : ℕ) → PageSize p → pages_of p 0 ≡ 0
  pub found : (f : File) (len k : ℕ) {x : Found} → found f len k ≡ Ok x → EntriesOf f k x
