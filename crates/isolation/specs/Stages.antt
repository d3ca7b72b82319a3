-- Document 01, "Bytes that stream k depends on": the location entries "in the header block, if the page size passes",
-- the rest "if that stage is reached", and stream bytes "if all lie in the file". A stage that refuses keeps off the
-- list all that later stages read, whatever the file, the stream and the limit.
use Rattle.std.specs.Prelude.{◌≡◌, ◌⊎◌, ℕ, ◌<◌, Ok, Err, Option}
use Rattle.outcome.specs.Refusal as paper
use Rattle.parse_buffer.specs.Bytes.{File}
use Rattle.header.specs.Header.{header_block, directory_pages, headed, located}
use Rattle.header.specs.declared.Header.{Header}
use Rattle.directory.specs.Directory.{reached}
use Rattle.extent.specs.Extent.{readable}
use Rattle.isolation.specs.Listed.{InWord, entry_place, list_lies, ListedOpen, ListedMap, ListedBytes}

-- i is a byte of the location list
pub record OnList (f : File) (len i : ℕ) : Type 0 where
  pub header : Header
  pub is : located f len ≡ Ok header
  pub entry : ℕ
  pub below : entry < directory_pages header
  pub inside : InWord (entry_place f header entry) i

pub record Stages (f : File) (len k : ℕ) (limit : Option ℕ) (i : ℕ) : Type 0 where
  -- opening reads the header block alone, and of that no location entry if the page size does not pass
  pub block : ListedOpen f len i → i < header_block
  pub header_refused : {why : paper.Refusal} → headed f len ≡ Err why → ListedBytes f len k limit i → i < 48
  -- a location entry is refused, or the location list is not all in the file
  pub location_refused : {why : paper.Refusal} → located f len ≡ Err why →
      ListedBytes f len k limit i → ListedOpen f len i
  pub list_ends : {h : Header} {why : paper.Refusal} → located f len ≡ Ok h →
      list_lies f len h ≡ Err why →
      ListedBytes f len k limit i → ListedOpen f len i
  -- a page of the directory is refused, or the directory is not all in the file
  pub directory_refused : {why : paper.Refusal} → reached f len ≡ Err why →
      ListedBytes f len k limit i → ListedOpen f len i ⊎ OnList f len i
  -- the mapping is refused, or the bytes that are asked for are not all in the file
  pub bytes_refused : {why : paper.Refusal} → readable f len k limit ≡ Err why →
      ListedBytes f len k limit i → ListedMap f len k i
