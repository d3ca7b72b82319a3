-- Whoever has read the header block and the parts has read all that mapping reads, and need not have the file's
-- length. Two files of any lengths that agree there, and are long enough to hold it, are mapped alike.
use Rattle.std.specs.Prelude.{List, ◌≡◌, ℕ, ◌≤◌, ◌<◌, Ok, Option}
use Rattle.parse_buffer.specs.Bytes.{File}
use Rattle.header.specs.Header.{header_block}
use Rattle.header.specs.Promises.{Opening}
use Rattle.header.specs.declared.Header.{Header}
use Rattle.directory.specs.Promises.{Counting}
use Rattle.slices.specs.declared.SourceSlice.{SourceSlice}
use Rattle.msf.specs.Promises.{Maps}
use Rattle.slice_store.specs.Promises.{MapsInto}
use Rattle.needed.specs.Needed.{placed, slices_at}
use Rattle.needed.specs.Promises.{Needs}
use Rattle.needed.specs.declared.Stage.{Stage}
use Rattle.isolation.specs.Listed.{Named, ListedOpen, ListedCount, ListedMap, Agree}
use Rattle.isolation.specs.Isolation.{Equal, Equal₂, Equal₃}
use Rattle.isolation.specs.Boundary.{counts, maps}
use Rattle.needed_statements.specs.Isolation.{ListedStage, needs}

-- a length that holds the header block, the location list and the directory, each if its stage is reached
pub record Holds (f : File) (len : ℕ) : Type 0 where
  pub block : header_block ≤ len
  pub parts : (stage : Stage) {h : Header} → placed f len stage ≡ Ok h →
      (i : ℕ) → Named (slices_at f stage h) i → i < len

-- the lengths are not told apart: the operations, and the functions that Rust and C call
pub record Prefix (f g : File) (len len' : ℕ) : Type 0 where
  pub opening : Agree (ListedOpen f len) f g → Equal (Opening f len) (Opening g len')
  pub needed_to_map : (stage : Stage) (offsets sizes : List ℕ) → Agree (ListedStage f len stage) f g →
      Equal₃ (Needs f len stage offsets sizes) (Needs g len' stage offsets sizes)
  pub of_stream_count : Agree (ListedCount f len) f g → Equal (Counting f len) (Counting g len')
  pub map : (k : ℕ) (limit : Option ℕ) (offsets sizes : List ℕ) → Agree (ListedMap f len k) f g →
      Equal₃ (Maps f len k limit offsets sizes) (Maps g len' k limit offsets sizes)
  pub map_into : (k : ℕ) (limit : Option ℕ) (store : List SourceSlice) → Agree (ListedMap f len k) f g →
      Equal₂ (MapsInto f len k limit store) (MapsInto g len' k limit store)
  pub needed_to_map_boundary : (stage : Stage) (offsets sizes : List ℕ) → Agree (ListedStage f len stage) f g →
      Equal (needs f len stage offsets sizes) (needs g len' stage offsets sizes)
  pub stream_count_boundary : Agree (ListedCount f len) f g → Equal (counts f len) (counts g len')
  pub map_boundary : (k : ℕ) (limit : Option ℕ) (offsets sizes : List ℕ) → Agree (ListedMap f len k) f g →
      Equal (maps f len k limit offsets sizes) (maps g len' k limit offsets sizes)

-- i is in the header block, or a slice of a part names it
pub data Read (f : File) (len : ℕ) : ℕ → Type 0 where
  block : {i : ℕ} → i < header_block → Read f len i
  part : {i : ℕ} (stage : Stage) {h : Header} → placed f len stage ≡ Ok h → Named (slices_at f stage h) i → Read f len i

-- all that mapping reads is among it, whatever the stream
pub record Covers (f : File) (len k : ℕ) : Type 0 where
  pub is : (i : ℕ) → ListedMap f len k i → Read f len i

-- so two files that agree there are mapped alike
pub record LaidOut (f g : File) (len len' : ℕ) : Type 0 where
  pub of_stream_count : Agree (Read f len) f g → Equal (counts f len) (counts g len')
  pub map : Agree (Read f len) f g → (k : ℕ) (limit : Option ℕ) (offsets sizes : List ℕ) →
      Equal (maps f len k limit offsets sizes) (maps g len' k limit offsets sizes)
