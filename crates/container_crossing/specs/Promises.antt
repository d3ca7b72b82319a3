-- The promises of the functions on a container: each number that crosses, and each lent store at exit. Where a refusal
-- has nothing to say, the number is 0.
use Rattle.std.specs.Prelude.{◌≡◌, List, map, ℕ, min, length, Option, Result}
use Rattle.outcome.specs.Refusal as paper
use Rattle.outcome.specs.Store.{written}
use Rattle.parse_buffer.specs.Bytes.{File}
use Rattle.header.specs.Header.{opening}
use Rattle.header.specs.declared.Container.{Container}
use Rattle.header.specs.declared.Header.{Header}
use Rattle.directory.specs.Directory.{stream_count}
use Rattle.slices.specs.declared.SourceSlice.{SourceSlice}
use Rattle.extent.specs.Extent.{Asked}
use Rattle.mapping.specs.Mapping.{slices_in, mapping, mapped}
use Rattle.mapping.specs.declared.Mapped.{Mapped}
use Rattle.msf.specs.Extraction.{bytes_in, extraction, length_in}
use Rattle.needed.specs.Needed.{slices_at, needing, needed}
use Rattle.needed.specs.declared.Stage.{Stage}
use Rattle.crossing.specs.Crossing.{told, Tells}

pub record Opens (f : File) (len r value used : ℕ) : Type 0 where
  pub answer : Tells (opening f len) (λ (c : Container). c.pagesize) r value
  pub used_told : used ≡ told (λ (c : Container). c.used) (λ _. 0) (opening f len)

pub record Counts (f : File) (len r value : ℕ) : Type 0 where
  pub answer : Tells (stream_count f len) (λ n. n) r value

-- the number of slices, and that of their bytes
pub record TellsMapping (o : Result Mapped paper.Refusal) (r value total : ℕ) : Type 0 where
  pub answer : Tells o (λ (m : Mapped). m.slices) r value
  pub length_told : total ≡ told (λ (m : Mapped). m.length) (λ _. 0) o

-- (o is what mapping answers)
pub record MapsOf (f : File) (o : Result Asked paper.Refusal) (offsets sizes : List ℕ)
    (r value total : ℕ) (offsets' sizes' : List ℕ) : Type 0 where
  pub tells : TellsMapping (mapped f o) r value total
  pub offsets_after : offsets' ≡ written o (λ x. map (λ (s : SourceSlice). s.offset) (slices_in f x)) offsets
  pub sizes_after : sizes' ≡ written o (λ x. map (λ (s : SourceSlice). s.size) (slices_in f x)) sizes

abbrev pub Maps : File → ℕ → ℕ → Option ℕ → List ℕ → List ℕ → ℕ → ℕ → ℕ → List ℕ → List ℕ → Type 0
Maps f len k limit offsets sizes =
    MapsOf f (mapping f len k limit (min (length offsets) (length sizes))) offsets sizes

-- (o is what the stage answers)
pub record NeedsOf (f : File) (stage : Stage) (o : Result Header paper.Refusal) (offsets sizes : List ℕ)
    (r value total : ℕ) (offsets' sizes' : List ℕ) : Type 0 where
  pub tells : TellsMapping (needed f stage o) r value total
  pub offsets_after : offsets' ≡ written o (λ h. map (λ (s : SourceSlice). s.offset) (slices_at f stage h)) offsets
  pub sizes_after : sizes' ≡ written o (λ h. map (λ (s : SourceSlice). s.size) (slices_at f stage h)) sizes

abbrev pub Needs : File → ℕ → Stage → List ℕ → List ℕ → ℕ → ℕ → ℕ → List ℕ → List ℕ → Type 0
Needs f len stage offsets sizes =
    NeedsOf f stage (needing f len stage (min (length offsets) (length sizes))) offsets sizes

pub record Extracts (f : File) (len k : ℕ) (limit : Option ℕ) (out : List ℕ) (r value : ℕ)
    (out' : List ℕ) : Type 0 where
  pub answer : Tells (length_in (extraction f len k limit (length out))) (λ n. n) r value
  pub after : out' ≡ written (extraction f len k limit (length out)) (bytes_in f) out
