-- What judging a mapping, and writing what was judged, promise their callers.
use Rattle.std.specs.Prelude.{◌≡◌, List, map, ℕ, ◌≤◌, leb, length, Option, Result, Ok, IfOk}
use Rattle.outcome.specs.Outcome.{◌>>=◌, ◌>>◌, require}
use Rattle.outcome.specs.Refusal as paper
use Rattle.outcome.specs.Store.{written}
use Rattle.parse_buffer.specs.Bytes.{File}
use Rattle.paged.specs.Refusal.{refusal_in}
use Rattle.paged.specs.declared.refusal.Refusal.{Refusal}
use Rattle.paged.specs.declared.refusal.Refusal.TheVariants.{NoRoom}
use Rattle.extent.specs.Inner.{Extends, EntriesLie, extents}
use Rattle.paged.specs.Refusal.{told}
use Rattle.extent.specs.declared.Extent.{Extent}
use Rattle.slices.specs.Inner.{slices_through}
use Rattle.slices.specs.declared.SourceSlice.{SourceSlice}
use Rattle.mapping.specs.Mapping.{mapping}
use Rattle.mapping.specs.declared.Mapped.{Mapped}

-- what writing the slices of an extent asks for: it is one, its entries lie in the file, and its slices have room
pub record Writable (f : File) (len room : ℕ) (x : Extent) : Type 0 where
  pub extends : Extends x
  pub lie : EntriesLie f len x
  pub fit : length (slices_through f x) ≤ room

-- ---- `fit`: the slices of what was measured have room, or 10
unfoldable pub fitted : File → Result Extent paper.Refusal → ℕ → Result Extent paper.Refusal
fitted f o room = do
  x ← o
  require (leb (length (slices_through f x)) room) (refusal_in (NoRoom (length (slices_through f x))))
  Ok x

pub record Fitting (f : File) (len room : ℕ) (m r : Result Extent Refusal) : Type 0 where
  pub answer : told r ≡ fitted f (told m) room
  pub writable : IfOk r (Writable f len room)

-- ---- `judge`
pub record Judging (f : File) (len k : ℕ) (limit : Option ℕ) (room : ℕ) (r : Result Extent Refusal) : Type 0 where
  pub answer : told r ≡ extents (mapping f len k limit room)
  pub writable : IfOk r (Writable f len room)

-- ---- `write_judged`: the slice count and the length of what was judged, and its slices in the stores
unfoldable pub mapped_of : File → Result Extent paper.Refusal → Result Mapped paper.Refusal
mapped_of f o = do
  x ← o
  Ok (record { slices = length (slices_through f x); length = x.bytes })

-- a number of each of its slices
abbrev pub each_slice : (SourceSlice → ℕ) → File → Extent → List ℕ
each_slice part f x = map part (slices_through f x)

pub record Puts (f : File) (judged : Result Extent Refusal) (offsets sizes : List ℕ) (r : Result Mapped Refusal)
    (offsets' sizes' : List ℕ) : Type 0 where
  pub answer : told r ≡ mapped_of f (told judged)
  pub offsets_after : offsets' ≡ written (told judged) (each_slice (λ (s : SourceSlice). s.offset) f) offsets
  pub sizes_after : sizes' ≡ written (told judged) (each_slice (λ (s : SourceSlice). s.size) f) sizes
