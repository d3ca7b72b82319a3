-- The promise of mapping into a slice store: the whole answer, and the store at exit.
use Rattle.std.specs.Prelude.{◌≡◌, List, ℕ, length, Option, Result}
use Rattle.outcome.specs.Store.{written}
use Rattle.parse_buffer.specs.Bytes.{File}
use Rattle.paged.specs.declared.refusal.Refusal.{Refusal}
use Rattle.paged.specs.Refusal.{told}
use Rattle.slices.specs.declared.SourceSlice.{SourceSlice}
use Rattle.mapping.specs.Mapping.{slices_in, mapping, mapped}
use Rattle.mapping.specs.declared.Mapped.{Mapped}

-- ---- `map_into`: `map`'s definitions, with one store, whose length is the room
pub record MapsInto (f : File) (len k : ℕ) (limit : Option ℕ) (store : List SourceSlice) (r : Result Mapped Refusal)
    (store' : List SourceSlice) : Type 0 where
  pub answer : told r ≡ mapped f (mapping f len k limit (length store))
  pub after : store' ≡ written (mapping f len k limit (length store)) (slices_in f) store
