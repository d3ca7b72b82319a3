-- The promise of `needed_to_map`: the whole answer, as document 01 numbers it, and each lent store at exit.
use Rattle.std.specs.Prelude.{◌≡◌, List, map, ℕ, min, length, Result}
use Rattle.outcome.specs.Refusal as paper
use Rattle.outcome.specs.Store.{written}
use Rattle.parse_buffer.specs.Bytes.{File}
use Rattle.paged.specs.Refusal.{told}
use Rattle.paged.specs.declared.refusal.Refusal.{Refusal}
use Rattle.header.specs.declared.Header.{Header}
use Rattle.slices.specs.declared.SourceSlice.{SourceSlice}
use Rattle.mapping.specs.declared.Mapped.{Mapped}
use Rattle.needed.specs.Needed.{slices_at, needing, needed}
use Rattle.needed.specs.declared.Stage.{Stage}

-- "with two stores it is the shorter one's length"
abbrev pub needing_to : File → ℕ → Stage → List ℕ → List ℕ → Result Header paper.Refusal
needing_to f len stage offsets sizes = needing f len stage (min (length offsets) (length sizes))

abbrev pub offsets_at : File → Stage → Header → List ℕ
offsets_at f stage h = map (λ (s : SourceSlice). s.offset) (slices_at f stage h)

abbrev pub sizes_at : File → Stage → Header → List ℕ
sizes_at f stage h = map (λ (s : SourceSlice). s.size) (slices_at f stage h)

pub record Needs (f : File) (len : ℕ) (stage : Stage) (offsets sizes : List ℕ) (r : Result Mapped Refusal)
    (offsets' sizes' : List ℕ) : Type 0 where
  pub answer : told r ≡ needed f stage (needing_to f len stage offsets sizes)
  pub offsets_after : offsets' ≡ written (needing_to f len stage offsets sizes) (offsets_at f stage) offsets
  pub sizes_after : sizes' ≡ written (needing_to f len stage offsets sizes) (sizes_at f stage) sizes
