-- What the part of a stage promises its callers.
use Rattle.std.specs.Prelude.{◌≡◌, ℕ, Result, Ok}
use Rattle.outcome.specs.Outcome.{◌>>=◌}
use Rattle.parse_buffer.specs.Bytes.{File}
use Rattle.paged.specs.PageSize.{need}
use Rattle.paged.specs.Refusal.{told}
use Rattle.paged.specs.declared.refusal.Refusal.{Refusal}
use Rattle.header.specs.declared.Header.{Header}
use Rattle.extent.specs.Inner.{Sound}
use Rattle.extent.specs.declared.Extent.{Extent}
use Rattle.needed.specs.Needed.{placed, pages_at, bytes_at}
use Rattle.needed.specs.declared.Stage.{Stage}

-- a part by its pages
abbrev pub extent_at : Stage → Header → Extent
extent_at stage h =
    record {
      pagesize = h.pagesize;
      list = pages_at stage;
      bytes = bytes_at stage h;
      pages = need h.pagesize (bytes_at stage h);
    }

-- ---- `part_of`, `location_list` and `directory`
pub record Parting (f : File) (len : ℕ) (stage : Stage) (r : Result Extent Refusal) : Type 0 where
  pub answer : told r ≡ (placed f len stage >>= λ h. Ok (extent_at stage h))
  pub sound : Sound f len r
