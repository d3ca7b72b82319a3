-- What inner functions promise their callers. None of it is part of an operation's own promise.
use Rattle.std.specs.Prelude.{◌≡◌, List, ℕ, ◌*◌, ◌^◌, ◌<◌, Result}
use Rattle.container_layout.specs.Layout.{present_bytes, stream_pages, directory_size}
use Rattle.container_layout.specs.Refusal.{told}
use Rattle.container_layout.specs.Planning.{planning}
use Rattle.container_layout.specs.declared.refusal.Refusal.{Refusal}
use Rattle.container_layout.specs.declared.layout.Layout.{Layout}

-- ---- `plan`
pub record Planning (p : ℕ) (sizes : List ℕ) (given : ℕ) (r : Result Layout Refusal) : Type 0 where
  pub answer : told r ≡ planning p sizes given

-- ---- `present_bytes`
pub record Sized (size r : ℕ) : Type 0 where
  pub is : r ≡ present_bytes size
  pub small : r < 2 ^ 32

-- ---- `lay_out`: the streams' pages, and the directory's numbers, as many as a directory of 32 bits holds
pub record Numbered (p : ℕ) (sizes : List ℕ) (streams numbers : ℕ) : Type 0 where
  pub pages : streams ≡ stream_pages p sizes
  pub all : 4 * numbers ≡ directory_size p sizes
  pub few : numbers < 2 ^ 30
