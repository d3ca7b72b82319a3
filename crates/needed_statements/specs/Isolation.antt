-- Demand 3, of `needed_to_map` and of the function that Rust and C call: two files of equal length that agree on what a
-- stage reads, by document 01's list, give the same answer and the same stores afterwards.
use Rattle.std.specs.Prelude.{◌≡◌, List, ℕ, ◌<◌, Ok}
use Rattle.parse_buffer.specs.Bytes.{File}
use Rattle.header.specs.Header.{directory_pages, located}
use Rattle.header.specs.declared.Header.{Header}
use Rattle.needed.specs.Promises.{Needs}
use Rattle.needed.specs.declared.Stage.{Stage}
use Rattle.needed.specs.declared.Stage.TheVariants.{LocationList, Directory}
use Rattle.container_crossing.specs.Promises as crossing
use Rattle.isolation.specs.Listed.{InWord, entry_place, list_lies, ListedOpen, Agree}
use Rattle.isolation.specs.Isolation.{Equal, Equal₃}

-- of the location list, what opening reads; of the directory, then, if that stage is reached, the location list too
pub data ListedList (f : File) (len : ℕ) : ℕ → Type 0 where
  opening : {i : ℕ} → ListedOpen f len i → ListedList f len i
  list : {i j : ℕ} {h : Header} → located f len ≡ Ok h → list_lies f len h ≡ Ok tt → j < directory_pages h →
      InWord (entry_place f h j) i → ListedList f len i

abbrev pub ListedStage : File → ℕ → Stage → ℕ → Type 0
ListedStage f len LocationList = ListedOpen f len
ListedStage f len Directory = ListedList f len

-- the promise of the exported function, of one tuple of all that it gives
abbrev pub needs : File → ℕ → Stage → List ℕ → List ℕ → ℕ × ℕ × ℕ × List ℕ × List ℕ → Type 0
needs f len stage offsets sizes r = crossing.Needs f len stage offsets sizes r.0 r.1 r.2 r.3 r.4

pub record Isolation (f g : File) (len : ℕ) (stage : Stage) (offsets sizes : List ℕ) : Type 0 where
  pub needed_to_map : Agree (ListedStage f len stage) f g →
      Equal₃ (Needs f len stage offsets sizes) (Needs g len stage offsets sizes)
  pub boundary : Agree (ListedStage f len stage) f g →
      Equal (needs f len stage offsets sizes) (needs g len stage offsets sizes)
