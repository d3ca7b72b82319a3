-- What holds of `needed_to_map` beyond its promise: no second answer; which places the slices name; how its refusals
-- stand to those of the stream count and of mapping. proofs/ has a proof of each record.
use Rattle.std.specs.Prelude.{◌≡◌, ◌↔◌, List, ℕ, ◌<◌, Result, Ok, Err}
use Rattle.outcome.specs.Outcome.{◌>>◌}
use Rattle.outcome.specs.Refusal as paper
use Rattle.outcome.specs.Only.{Only, Only₃}
use Rattle.parse_buffer.specs.Bytes.{File}
use Rattle.paged.specs.Refusal.{refusal_in}
use Rattle.paged.specs.PageSize.{need}
use Rattle.paged.specs.Pages.{through, page_of}
use Rattle.paged.specs.Checks.{lies_in_file}
use Rattle.paged.specs.declared.refusal.Refusal.TheVariants.{FileEnds}
use Rattle.header.specs.declared.Header.{Header}
use Rattle.directory.specs.Directory.{reached}
use Rattle.directory.specs.Inner.{Listing}
use Rattle.slices.specs.Slices.{Full, total}
use Rattle.needed.specs.Needed.{placed, pages_at, bytes_at, slices_at}
use Rattle.needed.specs.Inner.{Parting}
use Rattle.needed.specs.Promises.{Needs}
use Rattle.needed.specs.declared.Stage.{Stage}
use Rattle.needed.specs.declared.Stage.TheVariants.{LocationList, Directory}
use Rattle.isolation.specs.Listed.{Named}

-- no second answer, and no other store, satisfies the promise; nor those of the stages
pub record SingleValued : Type 0 where
  pub needed_to_map : (f : File) (len : ℕ) (stage : Stage) (offsets sizes : List ℕ) →
      Only₃ (Needs f len stage offsets sizes)
  pub list : (f : File) (len : ℕ) → Only (Listing f len)
  pub part : (f : File) (len : ℕ) (stage : Stage) → Only (Parting f len stage)

-- byte `index` of a stage's part stands at place i: page (index / P) * P + index mod P
pub record PartByte (f : File) (stage : Stage) (h : Header) (i : ℕ) : Type 0 where
  pub index : ℕ
  pub below : index < bytes_at stage h
  pub at : i ≡ through h.pagesize (page_of f h.pagesize (pages_at stage)) index

-- the slices of a part name its bytes, no fewer and no more; none is empty, and they are as long as the answer says
pub record PartExactly (f : File) (len : ℕ) (stage : Stage) : Type 0 where
  pub is : {h : Header} → placed f len stage ≡ Ok h → (i : ℕ) → Named (slices_at f stage h) i ↔ PartByte f stage h i
  pub full : {h : Header} → placed f len stage ≡ Ok h → Full (slices_at f stage h)
  pub length : {h : Header} → placed f len stage ≡ Ok h → total (slices_at f stage h) ≡ bytes_at stage h

-- refusal 6, of a part's own bytes
abbrev pub part_lies : File → ℕ → Stage → Header → Result (Unit {0}) paper.Refusal
part_lies f len stage h =
    lies_in_file len h.pagesize (page_of f h.pagesize (pages_at stage)) (bytes_at stage h)
    (need h.pagesize (bytes_at stage h))

-- with the 6 that is found when the part is read, the refusals of the stages are those of steps 1 to 5
pub record Refusals (f : File) (len : ℕ) : Type 0 where
  -- what refuses the location list refuses the directory, and what refuses the directory refuses steps 1 to 5
  pub list : {why : paper.Refusal} → placed f len LocationList ≡ Err why → placed f len Directory ≡ Err why
  pub directory : {why : paper.Refusal} → placed f len Directory ≡ Err why → reached f len ≡ Err why
  -- otherwise these are refused only where the directory is not all in the file
  pub rest : {h : Header} → placed f len Directory ≡ Ok h → reached f len ≡ (part_lies f len Directory h >> Ok h)
  -- that is, where a slice names a place past the file; and it is refused with 6
  pub held : (stage : Stage) {h : Header} → placed f len stage ≡ Ok h →
      (part_lies f len stage h ≡ Ok tt) ↔ ((i : ℕ) → Named (slices_at f stage h) i → i < len)
  pub six : (stage : Stage) (h : Header) {why : paper.Refusal} → part_lies f len stage h ≡ Err why →
      why ≡ refusal_in FileEnds
