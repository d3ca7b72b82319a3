-- The ways out of judging a mapping; what an accepted mapping is known to be.
use mathlib.Core.Path.{◌≡◌, refl, ◌∙◌, ap}
use mathlib.Core.Bool.{Bool, true, false}
use mathlib.Core.List.{List, map}
use Prim.Native.Nat.{ℕ, min, ◌≤◌, ◌<◌}
use native.Mathlib.Omega.{arith}
use borrow.Author.Tests.{le-leb, lt-leb, leb-true}
use lib.Dec.{leb}
use lib.ListN.{length}
use Rattle.std.specs.Prelude.{Option, Result, Ok, Err}
use Rattle.outcome.specs.Outcome.{and_next, and_then, ◌>>=◌, ◌>>◌, require, raise}
use Rattle.outcome.specs.Refusal as paper
use Rattle.outcome.specs.Store.{written}
use Rattle.outcome.proofs.OutcomeLaws.{came, came_by, ok_is, passed}
use Rattle.parse_buffer.specs.Bytes.{File}
use Rattle.paged.specs.PageSize.{PageSize}
use Rattle.paged.specs.Refusal.{refusal_in}
use Rattle.paged.proofs.SizeLaws.{need_covers, need_rises}
use Rattle.paged.specs.declared.refusal.Refusal.{Refusal}
use Rattle.paged.specs.declared.refusal.Refusal.TheVariants.{NoRoom}
use Rattle.directory.proofs.DirectoryLaws.{reached_at}
use Rattle.stream.specs.Stream.{own_page, own_pages}
use Rattle.stream.proofs.FindLaws.{found_at}
use Rattle.extent.specs.Extent.{Asked, asked, extent_of, page_in}
use Rattle.extent.specs.Inner.{Extends, EntriesLie, Sound, extents, Measuring}
use Rattle.paged.specs.Refusal.{told}
use Rattle.extent.proofs.ExtentLaws.{length_most, IsOf, is_of, is_refused, asked_at}
use Rattle.extent.specs.declared.Extent.{Extent}
use Rattle.slices.specs.Slices.{slices_of}
use Rattle.slices.specs.Inner.{slices_through, Writing}
use Rattle.slices.specs.declared.SourceSlice.{SourceSlice}
use Rattle.slices.proofs.SliceLaws.{cut_past_pages, slices_few, cut_few}
use Rattle.mapping.specs.Mapping.{slices_in, mapping, mapped}
use Rattle.mapping.specs.Inner.{Writable, fitted, Fitting, Judging, mapped_of, each_slice, Puts}

-- ---- the slices of what was asked for are those of its extent: pages past the length change nothing
module _ (f : File) (len k : ℕ) (limit : Option ℕ) {x : Asked} (e : asked f len k limit ≡ Ok x) where
  asked_size : PageSize x.found.header.pagesize
  asked_size = (reached_at f len (found_at f len k (asked_at f len k limit e).found).reached).size

  -- the pages of what is asked for are among the stream's own
  asked_few : (extent_of x).pages ≤ own_pages x.found
  asked_few =
      let s = asked_size.least in
      need_rises x.found.header.pagesize (omega arith)
      (rw (asked_at f len k limit e).length (length_most limit x.found.size))

  slices_asked : slices_in f x ≡ slices_through f (extent_of x)
  slices_asked =
      let p = x.found.header.pagesize in
      let s = asked_size.least in
      cut_past_pages p (own_page f x.found) (omega arith) x.length (extent_of x).pages (own_pages x.found)
      (need_covers p x.length (omega arith)) asked_few

-- ---- `fit`
module _ {f : File} {len : ℕ} {m : Result Extent Refusal} (room : ℕ) where
  pub fit_refused : {why : Refusal} → m ≡ Err why → Fitting f len room m (Err why)
  unfolding fitted raise and_then
  fit_refused e = record { answer = rw e; writable = tt }

  module _ (p : Sound f len m) {x : Extent} (e : m ≡ Ok x) where
    pub fit_extends : Extends x
    fit_extends = rw e at p.extends

    pub fit_lie : EntriesLie f len x
    fit_lie = rw e at p.lie

    pub fit_no_room : {c : ℕ} → c ≡ length (slices_through f x) → room < c → Fitting f len room m (Err (NoRoom c))
    unfolding fitted raise require and_then and_next
    fit_no_room {c} count_is h = record { answer = rw (e, ← count_is, lt-leb c room h); writable = tt }

    fit_fine : length (slices_through f x) ≤ room → Fitting f len room m (Ok x)
    unfolding fitted raise require and_then and_next
    fit_fine h =
        record {
          answer = rw (e, le-leb _ room h);
          writable = record { extends = fit_extends; lie = fit_lie; fit = h };
        }

    pub fit_counted : {c : ℕ} → c ≡ length (slices_through f x) → c ≤ room → Fitting f len room m (Ok x)
    fit_counted count_is h = fit_fine (omega (arith, count_is))

    -- there are no more slices than pages
    pub fit_few : x.pages ≤ room → Fitting f len room m (Ok x)
    fit_few h =
        fit_fine
        (omega (arith, cut_few x.bytes (slices_of x.pagesize (page_in f x) x.pages), slices_few x.pagesize (page_in f x) x.pages))

-- ---- an outcome of another kind, whose extents are judged and written: room, answer and stores are by its own slices
abbrev Alike : {A : Type 0} → File → (A → Extent) → (A → List SourceSlice) → Result A paper.Refusal → Type 0
Alike {A} f extent slices o = (a : A) → o ≡ Ok a → slices a ≡ slices_through f (extent a)

require_extent : {A : Type 0} (extent : A → Extent) (a : A) (b : Bool) (why : paper.Refusal) → require b why >> Ok (extent a) ≡ (require b why >> Ok a >>= λ x. Ok (extent x))
unfolding require and_then and_next
require_extent extent a true why = refl
require_extent extent a false why = refl

pub fitted_alike : {A : Type 0} (f : File) (extent : A → Extent) (slices : A → List SourceSlice) (o : Result A paper.Refusal) (room : ℕ) → Alike f extent slices o → fitted f (o >>= λ a. Ok (extent a)) room ≡ ((o >>= λ a. require (leb (length (slices a)) room) (refusal_in (NoRoom (length (slices a)))) >> Ok a) >>= λ a. Ok (extent a))
unfolding fitted and_then
fitted_alike f extent slices (Ok a) room same = rw (same a refl) (require_extent extent a _ _)
fitted_alike f extent slices (Err why) room same = refl

pub mapped_alike : {A : Type 0} (f : File) (extent : A → Extent) (slices : A → List SourceSlice) (o : Result A paper.Refusal) → Alike f extent slices o → mapped_of f (o >>= λ a. Ok (extent a)) ≡ (o >>= λ a. Ok (record { slices = length (slices a); length = (extent a).bytes }))
unfolding mapped_of and_then
mapped_alike f extent slices (Ok a) same = rw (same a refl)
mapped_alike f extent slices (Err why) same = refl

pub written_alike : {A : Type 0} (f : File) (extent : A → Extent) (slices : A → List SourceSlice) (o : Result A paper.Refusal) (part : SourceSlice → ℕ) (store : List ℕ) → Alike f extent slices o → written (o >>= λ a. Ok (extent a)) (each_slice part f) store ≡ written o (λ a. map part (slices a)) store
unfolding written and_then
written_alike f extent slices (Ok a) part store same = rw (same a refl)
written_alike f extent slices (Err why) part store same = refl

-- ---- `judge`
pub judge_fine : {f : File} {len k : ℕ} {limit : Option ℕ} {m r : Result Extent Refusal} {room : ℕ} → Measuring f len k limit m → Fitting f len room m r → Judging f len k limit room r
unfolding mapping extents
judge_fine {f} {len} {k} {limit} {m} {r} {room} p q =
    record {
      answer = q.answer ∙ ap (λ (o : Result Extent paper.Refusal). fitted f o room) p.answer ∙ fitted_alike f extent_of (slices_in f) (asked f len k limit) room (λ x e. slices_asked f len k limit e);
      writable = q.writable;
    }

-- ---- an accepted mapping: what was asked for, and that its slices fit
pub record MappingAt (f : File) (len k : ℕ) (limit : Option ℕ) (room : ℕ) (x : Asked) : Type 0 where
  pub asked : asked f len k limit ≡ Ok x
  pub fits : length (slices_in f x) ≤ room

pub mapping_at : (f : File) (len k : ℕ) (limit : Option ℕ) (room : ℕ) {x : Asked} → mapping f len k limit room ≡ Ok x → MappingAt f len k limit room x
unfolding mapping
mapping_at f len k limit room e =
    came_by _ _ e λ y a e₁.
    came _ _ e₁ λ _ fits e₂.
    record { asked = a ∙ e₂; fits = rw (← ok_is e₂) (leb-true _ _ (passed _ _ fits)) }

-- of a mapping
pub slices_mapped : (f : File) (len k room : ℕ) (limit : Option ℕ) → Alike f extent_of (slices_in f) (mapping f len k limit room)
slices_mapped f len k room limit x e = slices_asked f len k limit (mapping_at f len k limit room e).asked

-- ---- once it is judged: the mapping itself, and its slices
module _ {f : File} {len k room : ℕ} {limit : Option ℕ} where
  pub judged_refused : {why : Refusal} → Judging f len k limit room (Err why) → told {A = Asked} (Err why) ≡ mapping f len k limit room
  unfolding extents
  judged_refused {why} p = is_refused extent_of (mapping f len k limit room) why p.answer

  module _ {x : Extent} (p : Judging f len k limit room (Ok x)) where
    pub judged_is : IsOf extent_of (mapping f len k limit room) x
    unfolding extents
    judged_is = is_of extent_of (mapping f len k limit room) x p.answer

    pub judged_slices : slices_in f judged_is.asked ≡ slices_through f x
    judged_slices = slices_mapped f len k room limit judged_is.asked judged_is.is ∙ ap (slices_through f) judged_is.by

    -- what it answers
    pub judged_mapped : {c : ℕ} → c ≡ length (slices_through f x) → told (Ok (record { slices = c; length = x.bytes })) ≡ mapped f (mapping f len k limit room)
    unfolding mapped raise and_then
    judged_mapped count =
        let bytes : judged_is.asked.length ≡ x.bytes = ap (λ (y : Extent). y.bytes) judged_is.by in
        rw (judged_is.is, judged_slices, count, bytes)

-- ---- `write_judged`
module _ {f : File} {j : Result Extent Refusal} (o t : List ℕ) where
  pub write_refused : {why : Refusal} → j ≡ Err why → Puts f j o t (Err why) o t
  unfolding mapped_of raise and_then written
  write_refused e = record { answer = rw e; offsets_after = rw e; sizes_after = rw e }

  pub write_fine : {x : Extent} → j ≡ Ok x → {c : ℕ} {o' t' : List ℕ} → Writing (slices_through f x) c o t o' t' → Puts f j o t (Ok (record { slices = c; length = x.bytes })) o' t'
  unfolding mapped_of raise and_then written
  write_fine e w =
      record { answer = rw (w.count, e); offsets_after = w.offsets_are ∙ rw e; sizes_after = w.sizes_are ∙ rw e }

module _ {f : File} {len : ℕ} (o t : List ℕ) {x : Extent} (p : Writable f len (min (length o) (length t)) x) where
  pub write_offsets : length (slices_through f x) ≤ length o
  write_offsets = omega (arith, p.fit)

  pub write_sizes : length (slices_through f x) ≤ length t
  write_sizes = omega (arith, p.fit)

pub ruleset write_cases = (write_offsets, write_sizes)
