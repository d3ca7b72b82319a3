-- Demand 3 of `needed_to_map`, in the way of `Isolation` of crate isolation: a promise about g is one about f, and no second
-- answer satisfies it.
use mathlib.Core.Path.{◌≡◌, sym, ◌∙◌}
use mathlib.Core.List.{List, map}
use Prim.Native.Nat.{ℕ, min, ◌<◌}
use native.Mathlib.Omega.{arith}
use lib.ListN.{length}
use Rattle.std.specs.Prelude.{Ok, Result}
use Rattle.outcome.specs.Store.{written}
use Rattle.outcome.proofs.OutcomeLaws.{came, came_by, bind_same, written_same}
use Rattle.parse_buffer.specs.Bytes.{File}
use Rattle.paged.specs.PageSize.{need}
use Rattle.paged.specs.Pages.{page_of}
use Rattle.header.specs.declared.Header.{Header}
use Rattle.directory.proofs.DirectoryLaws.{listed_at}
use Rattle.slices.specs.declared.SourceSlice.{SourceSlice}
use Rattle.needed.specs.Needed.{placed, pages_at, bytes_at, slices_at, needing, needed}
use Rattle.needed.specs.Promises.{Needs}
use Rattle.needed.specs.declared.Stage.{Stage}
use Rattle.needed.specs.declared.Stage.TheVariants.{LocationList, Directory}
use Rattle.container_crossing.specs.Promises as crossing
use Rattle.container_crossing.proofs.Statements as crossed
use Rattle.isolation.specs.Listed.{ListedOpen, Agree}
use Rattle.isolation.proofs.Same.{AgreeOnList, located_same, location_same, entry_same, listed_same}
use Rattle.isolation.proofs.StreamSame.{slices_same}
use Rattle.needed_statements.specs.Isolation.{ListedList, ListedStage, Isolation}
use Rattle.needed_statements.proofs.Statements.{single_valued}
use Rattle.mapping.specs.declared.Mapped.{Mapped}
use Rattle.paged.specs.declared.refusal.Refusal.{Refusal}

module _ (f g : File) (len : ℕ) (agree : Agree (ListedList f len) f g) where
  pub list_opens : Agree (ListedOpen f len) f g
  list_opens i l = agree i (ListedList.opening l)

  pub on_list : AgreeOnList f g len
  on_list = record { is = λ {i} {j} {h} o inside l w. agree i (ListedList.list {j = j} {h = h} (cc) inside (omega arith) w) }

pub placed_same : (f g : File) (len : ℕ) (stage : Stage) → Agree (ListedStage f len stage) f g → placed f len stage ≡ placed g len stage
unfolding placed
placed_same f g len LocationList agree = located_same f g len agree
placed_same f g len Directory agree = listed_same f g len (list_opens f g len agree) (on_list f g len agree)

-- the numbers of a part's pages
pub pages_same : (f g : File) (len : ℕ) (stage : Stage) → Agree (ListedStage f len stage) f g → {h : Header} → placed f len stage ≡ Ok h → (j : ℕ) → j < need h.pagesize (bytes_at stage h) → page_of f h.pagesize (pages_at stage) j ≡ page_of g h.pagesize (pages_at stage) j
unfolding placed
pages_same f g len LocationList agree e j l = location_same f g len agree e j l
pages_same f g len Directory agree e j l =
    let at = listed_at f len e in
    entry_same f g len (list_opens f g len agree) (on_list f g len agree) at.located at.list j l

module _ (f g : File) (len : ℕ) (stage : Stage) (agree : Agree (ListedStage f len stage) f g) where
  slices_as : {h : Header} → placed f len stage ≡ Ok h → slices_at f stage h ≡ slices_at g stage h
  slices_as {h} e = rw (slices_same h.pagesize (need h.pagesize (bytes_at stage h)) (pages_same f g len stage agree e))

  module _ (room : ℕ) where
    needing_same : needing f len stage room ≡ needing g len stage room
    unfolding needing
    needing_same = bind_same (placed_same f g len stage agree) λ h o. rw (slices_as o)

    needing_slices : {h : Header} → needing f len stage room ≡ Ok h → slices_at f stage h ≡ slices_at g stage h
    unfolding needing
    needing_slices e =
        came_by _ _ e λ y o e₁.
        came _ _ e₁ λ _ _ e₂.
        slices_as (o ∙ e₂)

    needed_same : needed f stage (needing f len stage room) ≡ needed g stage (needing g len stage room)
    unfolding needed
    needed_same = bind_same needing_same λ h o. rw (needing_slices o)

    parts_same : (part : SourceSlice → ℕ) (store : List ℕ) → written (needing f len stage room) (λ h. map part (slices_at f stage h)) store ≡ written (needing g len stage room) (λ h. map part (slices_at g stage h)) store
    parts_same part store = written_same _ _ store needing_same λ h o. rw (needing_slices o)

  module _ (offsets sizes : List ℕ) where
    abbrev room : ℕ
    room = min (length offsets) (length sizes)

    needs_as : (r : Result Mapped Refusal) (o t : List ℕ) → Needs g len stage offsets sizes r o t → Needs f len stage offsets sizes r o t
    needs_as r o t p =
        record {
          answer = p.answer ∙ sym (needed_same room);
          offsets_after = p.offsets_after ∙ sym (parts_same room (λ (s : SourceSlice). s.offset) offsets);
          sizes_after = p.sizes_after ∙ sym (parts_same room (λ (s : SourceSlice). s.size) sizes);
        }

    crossing_as : (r v u : ℕ) (o t : List ℕ) → crossing.Needs g len stage offsets sizes r v u o t → crossing.Needs f len stage offsets sizes r v u o t
    crossing_as r v u o t p =
        record {
          tells = rw (needed_same room) p.tells;
          offsets_after = p.offsets_after ∙ sym (parts_same room (λ (s : SourceSlice). s.offset) offsets);
          sizes_after = p.sizes_after ∙ sym (parts_same room (λ (s : SourceSlice). s.size) sizes);
        }

pub isolation : (f g : File) (len : ℕ) (stage : Stage) (offsets sizes : List ℕ) → Isolation f g len stage offsets sizes
isolation f g len stage offsets sizes =
    record {
      needed_to_map = λ agree r r' o o' t t' p q.
          single_valued.needed_to_map f len stage offsets sizes r r' o o' t t' p (needs_as f g len stage agree offsets sizes r' o' t' q);
      boundary = λ agree a b p q.
          (crossed.single_valued).needed_to_map f len stage offsets sizes a b p (crossing_as f g len stage agree offsets sizes _ _ _ _ _ q);
    }
