-- The ways out of the two stages, and what was judged and written of their parts.
use mathlib.Core.Path.{◌≡◌, refl, sym, ◌∙◌, ap}
use mathlib.Core.List.{List}
use Prim.Native.Nat.{ℕ, ◌*◌, ◌^◌, min, ◌≤◌, ◌<◌}
use native.Mathlib.Omega.{arith}
use lib.ListN.{length}
use Rattle.std.specs.Prelude.{Result, Ok, Err, IfOk}
use Rattle.outcome.specs.Outcome.{and_then, ◌>>=◌, raise}
use Rattle.outcome.specs.Refusal as paper
use Rattle.parse_buffer.specs.Bytes.{File}
use Rattle.paged.specs.PageSize.{need}
use Rattle.paged.specs.Refusal.{told}
use Rattle.paged.proofs.SizeLaws.{need_le}
use Rattle.paged.specs.declared.refusal.Refusal.{Refusal}
use Rattle.paged.specs.declared.pages.Pages.TheVariants as pages
use Rattle.runs.proofs.LyingLaws.{location_lies}
use Rattle.header.specs.Header.{directory_pages, located}
use Rattle.header.specs.Inner.{Locating}
use Rattle.header.proofs.OpenLaws.{is_located}
use Rattle.header.specs.declared.Header.{Header}
use Rattle.directory.specs.Directory.{listed}
use Rattle.directory.specs.Inner.{Listing}
use Rattle.directory.proofs.DirectoryLaws.{listed_at}
use Rattle.extent.specs.declared.Extent.{Extent}
use Rattle.slices.specs.declared.SourceSlice.{SourceSlice}
use Rattle.mapping.specs.Inner.{Writable, fitted, Fitting, mapped_of, Puts}
use Rattle.mapping.specs.declared.Mapped.{Mapped}
use Rattle.mapping.proofs.MappingLaws.{fitted_alike, mapped_alike, written_alike}
use Rattle.needed.specs.Needed.{placed, slices_at, needing, needed}
use Rattle.needed.specs.Inner.{extent_at, Parting}
use Rattle.needed.specs.Promises.{Needs}
use Rattle.needed.specs.declared.Stage.{Stage}
use Rattle.needed.specs.declared.Stage.TheVariants.{LocationList, Directory}

-- ---- the location list
module _ {f : File} {len : ℕ} where
  pub list_none : {why : Refusal} → Locating f len (Err why) → Parting f len LocationList (Err why)
  unfolding placed raise and_then
  list_none p = record { answer = rw (← p.answer); sound = record { extends = tt; lie = tt } }

  module _ {h : Header} (p : Locating f len (Ok h)) where
    located_is : located f len ≡ Ok h
    unfolding raise
    located_is = sym p.answer

    pub list_part : {d n : ℕ} → d ≡ directory_pages h → n ≡ need h.pagesize (4 * d) → Parting f len LocationList (Ok (record { pagesize = h.pagesize; list = pages.Location; bytes = 4 * d; pages = n }))
    unfolding placed raise and_then
    list_part {d} {n} pd pn =
        let at = is_located f len located_is in
        let few : n ≤ 1011 = rw (pn, pd) at.few in
        record {
          answer = rw (located_is, pn, pd);
          sound = record {
            extends = record { size = at.size; whole = pn; small = omega arith; few = omega arith };
            lie = location_lies f len h.pagesize (let long = at.long in omega arith);
          };
        }

-- ---- the directory
module _ {f : File} {len : ℕ} where
  pub directory_none : {why : Refusal} → Listing f len (Err why) → Parting f len Directory (Err why)
  unfolding placed raise and_then
  directory_none p = record { answer = rw (← p.answer); sound = record { extends = tt; lie = tt } }

  module _ {h : Header} (p : Listing f len (Ok h)) where
    listed_is : listed f len ≡ Ok h
    unfolding raise
    listed_is = sym p.answer

    pub directory_part : h.directory < 2 ^ 32 → {n : ℕ} → n ≡ need h.pagesize h.directory → Parting f len Directory (Ok (record { pagesize = h.pagesize; list = pages.Directory; bytes = h.directory; pages = n }))
    unfolding placed raise and_then
    directory_part b {n} pn =
        let at = listed_at f len listed_is in
        let least = at.size.least in
        let few : n ≤ h.directory = rw pn (need_le h.pagesize h.directory (omega arith)) in
        record {
          answer = rw (listed_is, pn);
          sound = record {
            extends = record { size = at.size; whole = pn; small = omega arith; few = omega arith };
            lie = rw pn at.lie;
          };
        }

-- ---- what was judged and written of a part
module _ {f : File} {len room : ℕ} {stage : Stage} {m j : Result Extent Refusal} (p : Parting f len stage m) (q : Fitting f len room m j) where
  judged_part : told j ≡ (needing f len stage room >>= λ h. Ok (extent_at stage h))
  unfolding needing
  judged_part =
      q.answer
      ∙ ap (λ (o : Result Extent paper.Refusal). fitted f o room) p.answer
      ∙ fitted_alike f (extent_at stage) (slices_at f stage) (placed f len stage) room (λ _ _. refl)

  module _ (o t : List ℕ) (room_is : room ≡ min (length o) (length t)) where
    pub needed_judged : IfOk j (Writable f len (min (length o) (length t)))
    needed_judged = rw (← room_is) q.writable

    pub needed_fine : {r : Result Mapped Refusal} {o' t' : List ℕ} → Puts f j o t r o' t' → Needs f len stage o t r o' t'
    unfolding needed
    needed_fine w =
        let by = needing f len stage room in
        record {
          answer = rw (← room_is)
              (w.answer ∙ ap (mapped_of f) judged_part ∙ mapped_alike f (extent_at stage) (slices_at f stage) by (λ _ _. refl));
          offsets_after = rw (← room_is)
              (w.offsets_after ∙ rw judged_part
              (written_alike f (extent_at stage) (slices_at f stage) by (λ (s : SourceSlice). s.offset) o (λ _ _. refl)));
          sizes_after = rw (← room_is)
              (w.sizes_after ∙ rw judged_part
              (written_alike f (extent_at stage) (slices_at f stage) by (λ (s : SourceSlice). s.size) t (λ _ _. refl)));
        }
