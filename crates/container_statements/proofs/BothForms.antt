-- The two forms of a mapping answer alike: both promises are about one `mapping`, and each store is `written` with its slices.
use mathlib.Core.Path.{◌≡◌, refl, sym, ◌∙◌, ap}
use mathlib.Core.List.{List, map}
use Prim.Native.Nat.{ℕ, min, ◌≤◌, ◌<◌}
use native.Mathlib.Omega.{arith}
use borrow.Author.Tests.{leb-true}
use lib.ListN.{length, get_or, length-map, get_or-map}
use lib.Seq.{sets}
use Rattle.std.specs.Prelude.{Option, Result, Ok, Err}
use Rattle.outcome.specs.Outcome.{and_then, raise}
use Rattle.outcome.specs.Refusal as paper
use Rattle.outcome.specs.Store.{written}
use Rattle.outcome.proofs.OutcomeLaws.{came, came_by, ok_is, passed, ok_refused}
use Rattle.outcome.proofs.OnlyLaws.{only}
use Rattle.parse_buffer.specs.Bytes.{File}
use Rattle.paged.specs.Refusal as paged
use Rattle.paged.specs.declared.refusal.Refusal.{Refusal}
use Rattle.slices.specs.declared.SourceSlice.{SourceSlice}
use Rattle.extent.specs.Extent.{Asked}
use Rattle.mapping.specs.Mapping.{slices_in, mapping, mapped}
use Rattle.msf.specs.Promises.{Maps}
use Rattle.store.proofs.SetsLaws.{sets_first}
use Rattle.mapping.specs.declared.Mapped.{Mapped}
use Rattle.slice_store.specs.Promises.{MapsInto}
use Rattle.container_statements.specs.Statements.{none, AnsweredAlike, BothForms}
use Rattle.container_statements.proofs.Told.{told}

-- ---- an answer that is a mapping says so on paper
accepted_is : {r : Result Mapped Refusal} {m : Mapped} → r ≡ Ok m → paged.told r ≡ Ok m
unfolding raise
accepted_is e = ap paged.told e

-- ---- an answer that is a mapping came of one that was accepted
record MappingAt (f : File) (len k : ℕ) (limit : Option ℕ) (room : ℕ) (m : Mapped) : Type 0 where
  placed : Asked
  is : mapping f len k limit room ≡ Ok placed
  count : m.slices ≡ length (slices_in f placed)
  fits : length (slices_in f placed) ≤ room

accepted : (f : File) (o : Result Asked paper.Refusal) {m : Mapped} → mapped f o ≡ Ok m → (x : Asked) × ((o ≡ Ok x) × (m.slices ≡ length (slices_in f x)))
unfolding mapped and_then
accepted f (Ok x) e = (x, (refl, ap (λ (m : Mapped). m.slices) (sym (ok_is e))))
accepted f (Err why) e = absurd (ok_refused (sym e))

mapping_fits : (f : File) (len k : ℕ) (limit : Option ℕ) (room : ℕ) {x : Asked} → mapping f len k limit room ≡ Ok x → length (slices_in f x) ≤ room
unfolding mapping
mapping_fits f len k limit room {x} e =
    came_by _ _ e λ y p e₁.
    came _ _ e₁ λ _ l e₂.
    let same : y ≡ x = ok_is e₂ in
    rw (← same) (leb-true _ _ (passed _ _ l))

mapping_at : (f : File) (len k : ℕ) (limit : Option ℕ) (room : ℕ) {m : Mapped} → mapped f (mapping f len k limit room) ≡ Ok m → MappingAt f len k limit room m
mapping_at f len k limit room e =
    let a = accepted f (mapping f len k limit room) e in
    record { placed = a.0; is = a.1.0; count = a.1.1; fits = mapping_fits f len k limit room a.1.0 }

-- what an accepted mapping writes, in a store of any kind
entries_after : {B : Type 0} {o : Result Asked paper.Refusal} {x : Asked} (entries : Asked → List B) (store : List B) → o ≡ Ok x → written o entries store ≡ sets store 0 (entries x)
unfolding written
entries_after {B} entries store e = ap (λ (z : Result Asked paper.Refusal). written {B = B} z entries store) e

-- ---- a store of slices, and one that holds one number of each
same_entry : (xs : List SourceSlice) (store : List SourceSlice) (g : SourceSlice → ℕ) (n : List ℕ) → length xs ≤ length store → length xs ≤ length n → (i : ℕ) → i < length xs → g (get_or (sets store 0 xs) i none) ≡ get_or (sets n 0 (map g xs)) i (g none)
same_entry xs store g n h l i m =
    ap g (sets_first none store xs h i m)
    ∙ sym (get_or-map g xs i none)
    ∙ sym (sets_first (g none) n (map g xs) (rw length-map l) i (rw length-map m))

module _ (f : File) (len k : ℕ) (limit : Option ℕ) (offsets sizes : List ℕ) (store : List SourceSlice) (room : length store ≡ min (length offsets) (length sizes))
    (r r' : Result Mapped Refusal) (o t : List ℕ) (s : List SourceSlice) (p : Maps f len k limit offsets sizes r o t) (q : MapsInto f len k limit store r' s) where
  entry : (m : Mapped) → r ≡ Ok m → (g : SourceSlice → ℕ) (n n' : List ℕ) → min (length offsets) (length sizes) ≤ length n → n' ≡ written (mapping f len k limit (min (length offsets) (length sizes))) (λ x. map g (slices_in f x)) n
      → (i : ℕ) → i < m.slices → g (get_or s i none) ≡ get_or n' i (g none)
  entry m e g n n' fits is i h =
      let at = mapping_at f len k limit (min (length offsets) (length sizes)) (sym p.answer ∙ accepted_is e) in
      let c = at.count in
      let l = at.fits in
      ap (λ (z : List SourceSlice). g (get_or z i none)) (q.after ∙ entries_after (slices_in f) store (ap (mapping f len k limit) room ∙ at.is))
      ∙ same_entry (slices_in f at.placed) store g n (omega arith) (omega arith) i (omega arith)
      ∙ ap (λ (z : List ℕ). get_or z i (g none)) (sym (is ∙ entries_after (λ x. map g (slices_in f x)) n at.is))

  answered_alike : AnsweredAlike r r' o t s
  answered_alike =
      record {
        answer = only paged.told told.mapped _ r r' p.answer (q.answer ∙ rw room);
        entries = λ m e.
            record {
              offset = entry m e (λ (x : SourceSlice). x.offset) offsets o (omega arith) p.offsets_after;
              size = entry m e (λ (x : SourceSlice). x.size) sizes t (omega arith) p.sizes_after;
            };
      }

pub both_forms : BothForms
both_forms = record { alike = answered_alike }
