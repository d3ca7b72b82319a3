-- Stretch after stretch the store holds the pieces of the pages so far (`Walked`, `pieces_to` and their laws in crate
-- slices). After the last page they are the slices of what was asked for, and the walk has counted them.
use mathlib.Core.Path.{◌≡◌, refl}
use mathlib.Core.List.{List}
use Prim.Native.Nat.{ℕ, ◌-◌, ◌<◌, ◌≤◌}
use native.Mathlib.Omega.{arith}
use native.Mathlib.Nat.{le_antisymm}
use lib.ListN.{length}
use lib.Seq.{sets}
use Rattle.std.specs.Prelude.{Option, Ok, Err}
use Rattle.outcome.specs.Outcome.{and_then, raise}
use Rattle.outcome.specs.Store.{written}
use Rattle.parse_buffer.specs.Bytes.{File}
use Rattle.paged.specs.declared.refusal.Refusal.{Refusal}
use Rattle.extent.specs.declared.Extent.{Extent}
use Rattle.slices.specs.Inner.{StretchIn, onward}
use Rattle.slices.proofs.SliceLaws.{pieces}
use Rattle.slices.proofs.WalkLaws.{pieces_to, Walked, walk_more, onward_some, walk_few, walk_all, all_pieces}
use Rattle.slices.specs.declared.SourceSlice.{SourceSlice}
use Rattle.slices.specs.declared.Walk.{Walk}
use Rattle.runs.specs.declared.stretch.Stretch.{Stretch}
use Rattle.mapping.specs.Mapping.{mapped}
use Rattle.mapping.specs.Inner.{Writable, Judging}
use Rattle.mapping.proofs.MappingLaws.{judged_refused, judged_mapped, judged_is, judged_slices}
use Rattle.slice_store.specs.Promises.{MapsInto}

-- ---- the store after the first i pages
abbrev pub store_at : File → Extent → List SourceSlice → ℕ → List SourceSlice
store_at f x ys i = sets ys 0 (pieces_to f x i)

pub store_start : (f : File) (x : Extent) (ys : List SourceSlice) → ys ≡ store_at f x ys 0
unfolding pieces
store_start f x ys = refl

-- the slices fit, so the last of the first pages has a place
pub place_inside : {f : File} {len room i : ℕ} {x : Extent} {w w' : Walk} {s : Stretch} → Writable f len room x → Walked f x i w → StretchIn f x i s → w' ≡ onward x i s w → w'.count - 1 < room
place_inside {i = i} {x} {w} {s = s} writable at stretch e =
    let some = onward_some x i s w e in
    let few = walk_few (walk_more at stretch e) writable.extends stretch.stands.within in
    omega (arith, writable.fit)

-- ---- the ways out
pub maps_refused : {f : File} {len k : ℕ} {limit : Option ℕ} {why : Refusal} (ys : List SourceSlice) → Judging f len k limit (length ys) (Err why) → MapsInto f len k limit ys (Err why) ys
unfolding mapped raise and_then written
maps_refused ys p = let e = judged_refused p in record { answer = rw (← e); after = rw (← e) }

-- every page was taken
pub maps_into : {f : File} {len k i : ℕ} {limit : Option ℕ} {x : Extent} {w : Walk} (ys : List SourceSlice) → Judging f len k limit (length ys) (Ok x) → Walked f x i w → i ≤ x.pages → x.pages ≤ i → MapsInto f len k limit ys (Ok (record { slices = w.count; length = x.bytes })) (store_at f x ys i)
unfolding raise written
maps_into {f} {i = i} {x = x} ys p at within past =
    let extends = p.writable.extends in
    record {
      answer = judged_mapped p (walk_all at extends within past);
      after = rw (le_antisymm within past, ← all_pieces f x extends, (judged_is p).is, judged_slices p);
    }
