-- The ways out of mapping and of extraction.
use mathlib.Core.Path.{◌≡◌, sym, ◌∙◌, ap}
use mathlib.Core.List.{List}
use Prim.Native.Nat.{ℕ, min, ◌≤◌, ◌<◌}
use borrow.Author.Tests.{le-leb, lt-leb}
use lib.ListN.{length}
use lib.Seq.{sets}
use Rattle.std.specs.Prelude.{Option, Result, Ok, Err, IfOk}
use Rattle.outcome.specs.Outcome.{and_next, and_then, require, raise}
use Rattle.outcome.specs.Store.{written}
use Rattle.parse_buffer.specs.Bytes.{File}
use Rattle.paged.specs.Checks.{lies_in_file}
use Rattle.paged.specs.declared.refusal.Refusal.{Refusal}
use Rattle.paged.specs.declared.refusal.Refusal.TheVariants.{NoRoom}
use Rattle.extent.specs.Extent.{readable, extent_of, page_in}
use Rattle.extent.specs.Inner.{extents, Reading}
use Rattle.extent.proofs.ExtentLaws.{IsOf, is_of, is_refused, readable_at}
use Rattle.extent.specs.declared.Extent.{Extent}
use Rattle.slices.specs.declared.SourceSlice.{SourceSlice}
use Rattle.mapping.specs.Mapping.{slices_in, mapping, mapped}
use Rattle.mapping.specs.Inner.{Writable, Judging, mapped_of, Puts}
use Rattle.mapping.specs.declared.Mapped.{Mapped}
use Rattle.mapping.proofs.MappingLaws.{mapped_alike, written_alike, slices_mapped}
use Rattle.msf.specs.Extraction.{extraction, length_in}
use Rattle.msf.specs.Inner.{bytes_of, LiesIn}
use Rattle.msf.specs.Promises.{Maps, Extracts}

-- ---- `map`
pub map_judged : {f : File} {len k room : ℕ} {limit : Option ℕ} {j : Result Extent Refusal} (o t : List ℕ) → room ≡ min (length o) (length t) → Judging f len k limit room j → IfOk j (Writable f len (min (length o) (length t)))
map_judged o t room_is p = rw (← room_is) p.writable

pub map_fine : {f : File} {len k room : ℕ} {limit : Option ℕ} {j : Result Extent Refusal} {r : Result Mapped Refusal} {o t o' t' : List ℕ} → room ≡ min (length o) (length t) → Judging f len k limit room j → Puts f j o t r o' t' → Maps f len k limit o t r o' t'
unfolding mapped extents
map_fine {f} {len} {k} {room} {limit} {j} {o = o} {t} room_is p w =
    let by = mapping f len k limit room in
    let same = slices_mapped f len k room limit in
    record {
      answer = rw (← room_is) (w.answer ∙ ap (mapped_of f) p.answer ∙ mapped_alike f extent_of (slices_in f) by same);
      offsets_after = rw (← room_is)
          (w.offsets_after ∙ rw p.answer (written_alike f extent_of (slices_in f) by (λ (s : SourceSlice). s.offset) o same));
      sizes_after = rw (← room_is)
          (w.sizes_after ∙ rw p.answer (written_alike f extent_of (slices_in f) by (λ (s : SourceSlice). s.size) t same));
    }

-- ---- `extract`
module _ {f : File} {len k : ℕ} {limit : Option ℕ} (o : List ℕ) where
  pub extract_none : {why : Refusal} → Reading f len k limit (Err why) → Extracts f len k limit o (Err why) o
  unfolding extraction length_in written extents raise and_then
  extract_none {why} p =
      let g = is_refused extent_of (readable f len k limit) why p.answer in
      record { answer = rw (← g); after = rw (← g) }

  module _ {x : Extent} (p : Reading f len k limit (Ok x)) where
    of : IsOf extent_of (readable f len k limit) x
    unfolding extents
    of = is_of extent_of (readable f len k limit) x p.answer

    pub read_lies : LiesIn f len x
    read_lies =
        record {
          is = ap (λ (y : Extent). lies_in_file len y.pagesize (page_in f y) y.bytes y.pages) (sym of.by) ∙ (readable_at f len k limit of.is).lies;
        }

    long : of.asked.length ≡ x.bytes
    long = ap (λ (y : Extent). y.bytes) of.by

    pub extract_no_room : length o < x.bytes → Extracts f len k limit o (Err (NoRoom x.bytes)) o
    unfolding extraction length_in written require raise and_then and_next
    extract_no_room h =
        record {
          answer = rw (of.is, long, lt-leb x.bytes (length o) h);
          after = rw (of.is, long, lt-leb x.bytes (length o) h);
        }

    module _ (h : x.bytes ≤ length o) where
      extracted_is : extraction f len k limit (length o) ≡ Ok of.asked
      unfolding extraction require and_then and_next
      extracted_is = rw (of.is, long, le-leb x.bytes (length o) h)

      pub extract_fine : {o' : List ℕ} → o' ≡ sets o 0 (bytes_of f x) → Extracts f len k limit o (Ok x.bytes) o'
      unfolding length_in written raise and_then
      extract_fine g =
          record {
            answer = rw (extracted_is, long);
            after = g ∙ ap (λ (y : Extent). sets o 0 (bytes_of f y)) (sym of.by) ∙ rw extracted_is;
          }

pub ruleset extract_cases = (extract_none, extract_no_room, extract_fine)
