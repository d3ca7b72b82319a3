-- Demand 3 at the boundary, as `Isolation` proves it of the operations: a promise about g is one about f, and no second
-- answer satisfies it.
use Rattle.std.specs.Prelude.{Option}
use mathlib.Core.Path.{sym, ◌∙◌}
use mathlib.Core.List.{List}
use Prim.Native.Nat.{ℕ, min}
use lib.ListN.{length}
use Rattle.outcome.proofs.OutcomeLaws.{written_same}
use Rattle.parse_buffer.specs.Bytes.{File}
use Rattle.slices.specs.declared.SourceSlice.{SourceSlice}
use Rattle.msf.specs.Extraction.{bytes_in}
use Rattle.container_crossing.specs.Promises.{Opens, Counts, Maps, Extracts}
use Rattle.container_crossing.proofs.Statements.{single_valued}
use Rattle.isolation.specs.Listed.{ListedOpen, ListedCount, ListedMap, ListedBytes, Agree}
use Rattle.isolation.specs.Boundary.{Boundary}
use Rattle.isolation.proofs.Same.{stream_count_same}
use Rattle.isolation.proofs.StreamSame.{extraction_same, extracted_bytes}
use Rattle.isolation.proofs.Isolation.{opening_same, mapped_same, slices_same}

module _ (f g : File) (len : ℕ) where
  opens_as : Agree (ListedOpen f len) f g → (r v u : ℕ) → Opens g len r v u → Opens f len r v u
  opens_as agree r v u p =
      let same = opening_same f g len agree in
      record { answer = rw same p.answer; used_told = rw same p.used_told }

  counts_as : Agree (ListedCount f len) f g → (r v : ℕ) → Counts g len r v → Counts f len r v
  counts_as agree r v p = record { answer = rw (stream_count_same f g len agree) p.answer }

  maps_as : (k : ℕ) (limit : Option ℕ) → Agree (ListedMap f len k) f g → (offsets sizes : List ℕ) (r v u : ℕ) (o t : List ℕ) → Maps g len k limit offsets sizes r v u o t → Maps f len k limit offsets sizes r v u o t
  maps_as k limit agree offsets sizes r v u o t p =
      let room : ℕ = min (length offsets) (length sizes) in
      let same = mapped_same f g len k limit agree room in
      record {
        tells = rw same p.tells;
        offsets_after = p.offsets_after ∙ sym (slices_same f g len k limit agree (λ (s : SourceSlice). s.offset) room offsets);
        sizes_after = p.sizes_after ∙ sym (slices_same f g len k limit agree (λ (s : SourceSlice). s.size) room sizes);
      }

  extracts_as : (k : ℕ) (limit : Option ℕ) → Agree (ListedBytes f len k limit) f g → (out : List ℕ) (r v : ℕ) (o : List ℕ) → Extracts g len k limit out r v o → Extracts f len k limit out r v o
  extracts_as k limit agree out r v o p =
      let same = extraction_same f g len k limit agree (length out) in
      record {
        answer = rw same p.answer;
        after = p.after ∙ sym (written_same (bytes_in f) (bytes_in g) out same λ x e. extracted_bytes f g len k limit agree (length out) e);
      }

pub boundary : (f g : File) (len : ℕ) → Boundary f g len
boundary f g len =
    record {
      opening = λ agree a b p q. single_valued.opening f len a b p (opens_as f g len agree _ _ _ q);
      of_stream_count = λ agree a b p q. single_valued.of_stream_count f len a b p (counts_as f g len agree _ _ q);
      map = λ k limit offsets sizes agree a b p q.
          single_valued.map f len k limit offsets sizes a b p (maps_as f g len k limit agree offsets sizes _ _ _ _ _ q);
      extract = λ k limit out agree a b p q.
          single_valued.extract f len k limit out a b p (extracts_as f g len k limit agree out _ _ _ q);
    }
