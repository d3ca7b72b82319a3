-- Demand 3. What holds of the definitions (`Same`, `StreamSame`) holds of the operations, for each promise gives its whole
-- answer and every store by definitions: a promise about g is one about f, and no second answer satisfies it.
use Rattle.std.specs.Prelude.{Option, Result}
use mathlib.Core.Path.{◌≡◌, sym, ◌∙◌, ap}
use mathlib.Core.List.{List, map}
use Prim.Native.Nat.{ℕ, min}
use lib.ListN.{length}
use Rattle.outcome.specs.Store.{written}
use Rattle.outcome.proofs.OutcomeLaws.{bind_same, written_same}
use Rattle.parse_buffer.specs.Bytes.{File}
use Rattle.header.specs.Header.{opening}
use Rattle.header.specs.Promises.{Opening}
use Rattle.directory.specs.Promises.{Counting}
use Rattle.slices.specs.declared.SourceSlice.{SourceSlice}
use Rattle.mapping.specs.Mapping.{slices_in, mapping, mapped}
use Rattle.msf.specs.Extraction.{bytes_in, length_in}
use Rattle.msf.specs.Promises.{Maps, Extracts}
use Rattle.slice_store.specs.Promises.{MapsInto}
use Rattle.container_statements.proofs.Statements.{single_valued}
use Rattle.isolation.specs.Listed.{ListedOpen, ListedCount, ListedMap, ListedBytes, Agree}
use Rattle.isolation.specs.Isolation.{Isolation}
use Rattle.isolation.proofs.Same.{located_same, stream_count_same}
use Rattle.isolation.proofs.StreamSame.{mapping_same, mapped_slices, extraction_same, extracted_bytes}
use Rattle.header.specs.declared.Container.{Container}
use Rattle.paged.specs.declared.refusal.Refusal.{Refusal}
use Rattle.mapping.specs.declared.Mapped.{Mapped}

module _ (f g : File) (len : ℕ) where
  pub opening_same : Agree (ListedOpen f len) f g → opening f len ≡ opening g len
  unfolding opening
  opening_same agree = rw (located_same f g len agree)

  opening_as : Agree (ListedOpen f len) f g → (r : Result Container Refusal) → Opening g len r → Opening f len r
  opening_as agree r p = record { answer = p.answer ∙ sym (opening_same agree) }

  counting_as : Agree (ListedCount f len) f g → (r : Result ℕ Refusal) → Counting g len r → Counting f len r
  counting_as agree r p = record { answer = p.answer ∙ sym (stream_count_same f g len agree) }

  module _ (k : ℕ) (limit : Option ℕ) (agree : Agree (ListedMap f len k) f g) where
    pub mapped_same : (room : ℕ) → mapped f (mapping f len k limit room) ≡ mapped g (mapping g len k limit room)
    unfolding mapped
    mapped_same room =
        bind_same (mapping_same f g len k agree limit room) λ x m.
        rw (mapped_slices f g len k agree limit room m)

    pub slices_same : (part : SourceSlice → ℕ) (room : ℕ) (store : List ℕ) → written (mapping f len k limit room) (λ x. map part (slices_in f x)) store ≡ written (mapping g len k limit room) (λ x. map part (slices_in g x)) store
    slices_same part room store =
        written_same _ _ store (mapping_same f g len k agree limit room) λ x m.
        rw (mapped_slices f g len k agree limit room m)

    maps_as : (offsets sizes : List ℕ) (r : Result Mapped Refusal) (o t : List ℕ) → Maps g len k limit offsets sizes r o t → Maps f len k limit offsets sizes r o t
    maps_as offsets sizes r o t p =
        let room : ℕ = min (length offsets) (length sizes) in
        record {
          answer = p.answer ∙ sym (mapped_same room);
          offsets_after = p.offsets_after ∙ sym (slices_same (λ (s : SourceSlice). s.offset) room offsets);
          sizes_after = p.sizes_after ∙ sym (slices_same (λ (s : SourceSlice). s.size) room sizes);
        }

    maps_into_as : (store : List SourceSlice) (r : Result Mapped Refusal) (s : List SourceSlice) → MapsInto g len k limit store r s → MapsInto f len k limit store r s
    maps_into_as store r s p =
        record {
          answer = p.answer ∙ sym (mapped_same (length store));
          after = p.after ∙ sym (written_same (slices_in f) (slices_in g) store (mapping_same f g len k agree limit (length store)) λ x m. mapped_slices f g len k agree limit (length store) m);
        }

  module _ (k : ℕ) (limit : Option ℕ) (agree : Agree (ListedBytes f len k limit) f g) where
    extracts_as : (out : List ℕ) (r : Result ℕ Refusal) (o : List ℕ) → Extracts g len k limit out r o → Extracts f len k limit out r o
    extracts_as out r o p =
        let same = extraction_same f g len k limit agree (length out) in
        record {
          answer = p.answer ∙ ap length_in (sym same);
          after = p.after ∙ sym (written_same (bytes_in f) (bytes_in g) out same λ x e. extracted_bytes f g len k limit agree (length out) e);
        }

pub isolation : (f g : File) (len : ℕ) → Isolation f g len
isolation f g len =
    record {
      opening = λ agree r r' p q. single_valued.opening f len r r' p (opening_as f g len agree r' q);
      of_stream_count = λ agree r r' p q. single_valued.of_stream_count f len r r' p (counting_as f g len agree r' q);
      map = λ k limit offsets sizes agree r r' o o' t t' p q.
          single_valued.map f len k limit offsets sizes r r' o o' t t' p (maps_as f g len k limit agree offsets sizes r' o' t' q);
      extract = λ k limit out agree r r' o o' p q.
          single_valued.extract f len k limit out r r' o o' p (extracts_as f g len k limit agree out r' o' q);
      map_into = λ k limit store agree r r' s s' p q.
          single_valued.map_into f len k limit store r r' s s' p (maps_into_as f g len k limit agree store r' s' q);
    }
