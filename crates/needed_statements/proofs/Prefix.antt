-- First from f to g at the length of f, by demand 3; then, of g, to its own length (`SameLength`). The length of f holds the
-- parts of g because it holds those of f, and these are the same.
use Rattle.std.specs.Prelude.{Option, Result}
use mathlib.Core.Path.{◌≡◌, sym, ◌∙◌}
use mathlib.Core.List.{List}
use Prim.Native.Nat.{ℕ, min}
use lib.ListN.{length}
use Rattle.parse_buffer.specs.Bytes.{File}
use Rattle.header.specs.Promises.{Opening}
use Rattle.directory.specs.Directory.{stream_count}
use Rattle.directory.specs.Promises.{Counting}
use Rattle.slices.specs.declared.SourceSlice.{SourceSlice}
use Rattle.mapping.specs.Mapping.{mapping}
use Rattle.msf.specs.Promises.{Maps}
use Rattle.slice_store.specs.Promises.{MapsInto}
use Rattle.needed.specs.Needed.{needing}
use Rattle.needed.specs.Promises.{Needs}
use Rattle.needed.specs.declared.Stage.{Stage}
use Rattle.needed.specs.declared.Stage.TheVariants.{LocationList, Directory}
use Rattle.isolation.specs.Listed.{ListedCount, ListedMap, Agree}
use Rattle.isolation.specs.Boundary.{counts, maps}
use Rattle.isolation.proofs.Isolation.{isolation}
use Rattle.isolation.proofs.Boundary.{boundary}
use Rattle.isolation.proofs.Same.{lies_same}
use Rattle.needed_statements.specs.Isolation.{ListedList, ListedStage, needs}
use Rattle.needed_statements.specs.Prefix.{Holds, Prefix}
use Rattle.needed_statements.proofs.Isolation as stages
use Rattle.needed_statements.proofs.SameLength.{Lies, holds_lies, opening_len, list_len, directory_len, stream_count_len, mapping_len}
use Rattle.header.specs.declared.Container.{Container}
use Rattle.paged.specs.declared.refusal.Refusal.{Refusal}
use Rattle.mapping.specs.declared.Mapped.{Mapped}

-- each list has the one before
as_list : (f g : File) (len : ℕ) → Agree (ListedCount f len) f g → Agree (ListedList f len) f g
as_list f g len agree i (ListedList.opening l) = agree i (ListedCount.opening l)
as_list f g len agree i (ListedList.list {j} {h} o inside l w) = agree i (ListedCount.list {j = j} {h = h} o inside l w)

as_count : (f g : File) (len k : ℕ) → Agree (ListedMap f len k) f g → Agree (ListedCount f len) f g
as_count f g len k agree i l = agree i (ListedMap.counting l)

-- a part of g lies where that of f does
lies_as : (f g : File) (len : ℕ) (stage : Stage) → Agree (ListedStage f len stage) f g → Lies f len stage → Lies g len stage
lies_as f g len stage agree lies =
    record {
      is = λ e.
          let o = stages.placed_same f g len stage agree ∙ e in
          sym (lies_same _ _ _ _ (stages.pages_same f g len stage agree o)) ∙ lies.is o;
    }

module _ (f g : File) (len len' : ℕ) (long : Holds f len) (long' : Holds g len') where
  needing_as : (stage : Stage) → Agree (ListedStage f len stage) f g → (room : ℕ) → needing g len' stage room ≡ needing g len stage room
  needing_as LocationList agree room = list_len g len' len long'.block long.block room
  needing_as Directory agree room =
      directory_len g len' len long'.block long.block (holds_lies long' LocationList)
      (lies_as f g len LocationList (stages.list_opens f g len agree) (holds_lies long LocationList))
      room

  module _ (agree : Agree (ListedCount f len) f g) where
    abbrev list : Lies g len LocationList
    list = lies_as f g len LocationList (stages.list_opens f g len (as_list f g len agree)) (holds_lies long LocationList)

    abbrev directory : Lies g len Directory
    directory = lies_as f g len Directory (as_list f g len agree) (holds_lies long Directory)

    counting_as : stream_count g len' ≡ stream_count g len
    counting_as =
        stream_count_len g len' len long'.block long.block (holds_lies long' LocationList) list
        (holds_lies long' Directory) directory

    mapping_as : (k : ℕ) (limit : Option ℕ) (room : ℕ) → mapping g len' k limit room ≡ mapping g len k limit room
    mapping_as =
        mapping_len g len' len long'.block long.block (holds_lies long' LocationList) list
        (holds_lies long' Directory) directory

  -- ---- what g answers at its own length it answers at that of f
  opening_at : (r : Result Container Refusal) → Opening g len' r → Opening g len r
  opening_at r q = record { answer = q.answer ∙ opening_len g len' len long'.block long.block }

  module _ (stage : Stage) (agree : Agree (ListedStage f len stage) f g) (offsets sizes : List ℕ) where
    abbrev needing_is : needing g len' stage (min (length offsets) (length sizes)) ≡ needing g len stage (min (length offsets) (length sizes))
    needing_is = needing_as stage agree (min (length offsets) (length sizes))

    needs_at : (r : Result Mapped Refusal) (o t : List ℕ) → Needs g len' stage offsets sizes r o t → Needs g len stage offsets sizes r o t
    needs_at r o t q =
        record {
          answer = rw (← needing_is) q.answer;
          offsets_after = rw (← needing_is) q.offsets_after;
          sizes_after = rw (← needing_is) q.sizes_after;
        }

    needs_told_at : (r : ℕ × ℕ × ℕ × List ℕ × List ℕ) → needs g len' stage offsets sizes r → needs g len stage offsets sizes r
    needs_told_at r q =
        record {
          tells = rw (← needing_is) q.tells;
          offsets_after = rw (← needing_is) q.offsets_after;
          sizes_after = rw (← needing_is) q.sizes_after;
        }

  module _ (agree : Agree (ListedCount f len) f g) where
    counting_at : (r : Result ℕ Refusal) → Counting g len' r → Counting g len r
    counting_at r q = record { answer = q.answer ∙ counting_as agree }

    counts_at : (r : ℕ × ℕ) → counts g len' r → counts g len r
    counts_at r q = record { answer = rw (← counting_as agree) q.answer }

  module _ (k : ℕ) (limit : Option ℕ) (agree : Agree (ListedMap f len k) f g) where
    abbrev mapping_is : (room : ℕ) → mapping g len' k limit room ≡ mapping g len k limit room
    mapping_is = mapping_as (as_count f g len k agree) k limit

    module _ (offsets sizes : List ℕ) where
      maps_at : (r : Result Mapped Refusal) (o t : List ℕ) → Maps g len' k limit offsets sizes r o t → Maps g len k limit offsets sizes r o t
      maps_at r o t q =
          record {
            answer = rw (← mapping_is (min (length offsets) (length sizes))) q.answer;
            offsets_after = rw (← mapping_is (min (length offsets) (length sizes))) q.offsets_after;
            sizes_after = rw (← mapping_is (min (length offsets) (length sizes))) q.sizes_after;
          }

      maps_told_at : (r : ℕ × ℕ × ℕ × List ℕ × List ℕ) → maps g len' k limit offsets sizes r → maps g len k limit offsets sizes r
      maps_told_at r q =
          record {
            tells = rw (← mapping_is (min (length offsets) (length sizes))) q.tells;
            offsets_after = rw (← mapping_is (min (length offsets) (length sizes))) q.offsets_after;
            sizes_after = rw (← mapping_is (min (length offsets) (length sizes))) q.sizes_after;
          }

    maps_into_at : (store : List SourceSlice) (r : Result Mapped Refusal) (s : List SourceSlice) → MapsInto g len' k limit store r s → MapsInto g len k limit store r s
    maps_into_at store r s q =
        record {
          answer = rw (← mapping_is (length store)) q.answer;
          after = rw (← mapping_is (length store)) q.after;
        }

pub prefix : (f g : File) (len len' : ℕ) → Holds f len → Holds g len' → Prefix f g len len'
prefix f g len len' long long' =
    record {
      opening = λ agree r r' p q. (isolation f g len).opening agree r r' p (opening_at f g len len' long long' r' q);
      needed_to_map = λ stage offsets sizes agree r r' o o' t t' p q.
          (stages.isolation f g len stage offsets sizes).needed_to_map agree r r' o o' t t' p
          (needs_at f g len len' long long' stage agree offsets sizes r' o' t' q);
      of_stream_count = λ agree r r' p q.
          (isolation f g len).of_stream_count agree r r' p (counting_at f g len len' long long' agree r' q);
      map = λ k limit offsets sizes agree r r' o o' t t' p q.
          (isolation f g len).map k limit offsets sizes agree r r' o o' t t' p
          (maps_at f g len len' long long' k limit agree offsets sizes r' o' t' q);
      map_into = λ k limit store agree r r' s s' p q.
          (isolation f g len).map_into k limit store agree r r' s s' p
          (maps_into_at f g len len' long long' k limit agree store r' s' q);
      needed_to_map_boundary = λ stage offsets sizes agree a b p q.
          (stages.isolation f g len stage offsets sizes).boundary agree a b p
          (needs_told_at f g len len' long long' stage agree offsets sizes b q);
      stream_count_boundary = λ agree a b p q.
          (boundary f g len).of_stream_count agree a b p (counts_at f g len len' long long' agree b q);
      map_boundary = λ k limit offsets sizes agree a b p q.
          (boundary f g len).map k limit offsets sizes agree a b p
          (maps_told_at f g len len' long long' k limit agree offsets sizes b q);
    }
