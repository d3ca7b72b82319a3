-- What slices name. Laid end to end they have a byte for each place that they name, and a place for each byte; of a
-- stream's slices, `container` says where its bytes stand, so in which of its pages.
use mathlib.Core.Path.{◌≡◌, sym, ◌∙◌}
use mathlib.Core.Logic.{⊎_elim}
use mathlib.Core.List.{List, [], ◌∷◌}
use Prim.Native.Nat.{ℕ, ◌+◌, ◌-◌, ◌≤◌, ◌<◌}
use native.Mathlib.Omega.{arith}
use borrow.Author.Tests.{lt-ltb, le-ltb}
use Rattle.std.specs.Prelude.{Ok, Option}
use Rattle.outcome.proofs.OutcomeLaws.{below_or}
use Rattle.parse_buffer.specs.Bytes.{File}
use Rattle.paged.specs.PageSize.{need}
use Rattle.paged.specs.Pages.{through}
use Rattle.paged.proofs.SizeLaws.{need_index, need_least}
use Rattle.stream.specs.Stream.{own_page, own_pages}
use Rattle.slices.specs.Slices.{total, place_of}
use Rattle.slices.specs.declared.SourceSlice.{SourceSlice}
use Rattle.extent.specs.Extent.{Asked, asked}
use Rattle.mapping.specs.Mapping.{slices_in}
use Rattle.container_statements.proofs.Statements.{large, held, is_total, is_place}
use Rattle.isolation.specs.Listed.{Named}
use Rattle.isolation.specs.NamedExactly.{StreamByte, InPages, NamedExactly}
use Rattle.isolation.proofs.InPagesLaws.{byte_in_pages}

-- ---- slices laid end to end
pub named : (xs : List SourceSlice) (i : ℕ) → i < total xs → Named xs (place_of xs i)
unfolding total place_of
named [] i l = absurd (omega arith)
named (s ∷ rest) i l =
    ⊎_elim
    (λ (m : i < s.size). rw (lt-ltb i s.size m) (Named.here {i = s.offset + i} {s = s} {rest = rest} (omega arith) (omega arith)))
    (λ (m : s.size ≤ i). rw (le-ltb i s.size m) (Named.there (named rest (i - s.size) (omega arith))))
    (below_or i s.size)

pub record ByteOf (xs : List SourceSlice) (i : ℕ) : Type 0 where
  pub index : ℕ
  pub below : index < total xs
  pub at : place_of xs index ≡ i

pub byte_of : (xs : List SourceSlice) (i : ℕ) → Named xs i → ByteOf xs i
unfolding total place_of
byte_of [] i x' = elim x' [ ]
byte_of (s ∷ rest) i (Named.here l m) =
    let low : i - s.offset < s.size = omega arith in
    record {
      index = i - s.offset;
      below = omega arith;
      at = rw (lt-ltb (i - s.offset) s.size low) (omega arith);
    }
byte_of (s ∷ rest) i (Named.there n) =
    let b = byte_of rest i n in
    let back : s.size + b.index - s.size ≡ b.index = omega arith in
    record {
      index = s.size + b.index;
      below = omega (arith, b.below);
      at = rw (le-ltb (s.size + b.index) s.size (omega arith), back) b.at;
    }

-- ---- a stream's slices
module _ (f : File) (len k : ℕ) (limit : Option ℕ) {x : Asked} (p : asked f len k limit ≡ Ok x) where
  pub is_named : (j : ℕ) → j < x.length → Named (slices_in f x) (through x.found.header.pagesize (own_page f x.found) j)
  is_named j l =
      rw (← is_place f len k limit p j l) (named (slices_in f x) j (rw (is_total f len k limit p) l))

  pub stream_byte_lem : (i : ℕ) → Named (slices_in f x) i → StreamByte f x i
  stream_byte_lem i n =
      let b = byte_of (slices_in f x) i n in
      let l : b.index < x.length = rw (is_total f len k limit p) at b.below in
      record { index = b.index; below = l; at = sym b.at ∙ is_place f len k limit p b.index l }

  -- the pages that hold what is asked for are among the stream's own
  pub few : need x.found.header.pagesize x.length ≤ own_pages x.found
  few =
      need_least x.found.header.pagesize x.length (large f len k limit p) (own_pages x.found) (held f len k limit p)

  pub named_in_pages : (i : ℕ) → Named (slices_in f x) i → InPages x.found.header.pagesize (own_page f x.found) (own_pages x.found) i
  named_in_pages i n =
      let b = stream_byte_lem i n in
      let pos = large f len k limit p in
      let l = need_index x.found.header.pagesize x.length pos b.index b.below in
      let m = few in
      rw b.at (byte_in_pages x.found.header.pagesize (own_page f x.found) (own_pages x.found) pos b.index (omega arith))

pub named_exactly : (f : File) (len k : ℕ) (limit : Option ℕ) → NamedExactly f len k limit
named_exactly f len k limit =
    record {
      is = λ p i. (stream_byte_lem f len k limit p i, λ b. rw b.at (is_named f len k limit p b.index b.below));
      in_pages = λ p i n. named_in_pages f len k limit p i n;
    }
