-- Which bytes of the file depend on which of the input's: those in a stream's pages on the stream's own, and no others on
-- any.
use mathlib.Core.Path.{◌≡◌, refl, sym, ◌∙◌}
use mathlib.Core.Bool.{Bool, true, false}
use mathlib.Core.Logic.{inl, inr, ⊎_elim}
use mathlib.Core.List.{List}
use Prim.Native.Nat.{ℕ, ◌+◌, ◌*◌, ◌%◌, ◌≤◌, ◌<◌}
use native.Mathlib.Omega.{arith}
use native.Mathlib.Nat.{add-mul, zero-mul}
use borrow.Author.Tests.{eqb-true, eqb-false}
use lib.Dec.{eqb}
use lib.ListN.{get_or}
use Rattle.outcome.proofs.OutcomeLaws.{below_or}
use Rattle.stream.specs.Stream.{pages_of}
use Rattle.container_layout.specs.Place.{rank, pages_with}
use Rattle.container_layout.specs.Layout.{present_bytes, pages_up_to, stream_pages, location_page, pages_used}
use Rattle.container_layout.specs.Container.{map_byte, stream_byte, data_byte, container}
use Rattle.container_layout.proofs.PlaceLaws.{times_up, times_le, data_rank}
use Rattle.container_layout.proofs.ContainerLaws.{stream_inside, stream_past, with_page, data_stream, container_header, container_pages, container_data}
use Rattle.container_writer_statements.specs.Accepted.{Accepted}
use Rattle.container_writer_statements.specs.Roles.{OfStream}
use Rattle.container_writer_statements.specs.Contents.{SameFor, OwnBytes}
use Rattle.container_writer_statements.proofs.AcceptedLaws.{large, big}
use Rattle.container_writer_statements.proofs.ByteLaws.{later_same, maps_same}
use Rattle.container_writer_statements.proofs.RoleLaws.{owned}

module _ {p : ℕ} {sizes : List ℕ} {given : ℕ} (a : Accepted p sizes given) (s t : List ℕ) where
  -- ---- in a stream's pages
  byte_same : (k : ℕ) → SameFor sizes k s t → (i : ℕ) → stream_byte sizes s k i ≡ stream_byte sizes t k i
  byte_same k same i =
      ⊎_elim
      (λ (l : i < present_bytes (get_or sizes k 0)). stream_inside sizes s k i l ∙ same i l ∙ sym (stream_inside sizes t k i l))
      (λ (l : present_bytes (get_or sizes k 0) ≤ i). stream_past sizes s k i l ∙ sym (stream_past sizes t k i l))
      (below_or i (present_bytes (get_or sizes k 0)))

  own_bytes : (k : ℕ) → SameFor sizes k s t → (n x : ℕ) → OfStream p sizes k n → x < p → container p sizes s (n * p + x) ≡ container p sizes t (n * p + x)
  own_bytes k same n x o l =
      let m = large a in
      let j : ℕ = o.among.which in
      let before : ℕ = pages_up_to p sizes k in
      let up = times_up p o.among.below in
      let within : j * p + x < pages_of p (get_or sizes k 0) * p = omega arith in
      let at : (before + j) * p + x ≡ before * p + (j * p + x) = omega (arith, add-mul before j p) in
      let byte : (bytes : List ℕ) → container p sizes bytes (n * p + x) ≡ stream_byte sizes bytes k (j * p + x) =
      λ bytes. rw (o.among.is, container_data p (big a) sizes bytes (before + j) x l, at) (data_stream p (big a) sizes bytes k o.there (j * p + x) within) in
      byte s ∙ byte_same k same (j * p + x) ∙ sym (byte t)

  -- ---- in any other
  abbrev free : ℕ → ℕ → ℕ
  free = map_byte p (location_page p sizes) (pages_used p sizes)

  module _ (n x : ℕ) (none : (k : ℕ) → OfStream p sizes k n → ⊥) (l : x < p) where
    -- a page that is neither the header's nor a map page comes after the streams'
    late : 0 < n → (n % p ≡ 1 → ⊥) → (n % p ≡ 2 → ⊥) → stream_pages p sizes ≤ rank p n
    late some one two =
        ⊎_elim
        (λ (r : rank p n < stream_pages p sizes). let o = owned p sizes (rank p n) n (sym (data_rank p (big a) n some one two)) r in absurd (none o.0 o.1))
        (λ (r : stream_pages p sizes ≤ rank p n). r)
        (below_or (rank p n) (stream_pages p sizes))

    pages_same : 0 < n → pages_with p free (data_byte p sizes s) (n * p + x) ≡ pages_with p free (data_byte p sizes t) (n * p + x)
    pages_same some = go (eqb (n % p) 1) (eqb (n % p) 2) refl refl
      where
        go : (y z : Bool) → eqb (n % p) 1 ≡ y → eqb (n % p) 2 ≡ z → pages_with p free (data_byte p sizes s) (n * p + x) ≡ pages_with p free (data_byte p sizes t) (n * p + x)
        go true z e f = maps_same p free _ _ n x l (inl (eqb-true _ _ e))
        go false true e f = maps_same p free _ _ n x l (inr (eqb-true _ _ f))
        go false false e f =
            let one = eqb-false (n % p) 1 e in
            let two = eqb-false (n % p) 2 f in
            with_page p (big a) free (data_byte p sizes s) x l n one two
            ∙ later_same p sizes s t (rank p n * p + x) (omega (arith, times_le p (late some one two)))
            ∙ sym (with_page p (big a) free (data_byte p sizes t) x l n one two)

    other_bytes : container p sizes s (n * p + x) ≡ container p sizes t (n * p + x)
    other_bytes =
        ⊎_elim
        (λ (m : n < 1).
        let first : n * p + x < p = (let z : n ≡ 0 = omega arith in rw (z, zero-mul) (omega arith)) in
        container_header p (big a) sizes s (n * p + x) first ∙ sym (container_header p (big a) sizes t (n * p + x) first))
        (λ (m : 0 < n).
        let after : p ≤ n * p + x = (let up = times_up p m in omega arith) in
        container_pages p (big a) sizes s (n * p + x) after
        ∙ pages_same m
        ∙ sym (container_pages p (big a) sizes t (n * p + x) after))
        (below_or n 1)

pub own_bytes_only : OwnBytes
own_bytes_only =
    record {
      own = λ p sizes given a s t k same n x. own_bytes a s t k same n x;
      other = λ p sizes given a s t n x. other_bytes a s t n x;
    }
