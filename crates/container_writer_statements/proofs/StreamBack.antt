-- Extraction and mapping of a file that holds what is written: the bytes given for the stream, through the data pages that
-- it was given.
use mathlib.Core.Path.{◌≡◌, refl, sym, ◌∙◌, ap}
use mathlib.Core.Bool.{Bool, true, false}
use mathlib.Core.List.{List}
use Prim.Native.Nat.{ℕ, zero, suc, ◌+◌, ◌*◌, ◌/◌, ◌≤◌, ◌<◌}
use native.Mathlib.Omega.{arith}
use lib.Dec.{leb}
use lib.ListN.{length, get_or, length-take, length-drop}
use lib.Seq.{get_or-take, get_or-drop, ext_get_or}
use Rattle.std.specs.Prelude.{Option, Result, Ok, Err}
use Rattle.outcome.specs.Outcome.{and_next, and_then, ◌>>=◌, ◌>>◌, require}
use Rattle.outcome.specs.Refusal as paper
use Rattle.outcome.specs.Store.{written}
use Rattle.outcome.proofs.OutcomeLaws.{came, came_by, ok_is}
use Rattle.parse_buffer.specs.Bytes.{File, byte_at}
use Rattle.paged.specs.PageSize.{need}
use Rattle.paged.specs.Pages.{through}
use Rattle.paged.specs.Refusal.{refusal_in}
use Rattle.paged.specs.declared.refusal.Refusal.TheVariants.{NoRoom}
use Rattle.paged.proofs.SizeLaws.{need_index}
use Rattle.stream.specs.Stream.{pages_of, own_page}
use Rattle.extent.specs.Extent.{length_of, Asked, asked_of}
use Rattle.extent.proofs.ExtentLaws.{length_most}
use Rattle.slices.specs.Slices.{continues, slices_of, cut}
use Rattle.mapping.specs.Mapping.{slices_in, mapping, mapped}
use Rattle.msf.specs.Extraction.{bytes_in, extraction, length_in}
use Rattle.msf.proofs.CopyLaws.{through_length, through_at}
use Rattle.container_layout.specs.Layout.{present_bytes, bytes_up_to, pages_up_to}
use Rattle.container_layout.proofs.LayoutLaws.{pages_cover, bytes_next, bytes_rise}
use Rattle.container_layout.proofs.ContainerLaws.{present_size, stream_inside, data_stream}
use Rattle.container_writer_statements.specs.Accepted.{Accepted, Holds}
use Rattle.container_writer_statements.specs.ReadBack.{given_size, given_length, given_bytes, written_slices, given_mapping, ReadBack}
use Rattle.container_writer_statements.proofs.AcceptedLaws.{plan, large, big, through_back}
use Rattle.container_writer_statements.proofs.ReachBack.{opening_back, stream_count_back}
use Rattle.container_writer_statements.proofs.FoundBack.{Given, given, given_pages, onward, found_as, pages_within, own_back, asked_back, readable_back}

-- ---- a value that passes one test more
module _ {E A B : Type 0} (why : E) (x : A) where
  kept : (b : Bool) (g : A → B) → (require b why >> Ok x) >>= (λ y. Ok (g y)) ≡ require b why >> Ok (g x)
  unfolding require and_then and_next
  kept true g = refl
  kept false g = refl

  kept_written : {D : Type 0} (b : Bool) (y : B) (s : A → List D) (t : B → List D) (store : List D) → s x ≡ t y → written (require b why >> Ok x) s store ≡ written (require b why >> Ok y) t store
  unfolding require written and_next
  kept_written true y s t store e = rw e
  kept_written false y s t store e = refl

-- ---- the slices of equal pages
continues_same : {page page' : ℕ → ℕ} (n : ℕ) → ((j : ℕ) → j < suc n → page j ≡ page' j) → continues page n ≡ continues page' n
continues_same zero h = refl
continues_same (suc n) h = rw (h n (omega arith), h (suc n) (omega arith))

slices_same : (p : ℕ) {page page' : ℕ → ℕ} (n : ℕ) → ((j : ℕ) → j < n → page j ≡ page' j) → slices_of p page n ≡ slices_of p page' n
unfolding slices_of
slices_same p zero h = refl
slices_same p (suc n) h = rw (slices_same p n (λ j l. h j (omega arith)), continues_same n h, h n (omega arith))

module _ {p : ℕ} {sizes bytes : List ℕ} (a : Accepted p sizes (length bytes)) {f : File} {len : ℕ} (h : Holds f len p sizes bytes) (k : ℕ) (limit : Option ℕ) where
  abbrev asked_as : ℕ → Asked
  asked_as size = asked_of limit (found_as a h k size)

  -- ---- extraction
  abbrev roomy : {A : Type 0} → ℕ → ℕ → A → Result A paper.Refusal
  roomy room size x = require (leb (length_of limit size) room) (refusal_in (NoRoom (length_of limit size))) >> Ok x

  extraction_back : (room : ℕ) → extraction f len k limit room ≡ given_size sizes k >>= λ size. roomy room size (asked_as size)
  unfolding extraction and_then
  extraction_back room =
      onward (given_size sizes k) (λ size. Ok (asked_as size)) _ _ (readable_back a h k limit) (λ size e. refl)

  length_back : (room : ℕ) → length_in (extraction f len k limit room) ≡ given_length sizes k limit room
  unfolding length_in given_length
  length_back room =
      onward (given_size sizes k) _ _ _ (extraction_back room) (λ size e. kept _ (asked_as size) _ (λ x. x.length))

  -- byte i of the stream, if its size is given
  module _ {size : ℕ} (g : Given sizes k size) where
    present_is : size ≡ present_bytes (get_or sizes k 0)
    present_is = present_size size g.present ∙ ap present_bytes g.is

    bytes_within : bytes_up_to sizes k + size ≤ length bytes
    bytes_within =
        let l = g.there in
        omega (arith, present_is, bytes_next sizes k, bytes_rise sizes (k + 1) (length sizes) (omega arith), (plan a).sum)

    byte_back : (i : ℕ) → i < size → f (through p (own_page f (found_as a h k size)) i) ≡ byte_at bytes (bytes_up_to sizes k + i)
    byte_back i l =
        let m = large a in
        let j : i / p < need p size = need_index p size (omega arith) i l in
        let inside : i < pages_of p (get_or sizes k 0) * p = omega (arith, pages_cover p (omega arith) (get_or sizes k 0), present_is) in
        rw (own_back a h k g (i / p) j)
        (through_back a h (pages_up_to p sizes k) i (omega (arith, pages_within a h k g))
        ∙ data_stream p (big a) sizes bytes k g.there i inside
        ∙ stream_inside sizes bytes k i (omega (arith, present_is)))

    bytes_back : bytes_in f (asked_as size) ≡ given_bytes sizes bytes k (length_of limit size)
    bytes_back =
        let n : ℕ = length_of limit size in
        let most : n ≤ size = length_most limit size in
        let page = own_page f (found_as a h k size) in
        let long = through_length f p page n in
        ext_get_or 0 _ _ (long ∙ simp (length-take, length-drop) (omega (arith, bytes_within)))
        (λ i l. let m : i < n = omega arith in through_at f p page n i m ∙ byte_back i (omega arith) ∙ rw (get_or-take, get_or-drop))

  store_back : (out : List ℕ) → written (extraction f len k limit (length out)) (bytes_in f) out ≡ written (given_length sizes k limit (length out)) (given_bytes sizes bytes k) out
  unfolding given_length and_then written
  store_back out = ap (λ o. written o (bytes_in f) out) (extraction_back (length out)) ∙ go (given_size sizes k) refl
    where
      go : (o : Result ℕ paper.Refusal) → given_size sizes k ≡ o → written (o >>= λ size. roomy (length out) size (asked_as size)) (bytes_in f) out ≡ written (o >>= λ size. roomy (length out) size (length_of limit size)) (given_bytes sizes bytes k) out
      go (Ok size) e = kept_written _ (asked_as size) _ (length_of limit size) (bytes_in f) (given_bytes sizes bytes k) out (bytes_back (given sizes k e))
      go (Err w) e = refl

  -- ---- mapping
  slices_back : {size : ℕ} → Given sizes k size → slices_in f (asked_as size) ≡ written_slices p sizes k limit
  slices_back {size} g =
      rw (← given_pages p g, ← g.is) (ap (cut (length_of limit size)) (slices_same p (need p size) (own_back a h k g)))

  abbrev enough : {A : Type 0} → ℕ → A → Result A paper.Refusal
  enough room x = require (leb (length (written_slices p sizes k limit)) room) (refusal_in (NoRoom (length (written_slices p sizes k limit)))) >> Ok x

  mapping_back : (room : ℕ) → mapping f len k limit room ≡ given_size sizes k >>= λ size. enough room (asked_as size)
  unfolding mapping and_then
  mapping_back room =
      onward (given_size sizes k) (λ size. Ok (asked_as size)) _ _ (asked_back a h k limit) (λ size e. rw (slices_back (given sizes k e)))

  mapped_back : (room : ℕ) → mapped f (mapping f len k limit room) ≡ given_mapping p sizes k limit room
  unfolding mapped given_mapping
  mapped_back room =
      onward (given_size sizes k) _ _ _ (mapping_back room)
      (λ size e. kept _ (asked_as size) _ (λ x. record { slices = length (slices_in f x); length = x.length }) ∙ rw (slices_back (given sizes k e)))

  slices_of_lem : (room : ℕ) {x : Asked} → mapping f len k limit room ≡ Ok x → slices_in f x ≡ written_slices p sizes k limit
  slices_of_lem room e =
      came_by _ _ (sym (mapping_back room) ∙ e) λ size g e₁.
      came _ _ e₁ λ _ _ e₂.
      rw (← ok_is e₂) (slices_back (given sizes k g))

pub read_back : ReadBack
read_back =
    record {
      is = λ f len p sizes bytes a h.
          record {
            opened = opening_back a h;
            counted = stream_count_back a h;
            extracted = length_back a h;
            bytes_are = store_back a h;
            maps = mapped_back a h;
            slices_are = slices_of_lem a h;
          };
    }
