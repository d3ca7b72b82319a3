-- Finding stream k in a file that holds what is written: refusal 5 where no size is given for it, and else the size given
-- and the data pages after those of the streams before it.
use mathlib.Core.Path.{◌≡◌, refl, sym, ◌∙◌, ap}
use mathlib.Core.Bool.{Bool, true, false, not}
use mathlib.Core.Logic.{⊎_elim}
use mathlib.Core.List.{List}
use Prim.Native.Nat.{ℕ, ◌+◌, ◌-◌, min, ◌≤◌, ◌<◌}
use native.Mathlib.Omega.{arith}
use borrow.Author.Tests.{ne_eqb, lt-ltb, le-ltb, ltb-true, eqb-false, not-true}
use lib.Dec.{eqb}
use lib.ListN.{length, get_or}
use Rattle.std.specs.Prelude.{Option, Result, Ok, Err}
use Rattle.outcome.specs.Outcome.{and_next, and_then, ◌>>=◌, ◌>>◌, require}
use Rattle.outcome.proofs.OutcomeLaws.{below_or, came, passed, ok_is}
use Rattle.parse_buffer.specs.Bytes.{File}
use Rattle.paged.specs.PageSize.{need}
use Rattle.paged.specs.Refusal.{refusal_in}
use Rattle.paged.specs.declared.refusal.Refusal.TheVariants.{StreamNotFound}
use Rattle.paged.proofs.SizeLaws.{need_rises}
use Rattle.header.specs.Header.{words}
use Rattle.stream.specs.Stream.{absent, pages_of, present, skipped_to, own_page, found}
use Rattle.stream.specs.declared.Found.{Found}
use Rattle.stream.specs.declared.Present.{Present}
use Rattle.extent.specs.Extent.{length_of, asked_of, asked, readable}
use Rattle.extent.proofs.ExtentLaws.{length_most}
use Rattle.container_layout.specs.Place.{data_page}
use Rattle.container_layout.specs.Layout.{pages_up_to, stream_pages}
use Rattle.container_layout.proofs.LayoutLaws.{pages_next, pages_rise}
use Rattle.container_writer_statements.specs.Accepted.{Accepted, Holds}
use Rattle.container_writer_statements.specs.ReadBack.{given_size}
use Rattle.container_writer_statements.proofs.AcceptedLaws.{large}
use Rattle.container_writer_statements.proofs.WordsBack.{count_back, size_back, entry_back, before_back}
use Rattle.container_writer_statements.proofs.ReachBack.{pages_fit, pages_lie, header_of, reached_back, holds_back}

-- ---- a size that is given
pub record Given (sizes : List ℕ) (k size : ℕ) : Type 0 where
  pub there : k < length sizes
  pub present : size ≡ absent → ⊥
  pub is : size ≡ get_or sizes k 0

pub given : (sizes : List ℕ) (k : ℕ) {size : ℕ} → given_size sizes k ≡ Ok size → Given sizes k size
unfolding given_size
given sizes k e =
    came _ _ e λ _ there e₁.
    came _ _ e₁ λ _ present e₂.
    record {
      there = ltb-true k (length sizes) (passed _ _ there);
      present = rw (← ok_is e₂) (eqb-false _ _ (not-true _ (passed _ _ present)));
      is = sym (ok_is e₂);
    }

pub given_pages : (p : ℕ) {sizes : List ℕ} {k size : ℕ} → Given sizes k size → need p size ≡ pages_of p (get_or sizes k 0)
unfolding pages_of
given_pages p {size = size} g = rw (← g.is, ne_eqb size absent g.present)

-- ---- a block that begins as another does goes on from there
pub onward : {E A B C : Type 0} (o : Result C E) (start : C → Result A E) {x : Result A E} (next : A → Result B E) (then : C → Result B E) → x ≡ o >>= start → ((c : C) → o ≡ Ok c → start c >>= next ≡ then c) → x >>= next ≡ o >>= then
unfolding and_then
onward (Ok c) start next then e h = ap (λ z. z >>= next) e ∙ h c refl
onward (Err why) start next then e h = ap (λ z. z >>= next) e

module _ {p : ℕ} {sizes bytes : List ℕ} (a : Accepted p sizes (length bytes)) {f : File} {len : ℕ} (h : Holds f len p sizes bytes) (k : ℕ) where
  -- ---- its size
  abbrev present_as : ℕ → Present
  present_as size = record { header = header_of a h; count = length sizes; size = size }

  present_back : present f len k ≡ given_size sizes k >>= λ size. Ok (present_as size)
  unfolding present given_size require and_then and_next
  present_back =
      ⊎_elim
      (λ (l : k < length sizes).
      rw (reached_back a h, holds_back a h 1 (omega arith), count_back a h, lt-ltb k (length sizes) l, holds_back a h (2 + k) (omega arith), size_back a h k l)
      (go (not (eqb (get_or sizes k 0) absent))))
      (λ (l : length sizes ≤ k). rw (reached_back a h, holds_back a h 1 (omega arith), count_back a h, le-ltb k (length sizes) l))
      (below_or k (length sizes))
    where
      go : (b : Bool) → require b (refusal_in (StreamNotFound (record { 0 = k }))) >> Ok (present_as (get_or sizes k 0)) ≡ (require b (refusal_in (StreamNotFound (record { 0 = k }))) >> Ok (get_or sizes k 0)) >>= λ size. Ok (present_as size)
      go true = refl
      go false = refl

  -- ---- where its page numbers stand, and which they are
  abbrev pub found_as : ℕ → Found
  found_as size = record { header = header_of a h; size = size; first = 1 + length sizes + pages_up_to p sizes k }

  -- the streams up to k have no more pages than all
  pub pages_within : {size : ℕ} → Given sizes k size → pages_up_to p sizes k + need p size ≤ stream_pages p sizes
  pages_within g =
      let l = g.there in
      omega (arith, given_pages p g, pages_next sizes p k, pages_rise sizes p (k + 1) (length sizes) (omega arith))

  skipped_back : skipped_to f len k ≡ given_size sizes k >>= λ size. Ok (found_as size)
  unfolding skipped_to require and_then and_next
  skipped_back =
      onward (given_size sizes k) (λ size. Ok (present_as size)) _ _ present_back
      (λ size e.
      let g = given sizes k e in
      let l = g.there in
      rw (holds_back a h (1 + length sizes) (omega arith), before_back a h k (omega arith), holds_back a h (1 + length sizes + pages_up_to p sizes k) (omega (arith, pages_within g))))

  pub own_back : {size : ℕ} → Given sizes k size → (j : ℕ) → j < need p size → own_page f (found_as size) j ≡ data_page p (pages_up_to p sizes k + j)
  own_back g j l =
      let place : 1 + length sizes + pages_up_to p sizes k + j ≡ 1 + length sizes + (pages_up_to p sizes k + j) = omega arith in
      rw place (entry_back a h (pages_up_to p sizes k + j) (omega (arith, pages_within g)))

  pub found_back : found f len k ≡ given_size sizes k >>= λ size. Ok (found_as size)
  unfolding found require and_then and_next
  found_back =
      onward (given_size sizes k) (λ size. Ok (found_as size)) _ _ skipped_back
      (λ size e.
      let g = given sizes k e in
      let w = pages_within g in
      let held : min (need p size) (words (header_of a h) - (1 + length sizes + pages_up_to p sizes k)) ≡ need p size = omega arith in
      rw (held, pages_fit a (pages_up_to p sizes k) (need p size) (own_back g) (omega arith), holds_back a h (1 + length sizes + pages_up_to p sizes k + need p size) (omega arith)))

  -- ---- what is asked of it, and that it lies in the file
  pub asked_back : (limit : Option ℕ) → asked f len k limit ≡ given_size sizes k >>= λ size. Ok (asked_of limit (found_as size))
  unfolding asked and_then
  asked_back limit = onward (given_size sizes k) (λ size. Ok (found_as size)) _ _ found_back (λ size e. refl)

  pub readable_back : (limit : Option ℕ) → readable f len k limit ≡ given_size sizes k >>= λ size. Ok (asked_of limit (found_as size))
  unfolding readable and_then and_next
  readable_back limit =
      onward (given_size sizes k) (λ size. Ok (asked_of limit (found_as size))) _ _ (asked_back limit)
      (λ size e.
      let g = given sizes k e in
      let w = pages_within g in
      let m = large a in
      let few : need p (length_of limit size) ≤ need p size = need_rises p (omega arith) (length_most limit size) in
      rw (pages_lie a (pages_up_to p sizes k) (need p (length_of limit size)) (λ j l. own_back g j (omega arith)) (omega arith) len (length_of limit size) h.long))
