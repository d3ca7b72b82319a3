-- Line after line: what stands in the buffer after some of them, and that no more fit when the loop stops. Then what the
-- two operations return.
use mathlib.Core.Path.{◌≡◌, refl, sym, ◌∙◌, ap}
use mathlib.Core.Bool.{Bool, cond}
use mathlib.Core.List.{List, ◌++◌}
use Prim.Native.Nat.{ℕ, zero, suc, ◌+◌, ◌-◌, ◌≤◌, ◌<◌}
use native.Mathlib.Omega.{arith}
use native.Mathlib.Decide.{le_ind}
use borrow.Author.Tests.{le-leb, lt-leb, leb-true}
use lib.Dec.{leb}
use lib.ListN.{length, take, length-append}
use lib.Seq.{sets, length-sets, length-take-le}
use Rattle.std.specs.Prelude.{Result, Ok, Err}
use Rattle.outcome.specs.Outcome.{and_then, raise}
use Rattle.outcome.specs.Refusal as paper
use Rattle.outcome.proofs.OutcomeLaws.{by_test, came_by, ok_is}
use Rattle.outcome.specs.Store.{written}
use Rattle.store.specs.Putting.{Putting}
use Rattle.store.proofs.SetsLaws.{sets_append}
use Rattle.store.proofs.PutLaws.{put_first}
use Rattle.parse_buffer.specs.Bytes.{File}
use Rattle.listing_text.specs.Text.{refusal_text}
use Rattle.listing_whole.specs.Whole.{list_refusal_in, told, listable}
use Rattle.listing_whole.specs.Inner.{Judges}
use Rattle.listing_whole.proofs.WholeLaws.{whole_is, whole_at, refused_whole}
use Rattle.listing_whole.specs.declared.refusal.ListRefusal.{ListRefusal}
use Rattle.listing_whole.specs.declared.Listable.{Listable}
use Rattle.listing_line.specs.Line.{line_at}
use Rattle.listing.specs.Listing.{lines_from, line_of, place_of, most, lines_in, fitting, text_of, part_in, part_of}
use Rattle.listing.specs.Promises.{Lists, Refuses}
use Rattle.listing.specs.Inner.{Writes}
use Rattle.listing.proofs.PlaceLaws.{place_end}
use Rattle.listing.specs.declared.place.Place.{Place}
use Rattle.listing.specs.declared.place.Place.TheVariants.{End}
use Rattle.listing.specs.declared.Part.{Part}

-- ---- the most lines that fit
module _ (room : ℕ) (line : ℕ → List ℕ) (from : ℕ) where
  longer : (m : ℕ) → length (lines_from line from m) ≤ length (lines_from line from (suc m))
  unfolding lines_from
  longer m = rw length-append (omega arith)

  most_all : (m : ℕ) → length (lines_from line from m) ≤ room → most room line from m ≡ m
  unfolding most
  most_all zero l = refl
  most_all (suc m) l = rw (le-leb _ _ l)

  most_stops : (m all : ℕ) → m < all → length (lines_from line from m) ≤ room → room < length (lines_from line from (suc m)) → most room line from all ≡ m
  unfolding most
  most_stops m all l fits over = reached.1
    where
      reached : (room < length (lines_from line from all)) × (most room line from all ≡ m)
      reached =
          le_ind (λ (k : ℕ). (room < length (lines_from line from k)) × (most room line from k ≡ m))
          (over, rw (lt-leb _ _ over) (most_all m fits))
          (λ k _ e.
          let o : room < length (lines_from line from (suc k)) = omega (arith, e.0, longer k) in
          (o, rw (lt-leb _ _ o) e.1))
          all l

  pub most_fits : (m : ℕ) → length (lines_from line from (most room line from m)) ≤ room
  unfolding most lines_from
  most_fits zero = omega arith
  most_fits (suc m) =
      by_test (λ (k : ℕ). length (lines_from line from k) ≤ room) (leb (length (lines_from line from (suc m))) room)
      (λ e. leb-true _ _ e)
      (λ _. most_fits m)

-- ---- `write_lines`
-- the lines from one up to another
pub record SoFar (line : ℕ → List ℕ) (from i at : ℕ) (out₀ out : List ℕ) : Type 0 where
  pub begun : from ≤ i
  pub bytes : at ≡ length (lines_from line from (i - from))
  pub fits : at ≤ length out₀
  pub store : out ≡ sets out₀ 0 (lines_from line from (i - from))

pub so_none : (line : ℕ → List ℕ) (from : ℕ) (out : List ℕ) → SoFar line from from 0 out out
unfolding lines_from
so_none line from out =
    let z : from - from ≡ 0 = omega arith in
    record { begun = omega arith; bytes = rw z; fits = omega arith; store = rw z }

module _ {line : ℕ → List ℕ} {from i at : ℕ} {out₀ out : List ℕ} (s : SoFar line from i at out₀ out) where
  pub same_out : length out ≡ length out₀
  same_out = ap length s.store ∙ length-sets out₀ 0 (lines_from line from (i - from))

  pub so_inside : at ≤ length out
  so_inside = omega (arith, same_out, s.fits)

  -- line i is at the front of the text
  module _ {t t' : List ℕ} {n : ℕ} (p : Putting (line i) t 0 t' n) where
    is_next : lines_from line from (suc (i - from)) ≡ lines_from line from (i - from) ++ line i
    unfolding lines_from
    is_next = let e : from + (i - from) ≡ i = omega (arith, s.begun) in rw e

    many : length (lines_from line from (suc (i - from))) ≡ at + n
    many =
        ap length is_next ∙ length-append (lines_from line from (i - from)) (line i) ∙ omega (arith, s.bytes, p.place)

    pub so_room : n ≤ length out - at → at + length (take n t') ≤ length out
    so_room l = rw (put_first p) (omega (arith, same_out, s.fits, p.place))

    pub so_more : {out' : List ℕ} {at' : ℕ} → n ≤ length out - at → Putting (take n t') out at out' at' → SoFar line from (i + 1) at' out₀ out'
    so_more {out'} {at'} l q =
        let next : i + 1 - from ≡ suc (i - from) = omega (arith, s.begun) in
        let e : take n t' ≡ line i = put_first p in
        let place : at' ≡ at + n = q.place ∙ ap (λ (xs : List ℕ). at + length xs) e ∙ omega (arith, p.place) in
        let run : out' ≡ sets out at (line i) = q.store ∙ ap (sets out at) e in
        let start : at ≡ 0 + length (lines_from line from (i - from)) = omega (arith, s.bytes) in
        record {
          begun = omega (arith, s.begun);
          bytes = rw (next, many) place;
          fits = omega (arith, same_out, s.fits);
          store = rw (next, is_next) (run ∙ rw (s.store, start) (sets_append (lines_from line from (i - from)) (line i) out₀ 0));
        }

    -- it does not fit
    stopped : (last : ℕ) → i ≤ last → length out - at < n → most (length out₀) line from (1 + last - from) ≡ i - from
    stopped last l over =
        let b = s.begun in
        let fits : length (lines_from line from (i - from)) ≤ length out₀ = omega (arith, s.bytes, s.fits) in
        let past : length out₀ < length (lines_from line from (suc (i - from))) = omega (arith, many, same_out, s.fits) in
        most_stops (length out₀) line from (i - from) (1 + last - from) (omega arith) fits past

  -- it is past the last
  ended : (last : ℕ) → last < i → i ≤ 1 + last → most (length out₀) line from (1 + last - from) ≡ i - from
  ended last l m =
      let all : 1 + last - from ≡ i - from = omega arith in
      let fits : length (lines_from line from (i - from)) ≤ length out₀ = omega (arith, s.bytes, s.fits) in
      rw all (most_all (length out₀) line from (i - from) fits)

-- ---- the ways out of `write_lines`
module _ (f : File) (len count from : ℕ) {i at : ℕ} {out₀ out : List ℕ} (s : SoFar (line_at f len count) from i at out₀ out) where
  written_to : (next : Place) → next ≡ place_of count i → most (length out₀) (line_at f len count) from (1 + count - from) ≡ i - from → Writes f len (lines_in f len count from (length out₀)) out₀ (record { bytes = at; next = next }) out
  written_to next e m =
      let b = s.begun in
      let here : from + (i - from) ≡ i = omega arith in
      record { answer = rw (m, here, ← s.bytes, e); after = s.store ∙ rw m }

  pub write_stops : {t t' : List ℕ} {n : ℕ} {next : Place} → Putting (line_at f len count i) t 0 t' n → i ≤ count → length out - at < n → next ≡ place_of count i → Writes f len (lines_in f len count from (length out₀)) out₀ (record { bytes = at; next = next }) out
  write_stops p l over e = written_to _ e (stopped s p count l over)

  pub write_ends : count < i → i ≤ 1 + count → Writes f len (lines_in f len count from (length out₀)) out₀ (record { bytes = at; next = End }) out
  write_ends l m = written_to End (place_end count i l) (ended s count l m)

pub ruleset write_cases = (so_none, so_more, write_stops, write_ends)

-- ---- `list`
module _ {f : File} {len : ℕ} {r : Result Listable ListRefusal} (p : Judges f len r) where
  pub list_refused : {why : ListRefusal} (place : Place) (out : List ℕ) → r ≡ Err why → Lists f len place out (Err why) out
  unfolding fitting part_of written raise and_then
  list_refused {why} place out e =
      let same : listable f len ≡ Err (list_refusal_in why) = refused_whole f len (sym p.answer ∙ ap told e) in
      record { answer = rw same; after = rw same }

  pub list_fine : {s : Listable} {part : Part} (place : Place) {line : ℕ} {out out' : List ℕ} → r ≡ Ok s → line ≡ line_of s.count place → Writes f len (lines_in f len s.count line (length out)) out part out' → Lists f len place out (Ok part) out'
  unfolding fitting part_of written raise and_then
  list_fine {s} place e l w =
      let at = whole_at f len (whole_is p e) in
      record {
        answer = ap Ok w.answer ∙ rw (at.listable, l);
        after = w.after ∙ rw (at.listable, l);
      }

pub ruleset list_cases = (list_refused, list_fine)

-- ---- `list_refusal`
module _ {why : paper.Refusal} {number value : ℕ} (a : number ≡ why.number) (b : value ≡ why.value) {t t' : List ℕ} {n : ℕ} (p : Putting (refusal_text (record { number = number; value = value })) t 0 t' n) where
  the_line : Putting (refusal_text why) t 0 t' n
  the_line = rw (a, b) at p

  long : length (refusal_text why) ≡ n
  long = omega (arith, the_line.place)

  pub refusal_no_room : (out : List ℕ) → length out < n → Refuses why out 0 out
  refusal_no_room out l = let z = lt-leb n (length out) l in record { answer = rw (long, z); after = rw (long, z) }

  module _ (out : List ℕ) (l : n ≤ length out) where
    pub refusal_fits : 0 + length (take n t') ≤ length out
    refusal_fits = rw (put_first the_line) (omega (arith, long))

    pub refusal_put : {out' : List ℕ} {r : ℕ} → Putting (take n t') out 0 out' r → Refuses why out r out'
    refusal_put q =
        let z = le-leb n (length out) l in
        let e = put_first the_line in
        let r : length (take n t') ≡ n = ap length e ∙ long in
        record {
          answer = rw (long, z) (omega (arith, q.place));
          after = rw (long, z) (q.store ∙ rw e);
        }

pub ruleset refusal_cases = (refusal_no_room, refusal_put)

-- ---- the answer counts bytes of the buffer: what a caller that takes these needs
written_ok : {E A B : Type 0} {o : Result A E} {a : A} (entries : A → List B) (store : List B) → o ≡ Ok a → written o entries store ≡ sets store 0 (entries a)
unfolding written
written_ok entries store e = rw e

module _ {f : File} {len : ℕ} {place : Place} {out out' : List ℕ} {r : Result Part ListRefusal} {p : Part} (l : Lists f len place out r out') (e : r ≡ Ok p) where
  pub part_within : p.bytes ≤ length out'
  unfolding part_of fitting raise
  part_within =
      let a : part_of f len (fitting f len place (length out)) ≡ Ok p = sym l.answer ∙ ap told e in
      came_by _ _ a λ x g a₁.
      came_by _ _ g λ n _ g₁.
      let lines : lines_in f len n (line_of n place) (length out) ≡ x = ok_is g₁ in
      let is : part_in f len x ≡ p = ok_is a₁ in
      let m : length (text_of f len x) ≤ length out = rw (← lines) (most_fits (length out) (line_at f len n) (line_of n place) (1 + n - line_of n place)) in
      let b : p.bytes ≤ length out = rw (← is) m in
      let w : written (fitting f len place (length out)) (text_of f len) out ≡ sets out 0 (text_of f len x) = written_ok (text_of f len) out g in
      rw (l.after ∙ w, length-sets) b

  pub part_count : p.bytes ≡ length (take p.bytes out')
  part_count = sym (length-take-le p.bytes out' part_within)

-- the line if there is room for it, or nothing, is within the buffer
module _ (xs out : List ℕ) where
  abbrev room : Bool
  room = leb (length xs) (length out)

  line_within : cond room (length xs) 0 ≤ length (cond room (sets out 0 xs) out)
  line_within =
      let same : length (cond room (sets out 0 xs) out) ≡ length out = by_test (λ (l : List ℕ). length l ≡ length out) room (λ _. length-sets out 0 xs) (λ _. refl) in
      rw same (by_test (λ (n : ℕ). n ≤ length out) room (λ e. leb-true _ _ e) (λ _. omega arith))

module _ {why : paper.Refusal} {out out' : List ℕ} {r : ℕ} (x : Refuses why out r out') where
  pub refusal_within : r ≤ length out'
  refusal_within = rw (x.answer, x.after) (line_within (refusal_text why) out)

  pub refusal_count : r ≡ length (take r out')
  refusal_count = sym (length-take-le r out' refusal_within)
