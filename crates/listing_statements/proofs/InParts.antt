-- A call puts the most lines that fit and ends at the line after them, so that lines in two runs are one run. With room
-- for a line it puts that line at least, so that each call moves on until all are put.
use mathlib.Core.Path.{◌≡◌, refl, sym, ◌∙◌, ap}
use mathlib.Core.Logic.{⊎_elim}
use mathlib.Core.List.{List, ◌++◌, flatten, append_assoc, append-nil}
use Prim.Native.Nat.{ℕ, zero, suc, ◌+◌, ◌-◌, min, ◌≤◌, ◌<◌}
use native.Mathlib.Omega.{arith}
use borrow.Author.Tests.{le-leb, lt-ltb, le-ltb}
use lib.Dec.{leb}
use lib.ListN.{length, take}
use lib.Seq.{sets, sets-eq, take_at}
use Rattle.std.specs.Prelude.{Result, Ok, Err}
use Rattle.outcome.specs.Outcome.{and_then, raise}
use Rattle.outcome.specs.Refusal as paper
use Rattle.outcome.specs.Store.{written}
use Rattle.outcome.proofs.OutcomeLaws.{by_test, below_or, ok_is}
use Rattle.parse_buffer.specs.Bytes.{File}
use Rattle.listing_text.specs.Text.{refusal_text}
use Rattle.listing_whole.specs.Whole.{told, listable}
use Rattle.listing_whole.specs.declared.refusal.ListRefusal.{ListRefusal}
use Rattle.listing_line.specs.Line.{line_at}
use Rattle.listing.specs.Listing.{lines_from, listing, line_of, place_of, most, lines_in, fitting, part_in, part_of}
use Rattle.listing.specs.Promises.{Lists, Refuses}
use Rattle.listing.specs.declared.place.Place.{Place}
use Rattle.listing.specs.declared.place.Place.TheVariants.{Head, End}
use Rattle.listing.specs.declared.Part.{Part}
use Rattle.listing.proofs.ListLaws.{most_fits}
use Rattle.listing.proofs.PlaceLaws.{line_most, place_end}
use Rattle.listing_statements.specs.Statements.{Called, none, more, rest_from, InParts}
use Rattle.listing_statements.proofs.LongestLine.{line_short}

-- ---- runs of lines
module _ (line : ℕ → List ℕ) (from : ℕ) where
  runs : (a b : ℕ) → lines_from line from (a + b) ≡ lines_from line from a ++ lines_from line (from + a) b
  unfolding lines_from
  runs a zero = let z : a + 0 ≡ a = omega arith in rw (z, append-nil)
  runs a (suc b) =
      let s : a + suc b ≡ suc (a + b) = omega arith in
      let p : from + (a + b) ≡ from + a + b = omega arith in
      rw (s, runs a b, p) (append_assoc (lines_from line from a) (lines_from line (from + a) b) (line (from + a + b)))

  most_below : (room m : ℕ) → most room line from m ≤ m
  unfolding most
  most_below room zero = omega arith
  most_below room (suc m) =
      by_test (λ (k : ℕ). k ≤ suc m) (leb (length (lines_from line from (suc m))) room) (λ _. omega arith) (λ _. omega (arith, most_below room m))

  -- a line that fits is among them
  most_some : (room m : ℕ) → length (line from) ≤ room → 0 < m → 0 < most room line from m
  unfolding most lines_from
  most_some room zero l h = absurd (omega arith)
  most_some room (suc zero) l h =
      let z : from + 0 ≡ from = omega arith in
      rw (z, le-leb (length (line from)) room l) (omega arith)
  most_some room (suc (suc m)) l h =
      by_test (λ (k : ℕ). 0 < k) (leb (length (lines_from line from (suc (suc m)))) room) (λ _. omega arith) (λ _. most_some room (suc m) l (omega arith))

-- a line's place leads back to it
back : (n i : ℕ) → i ≤ 1 + n → line_of n (place_of n i) ≡ i
back n zero l = refl
back n (suc k) l =
    ⊎_elim
    (λ (h : k < n). rw (lt-ltb k n h) (omega arith))
    (λ (h : n ≤ k). rw (le-ltb k n h) (omega arith))
    (below_or k n)

-- bytes at the front of a buffer that has room for them
front : (xs out : List ℕ) → length xs ≤ length out → take (length xs) (sets out 0 xs) ≡ xs
front xs out l = ap (take (length xs)) (sets-eq xs out 0 (omega arith)) ∙ take_at xs _ (length xs) refl

-- ---- a file that is listed
module _ (f : File) (len n : ℕ) (e : listable f len ≡ Ok n) where
  -- one call: how many lines it puts
  record Call (place : Place) (out out' : List ℕ) (p : Part) : Type 0 where
    many : ℕ
    is : many ≡ most (length out) (line_at f len n) (line_of n place) (1 + n - line_of n place)
    below : line_of n place + many ≤ 1 + n
    part : take p.bytes out' ≡ lines_from (line_at f len n) (line_of n place) many
    next : p.next ≡ place_of n (line_of n place + many)

  call : {place : Place} {out out' : List ℕ} {p : Part} → Lists f len place out (Ok p) out' → Call place out out' p
  unfolding raise part_of fitting written and_then
  call {place} {out} {out'} {p} l =
      let from = line_of n place in
      let m = most (length out) (line_at f len n) from (1 + n - from) in
      let text = lines_from (line_at f len n) from m in
      let few : m ≤ 1 + n - from = most_below (line_at f len n) from (length out) (1 + n - from) in
      let first = line_most n place in
      let is : p ≡ part_in f len (lines_in f len n from (length out)) = ok_is (l.answer ∙ rw e) in
      let after : out' ≡ sets out 0 text = l.after ∙ rw e in
      record {
        many = m;
        is = refl;
        below = omega arith;
        part = rw (after, is) (front text out (most_fits (length out) (line_at f len n) from (1 + n - from)));
        next = rw is refl;
      }

  -- where it ends, and what it leaves
  module _ {place : Place} {out out' : List ℕ} {p : Part} (c : Call place out out' p) where
    moved : line_of n p.next ≡ line_of n place + c.many
    moved = ap (line_of n) c.next ∙ back n (line_of n place + c.many) c.below

    joined : rest_from f len n place ≡ take p.bytes out' ++ rest_from f len n p.next
    joined =
        let from = line_of n place in
        let m = c.many in
        let below = c.below in
        let left : 1 + n - (from + m) ≡ 1 + n - from - m = omega arith in
        let all : 1 + n - from ≡ m + (1 + n - from - m) = omega arith in
        ap (lines_from (line_at f len n) from) all ∙ rw (c.part, moved, left) (runs (line_at f len n) from m (1 + n - from - m))

    onward : line_of n place ≤ n → length (line_at f len n (line_of n place)) ≤ length out → line_of n place < line_of n p.next
    onward l fits =
        let some = most_some (line_at f len n) (line_of n place) (length out) (1 + n - line_of n place) fits (omega arith) in
        let is = c.is in
        let to = moved in
        omega arith

  -- ---- calls, from any place on
  all_joined : {room : ℕ} {place last : Place} {parts : List (List ℕ)} → Called f len room place parts last → rest_from f len n place ≡ flatten parts ++ rest_from f len n last
  unfolding flatten
  all_joined none = refl
  all_joined (more {last = last} {out' = out'} {p = p} {rest = rest} _ l calls) =
      joined (call l)
      ∙ ap (λ (xs : List ℕ). take p.bytes out' ++ xs) (all_joined calls)
      ∙ sym (append_assoc (take p.bytes out') (flatten rest) (rest_from f len n last))

  -- with room for every line each call moves on by a line at least, up to the end
  module _ (room : ℕ) (fits : (i : ℕ) → i ≤ n → length (line_at f len n i) ≤ room) where
    moves : {place last : Place} {parts : List (List ℕ)} → Called f len room place parts last → min (1 + n) (line_of n place + length parts) ≤ line_of n last
    moves none = omega arith
    moves {place} (more {p = p} {rest = rest} r l calls) =
        let later = moves calls in
        let c = call l in
        let to = moved c in
        ⊎_elim
        (λ (at : line_of n place < 1 + n).
        let line = fits (line_of n place) (omega arith) in
        let step = onward c (omega arith) (omega arith) in
        omega arith)
        (λ (at : 1 + n ≤ line_of n place). omega arith)
        (below_or (line_of n place) (1 + n))

  -- a call ends at a line's place, and the place past the last line is the end
  ended : {room : ℕ} {place last : Place} {parts : List (List ℕ)} → Called f len room place parts last → 0 < length parts → 1 + n ≤ line_of n last → last ≡ End
  ended none l h = absurd (omega arith)
  ended {place = place} (more r l none) _ h =
      let c = call l in c.next ∙ sym (place_end n (line_of n place + c.many) (omega (arith, moved c)))
  ended (more r l (more r' l' calls)) _ h = ended (more r' l' calls) (omega arith) h

  from_head : listing f len ≡ rest_from f len n Head
  unfolding listing
  from_head = let z : 1 + n - 0 ≡ 1 + n = omega arith in rw (e, z)

-- ---- a file that is refused
module _ (f : File) (len : ℕ) {why : paper.Refusal} (e : listable f len ≡ Err why) where
  one_line : listing f len ≡ refusal_text why
  unfolding listing
  one_line = rw e

  refused_whole : (place : Place) (out : List ℕ) (r : Result Part ListRefusal) (out' : List ℕ) → Lists f len place out r out' → told r ≡ Err why
  unfolding part_of fitting and_then
  refused_whole place out r out' l = l.answer ∙ rw e

  line_put : (out : List ℕ) (r : ℕ) (out' : List ℕ) → length (listing f len) ≤ length out → Refuses why out r out' → take r out' ≡ listing f len
  line_put out r out' l p =
      let fits : length (refusal_text why) ≤ length out = rw one_line at l in
      let t = le-leb (length (refusal_text why)) (length out) fits in
      rw (p.answer, p.after, t, one_line) (front (refusal_text why) out fits)

pub in_parts : (f : File) (len : ℕ) → InParts f len
unfolding lines_from
in_parts f len =
    record {
      parts = λ n e.
          record {
            joins = λ room calls. from_head f len n e ∙ all_joined f len n e calls;
            none = let z : 1 + n - (1 + n) ≡ 0 = omega arith in rw z;
            onward = λ place out p out' l. onward f len n e (call f len n e l);
            ends = λ room fits calls l. ended f len n e calls (omega arith) (omega (arith, moves f len n e room fits calls));
            eighty = λ bytes. line_short f bytes len n e;
          };
      refusal = λ why e. record { one_line = one_line f len e; answer = refused_whole f len e; line = line_put f len e };
    }
