-- A file that is listed has its count and all sizes, so stream k is refused with 5 if its size is that of an absent stream,
-- and for no other reason. Line and mapping are both made of what finding the stream gave, and a line tells what it shows.
use mathlib.Core.Path.{◌≡◌, refl, sym, ◌∙◌, ap}
use mathlib.Core.Logic.{◌↔◌, ⊎_elim}
use mathlib.Core.Bool.{Bool, true, false, not, true≢false}
use mathlib.Core.List.{List, [], ◌∷◌}
use Prim.Native.Nat.{ℕ, suc, ◌≤◌, ◌<◌}
use native.Mathlib.Omega.{arith}
use borrow.Author.Tests.{le-leb, lt-leb, eq-eqb, eqb-true}
use lib.Dec.{eqb}
use lib.ListN.{length}
use Rattle.std.specs.Prelude.{None, Result, Ok, Err}
use Rattle.outcome.specs.Outcome.{and_next, and_then, require}
use Rattle.outcome.specs.Refusal as paper
use Rattle.outcome.proofs.OutcomeLaws.{below_or, came, came_by, ok_is, refused_is, ok_refused, EachRefusal, refuses_none, refuses_with, refuses_by, refuses_then, refuses_require}
use Rattle.outcome.proofs.EachLaws.{refuses_each}
use Rattle.parse_buffer.specs.Bytes.{File}
use Rattle.header.specs.Header.{header_at}
use Rattle.header.specs.declared.Header.{Header}
use Rattle.header.proofs.OpenLaws.{is_located}
use Rattle.directory.specs.Directory.{reached, stream_count}
use Rattle.directory.proofs.DirectoryLaws.{reached_at}
use Rattle.stream.specs.Stream.{absent, size_at, skipped_to, found}
use Rattle.stream.specs.declared.Found.{Found}
use Rattle.stream.proofs.FindLaws.{found_at}
use Rattle.slices.specs.Slices.{cut}
use Rattle.slices.specs.declared.SourceSlice.{SourceSlice}
use Rattle.extent.specs.Extent.{asked, asked_of}
use Rattle.mapping.specs.Mapping.{slices_in, mapping, mapped}
use Rattle.mapping.specs.declared.Mapped.{Mapped}
use Rattle.listing_whole.specs.Whole.{listable, judging}
use Rattle.listing_whole.specs.Inner.{Whole}
use Rattle.listing_line.specs.Line.{Shown, sized_as, not_there, refused_with, shown_of, shown_text, line_text, line_at}
use Rattle.listing_line.proofs.LineLaws.{size_decides}
use Rattle.listing_statements.specs.Lines.{AbsentExactly, AbsentIsNotEmpty}
use Rattle.listing_statements.proofs.Lines.{lines_told}
use Rattle.listing_statements.proofs.LongestLine.{size_is}

abbrev not_found : ℕ → paper.Refusal
not_found k = record { number = 5; value = k }

both : {A B : Type 0} → A → B → A ↔ B
both a b = (λ _. b, λ _. a)

neither : {A B : Type 0} → (A → ⊥) → (B → ⊥) → A ↔ B
neither f g = (λ a. absurd (f a), λ b. absurd (g b))

-- ---- 5 is given for one size alone
reached_by : (f : File) (len : ℕ) {n : ℕ} {C : Type 0} → listable f len ≡ Ok n → ((h : Header) → reached f len ≡ Ok h → C) → C
unfolding listable stream_count
reached_by f len l c = came _ _ l λ _ _ e₁. came_by _ _ e₁ λ _ s _. came_by _ _ s λ h d _. c h d

module _ (f : File) (len : ℕ) {h : Header} (d : reached f len ≡ Ok h) where
  page_size : h.pagesize ≡ (header_at f).pagesize
  page_size = ap (λ (g : Header). g.pagesize) (is_located f len (reached_at f len d).located).is

  module _ {n : ℕ} (l : listable f len ≡ Ok n) where
    whole : Whole f len (record { header = h; count = n })
    unfolding judging and_then
    whole = record { is = rw (l, d) }

    module _ (k : ℕ) (m : k < n) where
      abbrev size : ℕ
      size = size_at f h.pagesize k

      found_absent : size ≡ absent → found f len k ≡ Err (not_found k)
      unfolding found skipped_to require and_then and_next
      found_absent a = rw (size_decides whole m, eq-eqb size absent a)

      abbrev BySize : paper.Refusal → Type 0
      BySize why = eqb why.number 5 ≡ true → size ≡ absent

      required : (b : Bool) → eqb size absent ≡ b → EachRefusal BySize (require (not b) (not_found k))
      unfolding require
      required true e = refuses_with BySize (not_found k) (λ _. eqb-true _ _ e)
      required false e = refuses_none BySize tt

      five_by_size : EachRefusal BySize (found f len k)
      unfolding found skipped_to
      five_by_size =
          refuses_by BySize _ _
          (refuses_by BySize _ _
          (rw (size_decides whole m) (refuses_then BySize _ _ (required (eqb size absent) refl) (refuses_none BySize _)))
          (λ y.
          refuses_then BySize _ _ (refuses_require BySize _ _ (λ e. cc))
          (refuses_then BySize _ _ (refuses_require BySize _ _ (λ e. cc)) (refuses_none BySize _))))
          (λ y.
          refuses_then BySize _ _ (refuses_each BySize _ _ (λ j e. cc) _)
          (refuses_then BySize _ _ (refuses_require BySize _ _ (λ e. cc)) (refuses_none BySize _)))

-- ---- the line and the answer of mapping
-- three things may be shown
gone_sized : {a b : ℕ} → not_there ≡ sized_as a b → ⊥
gone_sized e = let z : ◌≡◌ {A = ℕ} 0 1 = cc in omega arith

refused_gone : {why : paper.Refusal} → refused_with why ≡ not_there → ⊥
refused_gone e = let z : ◌≡◌ {A = ℕ} 0 1 = cc in omega arith

refused_sized : {why : paper.Refusal} {a b : ℕ} → refused_with why ≡ sized_as a b → ⊥
refused_sized e = let z : ◌≡◌ {A = ℕ} 0 1 = cc in omega arith

cut_none : (xs : List SourceSlice) → length (cut 0 xs) ≡ 0
unfolding cut
cut_none [] = refl
cut_none (s ∷ rest) = refl

module _ (f : File) (len n k : ℕ) where
  -- a line tells what it shows
  shows : {y : Shown} → line_at f len n (suc k) ≡ line_text k y → (z : Shown) → (line_at f len n (suc k) ≡ line_text k z) ↔ (y ≡ z)
  shows {y} e z = (λ is. (lines_told.line k k y z (sym e ∙ is)).1, λ is. e ∙ ap (line_text k) is)

  module _ {why : paper.Refusal} (e : found f len k ≡ Err why) where
    map_refused : (room : ℕ) → mapped f (mapping f len k None room) ≡ Err why
    unfolding mapping mapped asked and_then
    map_refused room = rw e

    line_absent : eqb why.number 5 ≡ true → line_at f len n (suc k) ≡ line_text k not_there
    unfolding line_at shown_of mapped asked and_then
    line_absent t = rw (e, t)

    line_refused : eqb why.number 5 ≡ false → line_at f len n (suc k) ≡ line_text k (refused_with why)
    unfolding line_at shown_of mapped asked and_then
    line_refused t = rw (e, t)

  module _ {x : Found} (e : found f len k ≡ Ok x) where
    abbrev slices : ℕ
    slices = length (slices_in f (asked_of None x))

    line_found : line_at f len n (suc k) ≡ line_text k (sized_as x.size slices)
    unfolding line_at shown_of mapped asked and_then
    line_found = rw e

    map_full : (room : ℕ) → room < slices → mapped f (mapping f len k None room) ≡ Err (record { number = 10; value = slices })
    unfolding mapping mapped asked require and_then and_next
    map_full room l = rw (e, lt-leb slices room l)

    map_found : (room : ℕ) → slices ≤ room → mapped f (mapping f len k None room) ≡ Ok (record { slices = slices; length = x.size })
    unfolding mapping mapped asked require and_then and_next
    map_found room l = rw (e, le-leb slices room l)

    not_5 : (room : ℕ) → mapped f (mapping f len k None room) ≡ Err (not_found k) → ⊥
    not_5 room is =
        ⊎_elim
        (λ (l : room < slices).
        let ten : ◌≡◌ {A = ℕ} 10 5 = ap (λ (w : paper.Refusal). w.number) (refused_is (sym (map_full room l) ∙ is)) in
        omega arith)
        (λ (l : slices ≤ room). ok_refused (sym (map_found room l) ∙ is))
        (below_or room slices)

    not_gone : line_at f len n (suc k) ≡ line_text k not_there → ⊥
    not_gone is = gone_sized (sym ((shows line_found not_there).0 is))

    -- no bytes, no slices
    no_slices : x.size ≡ 0 → slices ≡ 0
    no_slices z = rw z (cut_none _)

    -- `0 0` by the size alone
    zero_size : (line_at f len n (suc k) ≡ line_text k (sized_as 0 0)) ↔ (x.size ≡ 0)
    zero_size = (
      λ is. let s : sized_as x.size slices ≡ sized_as 0 0 = (shows line_found (sized_as 0 0)).0 is in cc,
      λ z. (shows line_found (sized_as 0 0)).1 (rw (no_slices z, z)),
    )

    zero_answer : (room : ℕ) → (x.size ≡ 0) ↔ (mapped f (mapping f len k None room) ≡ Ok (record { slices = 0; length = 0 }))
    zero_answer room = (
      λ z. map_found room (let none = no_slices z in omega arith) ∙ rw (no_slices z, z),
      λ is.
          ⊎_elim
          (λ (l : room < slices). absurd (ok_refused (sym is ∙ map_full room l)))
          (λ (l : slices ≤ room). ap (λ (m : Mapped). m.length) (ok_is (sym (map_found room l) ∙ is)))
          (below_or room slices),
    )

-- ---- a stream of a file that is listed: refused with 5, refused otherwise, or found
module _ (f : File) (len n k : ℕ) (l : listable f len ≡ Ok n) (m : k < n) {h : Header} (d : reached f len ≡ Ok h) where
  found_size : {x : Found} → found f len k ≡ Ok x → x.size ≡ size_at f (header_at f).pagesize k
  found_size e =
      let at = found_at f len k e in
      size_is f len k at.skipped ∙ ap (λ (p : ℕ). size_at f p k) (page_size f len at.reached)

  absent_found : size_at f (header_at f).pagesize k ≡ absent → found f len k ≡ Err (not_found k)
  absent_found a = found_absent f len d l k m (rw (page_size f len d) a)

  -- whatever the room, a refusal is no answer
  no_answer : {why : paper.Refusal} {y : Mapped} → found f len k ≡ Err why → (room : ℕ) → mapped f (mapping f len k None room) ≡ Ok y → ⊥
  no_answer e room is = ok_refused (sym is ∙ map_refused f len n k e room)

  by_five : {why : paper.Refusal} → found f len k ≡ Err why → eqb why.number 5 ≡ true → AbsentExactly f len n k
  unfolding shown_text
  by_five {why} e t =
      let line = line_absent f len n k e t in
      let a : size_at f (header_at f).pagesize k ≡ absent = rw (← page_size f len d) (five_by_size f len d l k m why e t) in
      record {
        absent_line = λ room. both line (map_refused f len n k (absent_found a) room);
        empty_line = λ room. neither (λ is. gone_sized ((shows f len n k line (sized_as 0 0)).0 is)) (no_answer e room);
        absent_size = both line a;
        empty_size = λ e'. absurd (ok_refused (sym e' ∙ e));
      }

  by_other : {why : paper.Refusal} → found f len k ≡ Err why → eqb why.number 5 ≡ false → AbsentExactly f len n k
  unfolding shown_text
  by_other {why} e t =
      let line = line_refused f len n k e t in
      let other : why ≡ not_found k → ⊥ = λ is. true≢false (sym (ap (λ (w : paper.Refusal). eqb w.number 5) is) ∙ t) in
      let there : line_at f len n (suc k) ≡ line_text k not_there → ⊥ = λ is. refused_gone ((shows f len n k line not_there).0 is) in
      record {
        absent_line = λ room. neither there (λ is. other (refused_is (sym (map_refused f len n k e room) ∙ is)));
        empty_line = λ room. neither (λ is. refused_sized ((shows f len n k line (sized_as 0 0)).0 is)) (no_answer e room);
        absent_size = neither there (λ a. other (refused_is (sym e ∙ absent_found a)));
        empty_size = λ e'. absurd (ok_refused (sym e' ∙ e));
      }

  by_there : {x : Found} → found f len k ≡ Ok x → AbsentExactly f len n k
  unfolding shown_text
  by_there e =
      let zero = zero_size f len n k e in
      record {
        absent_line = λ room. neither (not_gone f len n k e) (not_5 f len n k e room);
        empty_line = λ room.
            let answer = zero_answer f len n k e room in
            (λ is. answer.0 (zero.0 is), λ is. zero.1 (answer.1 is));
        absent_size = neither (not_gone f len n k e) (λ a. ok_refused (sym e ∙ absent_found a));
        empty_size = λ e'. rw (← found_size e') (zero_size f len n k e');
      }

  exactly : (o : Result Found paper.Refusal) → found f len k ≡ o → AbsentExactly f len n k
  exactly (Ok x) e = by_there e
  exactly (Err why) e = by_number (eqb why.number 5) refl
    where
      by_number : (b : Bool) → eqb why.number 5 ≡ b → AbsentExactly f len n k
      by_number true t = by_five e t
      by_number false t = by_other e t

pub absent_is_not_empty : AbsentIsNotEmpty
absent_is_not_empty = record { exactly = λ f len n k l m. reached_by f len l λ h d. exactly f len n k l m d (found f len k) refl }
