-- A walk over the pages makes `pieces`: its count is their number, and its slice is the last of them.
use mathlib.Core.Path.{◌≡◌, refl, sym, ◌∙◌, ap}
use mathlib.Core.Bool.{Bool, true, false}
use mathlib.Core.List.{List, [], ◌∷◌, ◌++◌, map}
use Prim.Native.Nat.{ℕ, zero, suc, ◌+◌, ◌-◌, ◌*◌, ◌≤◌, ◌<◌}
use native.Mathlib.Omega.{arith}
use native.Mathlib.Nat.{suc-mul, add-mul, add-zero, add-suc, add_assoc, le_antisymm}
use native.Mathlib.Numerals.{add-one}
use native.Mathlib.Decide.{le_ind}
use borrow.Author.Tests.{eq-eqb, ne_eqb}
use lib.ListN.{length, set, length-append, length-map}
use lib.Seq.{sets, set-set, length-sets}
use Rattle.outcome.proofs.OutcomeLaws.{by_test}
use Rattle.store.proofs.SetsLaws.{sets_snoc}
use Rattle.parse_buffer.specs.Bytes.{File}
use Rattle.paged.specs.Checks.{wanted}
use Rattle.paged.specs.Inner.{span}
use Rattle.paged.proofs.SizeLaws.{need_covers}
use Rattle.runs.specs.declared.stretch.Stretch.{Stretch}
use Rattle.extent.specs.Extent.{page_in}
use Rattle.extent.specs.Inner.{Extends}
use Rattle.extent.specs.declared.Extent.{Extent}
use Rattle.slices.specs.Slices.{lengthen, continues}
use Rattle.slices.specs.Inner.{slices_through, StretchIn, start, joins, extended, onward, Ahead, Near, Writing}
use Rattle.slices.proofs.SliceLaws.{longer_last, push, pieces, cut_is}
use Rattle.slices.specs.declared.SourceSlice.{SourceSlice}
use Rattle.slices.specs.declared.Walk.{Walk}

-- ---- `extend`, by its branches
-- the two walks that there may be after m pages more: the last slice is longer, or there is a new one
abbrev Longer : Walk → ℕ → ℕ → ℕ → Walk
Longer w a m n =
    record { count = w.count; after = a + m; slice = record { offset = w.slice.offset; size = w.slice.size + n } }

abbrev Opened : ℕ → Walk → ℕ → ℕ → ℕ → Walk
Opened p w a m n = record { count = w.count + 1; after = a + m; slice = record { offset = a * p; size = n } }

module _ (p : ℕ) (w : Walk) (a m n : ℕ) where
  is_longer : joins w.count w.after a ≡ true → extended p w a m n ≡ Longer w a m n
  unfolding extended
  is_longer e = rw e

  is_opened : joins w.count w.after a ≡ false → extended p w a m n ≡ Opened p w a m n
  unfolding extended
  is_opened e = rw e

module _ (x : Extent) (i : ℕ) (s : Stretch) (w : Walk) {n : ℕ} {b : Bool} (more : n ≡ span x.pagesize x.bytes i s.pages) (j : b ≡ joins w.count w.after s.page.0) where
  pub longer : b ≡ true → Longer w s.page.0 s.pages n ≡ onward x i s w
  longer y = rw more (sym (is_longer x.pagesize w s.page.0 s.pages _ (sym j ∙ y)))

  pub opened : b ≡ false → Opened x.pagesize w s.page.0 s.pages n ≡ onward x i s w
  opened y = rw more (sym (is_opened x.pagesize w s.page.0 s.pages _ (sym j ∙ y)))

-- a page that joins has a slice to join, and after a page there is one
some_join : (count after page : ℕ) → joins count after page ≡ true → 0 < count
some_join zero after page e = absurd (let z : ◌≡◌ {A = ℕ} 0 1 = cc in omega arith)
some_join (suc n) after page e = omega arith

pub onward_some : (x : Extent) (i : ℕ) (s : Stretch) (w : Walk) {w' : Walk} → w' ≡ onward x i s w → 0 < w'.count
unfolding extended
onward_some x i s w is =
    rw is
    (by_test (λ (y : Walk). 0 < y.count) (joins w.count w.after s.page.0)
    (λ e. some_join w.count w.after s.page.0 e) (λ _. omega arith))

-- pages that go up by one may be taken at once: the next one joins the last slice, whatever that is
module _ (p : ℕ) (w : Walk) (a m n : ℕ) where
  record Taken : Type 0 where
    more : (n' : ℕ) → extended p (extended p w a m n) (a + m) 1 n' ≡ extended p w a (m + 1) (n + n')
    count : (m' n' : ℕ) → (extended p w a m n).count ≡ (extended p w a m' n').count

  taken : Taken
  taken = go (joins w.count w.after a) refl
    where
      joins_on : (count : ℕ) → 0 < count → joins count (a + m) (a + m) ≡ true
      joins_on count l = rw (ne_eqb count 0 (λ z. omega arith), eq-eqb (a + m) (a + m) refl)

      go : (b : Bool) → joins w.count w.after a ≡ b → Taken
      go true e =
          record {
            more = λ n'.
                ap (λ (z : Walk). extended p z (a + m) 1 n') (is_longer p w a m n e)
                ∙ is_longer p (Longer w a m n) (a + m) 1 n' (joins_on w.count (some_join w.count w.after a e))
                ∙ rw (add_assoc, add_assoc w.slice.size n n') (sym (is_longer p w a (m + 1) (n + n') e));
            count = λ m' n'. rw (is_longer p w a m n e, is_longer p w a m' n' e);
          }
      go false e =
          record {
            more = λ n'.
                ap (λ (z : Walk). extended p z (a + m) 1 n') (is_opened p w a m n e)
                ∙ is_longer p (Opened p w a m n) (a + m) 1 n' (joins_on (w.count + 1) (omega arith))
                ∙ rw add_assoc (sym (is_opened p w a (m + 1) (n + n') e));
            count = λ m' n'. rw (is_opened p w a m n e, is_opened p w a m' n' e);
          }

-- ---- the walk over the first i pages
unfoldable pub walked : ℕ → (ℕ → ℕ) → ℕ → ℕ → Walk
walked p page bytes zero = start
walked p page bytes (suc i) = extended p (walked p page bytes i) (page i) 1 (wanted p bytes i)

-- a list that ends with s
pub record Ends (xs : List SourceSlice) (s : SourceSlice) : Type 0 where
  pub front : List SourceSlice
  pub is : xs ≡ front ++ s ∷ []

length_snoc : (ys : List SourceSlice) (s : SourceSlice) → length (ys ++ s ∷ []) ≡ suc (length ys)
length_snoc ys s = length-append ys (s ∷ []) ∙ omega arith

map_snoc : {B : Type 0} (g : SourceSlice → B) (ys : List SourceSlice) (s : SourceSlice) → map g (ys ++ s ∷ []) ≡ map g ys ++ g s ∷ []
map_snoc g [] s = refl
map_snoc {B} g (y ∷ ys) s = ap (λ (l : List B). g y ∷ l) (map_snoc g ys s)

-- a store that holds something of each of these slices, with one more at its end, or with another last one
module _ {B : Type 0} (g : SourceSlice → B) (st : List B) (ys : List SourceSlice) where
  put_new : (s : SourceSlice) → set (sets st 0 (map g ys)) (length ys) (g s) ≡ sets st 0 (map g (ys ++ s ∷ []))
  put_new s =
      let e : length ys ≡ 0 + length (map g ys) = rw length-map (omega arith) in
      rw (map_snoc, sets_snoc, ← e)

  put_last : (s t : SourceSlice) → set (sets st 0 (map g (ys ++ s ∷ []))) (length ys) (g t) ≡ sets st 0 (map g (ys ++ t ∷ []))
  put_last s t = rw (← put_new s, set-set) (put_new t)

module _ (p : ℕ) (page : ℕ → ℕ) (bytes : ℕ) where
  abbrev W : ℕ → Walk
  W = walked p page bytes

  abbrev P : ℕ → List SourceSlice
  P = pieces p page bytes

  -- what a walk over i pages has to do with their pieces
  record Stands (i : ℕ) : Type 0 where
    many : (W i).count ≡ length (P i)
    joined : joins (W i).count (W i).after (page i) ≡ continues page i

  -- after a page there is a last slice, it is the walk's, and putting it in its place gives the pieces
  record StandsOn (i : ℕ) : Type 1 where
    many : (W (suc i)).count ≡ length (P (suc i))
    after : (W (suc i)).after ≡ page i + 1
    ends : Ends (P (suc i)) (W (suc i)).slice
    puts : {B : Type 0} (g : SourceSlice → B) (st : List B) → set (sets st 0 (map g (P i))) ((W (suc i)).count - 1) (g (W (suc i)).slice) ≡ sets st 0 (map g (P (suc i)))

  some_slices : {i : ℕ} → StandsOn i → 0 < (W (suc i)).count
  some_slices {i} s =
      let e = s.ends in
      let k : (W (suc i)).count ≡ suc (length e.front) = s.many ∙ ap length e.is ∙ length_snoc e.front (W (suc i)).slice in
      omega arith

  stands_from : (i : ℕ) → StandsOn i → Stands (suc i)
  stands_from i s =
      let k = some_slices s in
      record {
        many = s.many;
        joined = rw (ne_eqb (W (suc i)).count 0 (λ z. omega arith), s.after);
      }

  on_new : (i : ℕ) → Stands i → continues page i ≡ false → StandsOn i
  unfolding walked extended pieces push
  on_new i s e =
      let k : (W i).count + 1 - 1 ≡ length (P i) = omega (arith, s.many) in
      record {
        many = rw (s.joined, e, length_snoc, s.many) (omega arith);
        after = rw (s.joined, e);
        ends = rw (s.joined, e) (record { front = P i; is = refl });
        puts = λ g st. rw (s.joined, e, k) (put_new g st (P i) _);
      }

  on_longer : (i : ℕ) → Stands i → Ends (P i) (W i).slice → continues page i ≡ true → StandsOn i
  unfolding walked extended pieces push
  on_longer i s x e =
      let longer : lengthen (wanted p bytes i) (P i) ≡ x.front ++ record { offset = (W i).slice.offset; size = (W i).slice.size + wanted p bytes i } ∷ [] = ap (lengthen (wanted p bytes i)) x.is ∙ longer_last (wanted p bytes i) x.front (W i).slice in
      let n : (W i).count ≡ suc (length x.front) = s.many ∙ ap length x.is ∙ length_snoc x.front (W i).slice in
      let k : (W i).count - 1 ≡ length x.front = omega arith in
      record {
        many = rw (s.joined, e, longer, length_snoc) n;
        after = rw (s.joined, e);
        ends = rw (s.joined, e) (record { front = x.front; is = longer });
        puts = λ g st. rw (s.joined, e, k, longer, x.is) (put_last g st x.front (W i).slice _);
      }

  stands_start : Stands 0
  unfolding walked pieces
  stands_start = record { many = refl; joined = refl }

  on_by : (i : ℕ) → StandsOn i → (b : Bool) → continues page (suc i) ≡ b → StandsOn (suc i)
  on_by i s true e = on_longer (suc i) (stands_from i s) s.ends e
  on_by i s false e = on_new (suc i) (stands_from i s) e

  stands_on : (i : ℕ) → StandsOn i
  stands_on zero = on_new 0 stands_start refl
  stands_on (suc i) = on_by i (stands_on i) (continues page (suc i)) refl

  walked_many : (i : ℕ) → (W i).count ≡ length (P i)
  walked_many zero = stands_start.many
  walked_many (suc i) = (stands_on i).many

  -- ---- bounds
  wanted_most : (i : ℕ) → wanted p bytes i ≤ p
  wanted_most i = omega arith

  near : (i : ℕ) → Near p i (W i)
  unfolding walked extended
  near zero = record { few = omega arith; short = omega arith }
  near (suc i) =
      let n = near i in
      let few = n.few in
      let short = n.short in
      let w = wanted_most i in
      let m = suc-mul i p in
      by_test (λ (w : Walk). Near p (suc i) w) (joins (W i).count (W i).after (page i))
      (λ _. record { few = omega arith; short = omega arith }) (λ _. record { few = omega arith; short = omega arith })

  count_rises : (i : ℕ) → (W i).count ≤ (W (suc i)).count
  unfolding walked extended
  count_rises i =
      by_test (λ (w : Walk). (W i).count ≤ w.count) (joins (W i).count (W i).after (page i)) (λ _. omega arith) (λ _. omega arith)

  count_below : (i n : ℕ) → i ≤ n → (W i).count ≤ (W n).count
  count_below i n h =
      le_ind (λ (m : ℕ). (W i).count ≤ (W m).count) (omega arith) (λ m _ l. let r = count_rises m in omega arith) n h

-- ---- pages that go up by one: the walk over all of them, and where it puts its last slice
module _ (p : ℕ) (page : ℕ → ℕ) (bytes i a : ℕ) where
  span_more : (m : ℕ) → span p bytes i m + wanted p bytes (i + m) ≡ span p bytes i (suc m)
  span_more m = let all = add-mul i m p in let one = suc-mul m p in omega arith

  abbrev Up : ℕ → Type 0
  Up m = (j : ℕ) → j < m → page (i + j) ≡ a + j

  stretch_walked : (m : ℕ) → Up (suc m) → walked p page bytes (i + suc m) ≡ extended p (walked p page bytes i) a (suc m) (span p bytes i (suc m))
  unfolding walked
  stretch_walked zero up =
      let first : page i ≡ a = rw (add-zero, add-zero) at (up 0 (omega arith)) in
      let one : wanted p bytes i ≡ span p bytes i 1 = omega arith in
      rw (add-suc, add-zero, first, one)
  stretch_walked (suc m) up =
      rw (add-suc, stretch_walked m (λ j l. up j (omega arith)), up (suc m) (omega arith))
      ((taken p _ a (suc m) _).more _ ∙ rw (add-one, span_more (suc m)))

  stretch_puts : {B : Type 0} (g : SourceSlice → B) (st : List B) (m : ℕ) → Up (suc m) → set (sets st 0 (map g (pieces p page bytes i))) ((walked p page bytes (i + suc m)).count - 1) (g (walked p page bytes (i + suc m)).slice) ≡ sets st 0 (map g (pieces p page bytes (i + suc m)))
  stretch_puts g st zero up = rw (add-suc, add-zero) ((stands_on p page bytes i).puts g st)
  stretch_puts g st (suc m) up =
      let short : Up (suc m) = λ j l. up j (omega arith) in
      let same : (walked p page bytes (i + suc m)).count ≡ (walked p page bytes (suc (i + suc m))).count = rw (← add-suc, stretch_walked m short, stretch_walked (suc m) up) ((taken p _ a (suc m) _).count _ _) in
      rw add-suc (rw (← stretch_puts g st m short, same, set-set) at ((stands_on p page bytes (i + suc m)).puts g st))

-- ---- the loops: an extent's pages, a stretch at a time
-- the pieces of the first i of them
abbrev pub pieces_to : File → Extent → ℕ → List SourceSlice
pieces_to f x i = pieces x.pagesize (page_in f x) x.bytes i

-- a stretch has one page, and so many others
others : Stretch → ℕ
others s = s.pages - 1

pub stretch_ahead : {f : File} {x : Extent} {i : ℕ} {s : Stretch} → StretchIn f x i s → Ahead x i s
stretch_ahead stretch =
    let next = stretch.next in
    let within = stretch.stands.within in
    record { within = omega arith; small = stretch.small }

-- a walk over the first i of them
pub record Walked (f : File) (x : Extent) (i : ℕ) (w : Walk) : Type 0 where
  pub is : w ≡ walked x.pagesize (page_in f x) x.bytes i

pub walk_none : (f : File) (x : Extent) {w : Walk} → w ≡ start → Walked f x 0 w
unfolding walked
walk_none f x e = record { is = e }

module _ {f : File} {x : Extent} {i : ℕ} {w : Walk} (at : Walked f x i w) where
  pub walk_near : Near x.pagesize i w
  walk_near = rw at.is (near x.pagesize (page_in f x) x.bytes i)

  -- one stretch more
  module _ {s : Stretch} (stretch : StretchIn f x i s) where
    one_more : s.pages ≡ suc (others s)
    unfolding others
    one_more = let some = stretch.some in omega arith

    next_is : s.next ≡ i + suc (others s)
    next_is = stretch.next ∙ ap (λ (m : ℕ). i + m) one_more

    goes_up : Up x.pagesize (page_in f x) x.bytes i s.page.0 (suc (others s))
    goes_up j l = stretch.up j (let n = one_more in omega arith)

    module _ {w' : Walk} (e : w' ≡ onward x i s w) where
      pub walk_more : Walked f x s.next w'
      walk_more =
          let p = x.pagesize in
          let W = walked p (page_in f x) x.bytes in
          let at_once : onward x i s w ≡ W s.next = rw at.is (ap (λ (m : ℕ). extended p (W i) s.page.0 m (span p x.bytes i m)) one_more ∙ sym (stretch_walked p (page_in f x) x.bytes i s.page.0 (others s) goes_up) ∙ ap W (sym next_is)) in
          record { is = e ∙ at_once }

      -- where its last slice goes
      pub put_more : {B : Type 0} (g : SourceSlice → B) (st : List B) → set (sets st 0 (map g (pieces_to f x i))) (w'.count - 1) (g w'.slice) ≡ sets st 0 (map g (pieces_to f x s.next))
      put_more g st =
          rw (walk_more.is, next_is)
          (stretch_puts x.pagesize (page_in f x) x.bytes i s.page.0 g st (others s) goes_up)

-- all of them
pub all_pieces : (f : File) (x : Extent) → Extends x → slices_through f x ≡ pieces_to f x x.pages
all_pieces f x extends =
    let l = extends.size.least in
    let p = x.pagesize in
    cut_is p (page_in f x) (omega arith) x.bytes x.pages (rw extends.whole (need_covers p x.bytes (omega arith))) ∙ rw (← extends.whole)

module _ {f : File} {x : Extent} {i : ℕ} {w : Walk} (at : Walked f x i w) (extends : Extends x) where
  pub walk_all : i ≤ x.pages → x.pages ≤ i → w.count ≡ length (slices_through f x)
  walk_all l m =
      rw (all_pieces f x extends, at.is, le_antisymm l m) (walked_many x.pagesize (page_in f x) x.bytes x.pages)

  pub walk_few : i ≤ x.pages → w.count ≤ length (slices_through f x)
  walk_few h =
      let most = count_below x.pagesize (page_in f x) x.bytes i x.pages h in
      let all = walked_many x.pagesize (page_in f x) x.bytes x.pages in
      rw (all_pieces f x extends, at.is) (omega arith)

pub ruleset walk_cases = (walk_none, walk_near, stretch_ahead, walk_more, walk_all)

-- ---- writing: the stores hold the pieces of the first i pages
pub record Written (f : File) (x : Extent) (i : ℕ) (o₀ s₀ o t : List ℕ) : Type 0 where
  pub offsets_are : o ≡ sets o₀ 0 (map (λ (s : SourceSlice). s.offset) (pieces_to f x i))
  pub sizes_are : t ≡ sets s₀ 0 (map (λ (s : SourceSlice). s.size) (pieces_to f x i))

pub write_none : (f : File) (x : Extent) (o t : List ℕ) → Written f x 0 o t o t
unfolding pieces
write_none f x o t = record { offsets_are = refl; sizes_are = refl }

module _ {f : File} {x : Extent} {i : ℕ} {o₀ s₀ o t : List ℕ} (written : Written f x i o₀ s₀ o t) where
  pub same_offsets : length o ≡ length o₀
  same_offsets = ap length written.offsets_are ∙ simp length-sets

  pub same_sizes : length t ≡ length s₀
  same_sizes = ap length written.sizes_are ∙ simp length-sets

  module _ {w : Walk} (at : Walked f x i w) where
    pub write_all : Extends x → i ≤ x.pages → x.pages ≤ i → Writing (slices_through f x) w.count o₀ s₀ o t
    write_all extends l m =
        let pieces_are : slices_through f x ≡ pieces_to f x i = all_pieces f x extends ∙ rw (le_antisymm m l) in
        record {
          count = walk_all at extends l m;
          offsets_are = rw pieces_are written.offsets_are;
          sizes_are = rw pieces_are written.sizes_are;
        }

    module _ {s : Stretch} (stretch : StretchIn f x i s) {w' : Walk} (e : w' ≡ onward x i s w) where
      -- the slices fit, so those of the first pages do
      module _ (extends : Extends x) where
        few : w'.count ≤ length (slices_through f x)
        few = walk_few (walk_more at stretch e) extends stretch.stands.within

        pub room_offsets : length (slices_through f x) ≤ length o₀ → w'.count ≤ length o
        room_offsets r = let l = few in let same = same_offsets in omega arith

        pub room_sizes : length (slices_through f x) ≤ length s₀ → w'.count ≤ length t
        room_sizes r = let l = few in let same = same_sizes in omega arith

      pub write_more : {o' t' : List ℕ} → o' ≡ set o (w'.count - 1) w'.slice.offset → t' ≡ set t (w'.count - 1) w'.slice.size → Written f x s.next o₀ s₀ o' t'
      write_more g h =
          record {
            offsets_are = g ∙ rw written.offsets_are (put_more at stretch e (λ (y : SourceSlice). y.offset) o₀);
            sizes_are = h ∙ rw written.sizes_are (put_more at stretch e (λ (y : SourceSlice). y.size) s₀);
          }

pub ruleset write_cases = (write_none, write_more, write_all)

-- ---- the same with one store of slices
map_same : (xs : List SourceSlice) → map (λ (s : SourceSlice). s) xs ≡ xs
map_same [] = refl
map_same (x ∷ xs) = ap (λ (l : List SourceSlice). x ∷ l) (map_same xs)

pub store_more : {f : File} {x : Extent} {i : ℕ} {w : Walk} → Walked f x i w → {s : Stretch} → StretchIn f x i s → {w' : Walk} → w' ≡ onward x i s w → (st : List SourceSlice) → set (sets st 0 (pieces_to f x i)) (w'.count - 1) w'.slice ≡ sets st 0 (pieces_to f x s.next)
store_more {f} {x} {i} at {s} stretch e st =
    rw (← map_same (pieces_to f x i), ← map_same (pieces_to f x s.next)) (put_more at stretch e (λ (y : SourceSlice). y) st)
