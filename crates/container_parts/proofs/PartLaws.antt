-- A part in its data pages: where its bytes stand, two files that agree on it, and its pages of numbers one by one.
use mathlib.Core.Path.{◌≡◌, refl, sym, ◌∙◌, ap}
use mathlib.Core.Bool.{false}
use mathlib.Core.List.{List}
use Prim.Native.Nat.{ℕ, ◌+◌, ◌-◌, ◌*◌, ◌/◌, ◌%◌, ◌^◌, ◌≤◌, ◌<◌}
use native.Mathlib.Omega.{arith}
use native.Mathlib.Nat.{add-mul, mod-lt, div-add-mod', le-div_iff_mul-le, div-lt_iff_lt-mul, le_antisymm, mul_left_comm}
use borrow.Author.Tests.{eqb-false}
use lib.Dec.{eqb}
use lib.ListN.{length}
use mir.Syntax.{w64}
use mir.Val.{Fits}
use Rattle.outcome.proofs.OutcomeLaws.{by_tests}
use Rattle.paged.specs.PageSize.{PageSize}
use Rattle.container_layout.specs.Place.{data_page, rank, pages_with, after}
use Rattle.container_layout.specs.Container.{number_bytes}
use Rattle.container_layout.specs.declared.layout.Layout.{Layout}
use Rattle.container_layout.proofs.PlaceLaws.{times_up, times_le, data_next, data_rank, after_one, after_most, after_some, after_rises, rank_from, rank_to}
use Rattle.container_layout.proofs.LayoutLaws.{size_fours}
use Rattle.container_layout.proofs.ContainerLaws.{with_data}
use Rattle.container_layout.specs.Laid.{Bounds}
use Rattle.container_pages.specs.Inner.{Filled, numbers_from, map_of, Beginning}
use Rattle.container_pages.proofs.FillLaws.{filled_none, filled_more, filled_as}
use Rattle.container_parts.specs.Inner.{Room, part, PartFilled, Numbering}

-- ---- two files with the same maps, whose data is the same from rank a up to rank b
module _ (p : ℕ) (big : 3 ≤ p) (map : ℕ → ℕ → ℕ) {body body' : ℕ → ℕ} (a b : ℕ) (same : (j : ℕ) → a * p ≤ j → j < b * p → body j ≡ body' j) where
  pub same_pages : (i : ℕ) → after p a * p ≤ i → i < after p b * p → pages_with p map body i ≡ pages_with p map body' i
  unfolding pages_with
  same_pages i l h =
      by_tests (λ x y. x ≡ y) (eqb (i / p % p) 1) (λ _. refl)
      (λ one. by_tests (λ x y. x ≡ y) (eqb (i / p % p) 2) (λ _. refl) (λ two. in_data one two))
    where
      from : after p a ≤ i / p
      from = (le-div_iff_mul-le {k = p} (omega arith)).1 l

      to : i / p < after p b
      to = (div-lt_iff_lt-mul {k = p} (omega arith)).1 h

      in_data : eqb (i / p % p) 1 ≡ false → eqb (i / p % p) 2 ≡ false → body (rank p (i / p) * p + i % p) ≡ body' (rank p (i / p) * p + i % p)
      in_data one two =
          let some : 0 < i / p = omega (arith, from, after_some p big a) in
          let is : data_page p (rank p (i / p)) ≡ i / p = data_rank p big (i / p) some (eqb-false _ _ one) (eqb-false _ _ two) in
          let least : a ≤ rank p (i / p) = rank_from p big a (rank p (i / p)) (omega (arith, from)) in
          let most : rank p (i / p) < b = rank_to p big b (rank p (i / p)) (omega (arith, to)) in
          let x : i % p < p = mod-lt i (omega arith) in
          same _ (omega (arith, times_le p least)) (omega (arith, times_up p most))

-- ---- where the bytes of a part stand
pub size_three : {p : ℕ} → PageSize p → 3 ≤ p
size_three s = let m = s.least in omega arith

module _ (l : Layout) (s : PageSize l.pagesize) (first : ℕ) (content : ℕ → ℕ) where
  pub part_page : (j x : ℕ) → x < l.pagesize → part l first content (data_page l.pagesize (first + j) * l.pagesize + x) ≡ content (j * l.pagesize + x)
  part_page j x h =
      let e = add-mul first j l.pagesize in
      let d : (first + j) * l.pagesize + x - first * l.pagesize ≡ j * l.pagesize + x = omega arith in
      with_data l.pagesize (size_three s) (map_of l) (λ i. content (i - first * l.pagesize)) x h (first + j) ∙ ap content d

  -- in m data pages with no map page between
  pub part_run : (j m y : ℕ) → (first + j) % (l.pagesize - 2) + m ≤ l.pagesize - 2 → y < m * l.pagesize → part l first content (data_page l.pagesize (first + j) * l.pagesize + y) ≡ content (j * l.pagesize + y)
  part_run j m y h k =
      let p : ℕ = l.pagesize in
      let b = size_three s in
      let q : y / p < m = (div-lt_iff_lt-mul {k = p} (omega arith)).1 k in
      let x : y % p < p = mod-lt y (omega arith) in
      let e = div-add-mod' y p in
      let next = data_next p (size_three s) (first + j) (y / p) (omega arith) in
      let c : first + j + y / p ≡ first + (j + y / p) = omega arith in
      let page : data_page p (first + (j + y / p)) ≡ data_page p (first + j) + y / p = ap (data_page p) (sym c) ∙ next in
      let place : data_page p (first + j) * p + y ≡ data_page p (first + (j + y / p)) * p + y % p = omega (arith, ap (λ n. n * p) page, add-mul (data_page p (first + j)) (y / p) p) in
      let back : (j + y / p) * p + y % p ≡ j * p + y = omega (arith, add-mul j (y / p) p) in
      ap (part l first content) place ∙ part_page (j + y / p) (y % p) x ∙ ap content back

-- ---- room for the next data page
module _ {l : Layout} (s : PageSize l.pagesize) {b room : ℕ} (h : Room l b room) (r : ℕ) (k : r < b) where
  pub room_rank : r < 2 ^ 32
  room_rank = omega (arith, h.few)

  -- m pages of one run
  pub room_run : (m : ℕ) → 0 < m → r % (l.pagesize - 2) + m ≤ l.pagesize - 2 → r + m ≤ b → data_page l.pagesize r * l.pagesize + m * l.pagesize ≤ room
  room_run m some in_run few =
      let g = size_three s in
      let j : ℕ = m - 1 in
      let e : r + m ≡ r + j + 1 = omega arith in
      let n = data_next l.pagesize g r j (omega arith) in
      let a : after l.pagesize (r + m) ≡ data_page l.pagesize r + m = ap (after l.pagesize) e ∙ after_one l.pagesize g (r + j) ∙ omega arith in
      omega (arith, h.fits, times_le l.pagesize (after_rises l.pagesize g (r + m) b few), ap (λ n. n * l.pagesize) a, add-mul (data_page l.pagesize r) m l.pagesize)

  pub room_page : data_page l.pagesize r * l.pagesize + l.pagesize ≤ room
  room_page =
      let g = size_three s in
      let m : r % (l.pagesize - 2) < l.pagesize - 2 = mod-lt r (omega arith) in
      omega (arith, room_run 1 (omega arith) (omega arith) (omega arith))

-- ---- `write_numbers`: j pages are written
pub record PagesSoFar (l : Layout) (first pages : ℕ) (numbers o o₁ : List ℕ) (j : ℕ) : Type 0 where
  pub filled : PartFilled l first (first + j) (number_bytes numbers) o o₁
  pub within : j ≤ pages
  pub room : Room l (first + pages) (length o)

pub pages_none : (l : Layout) (first pages : ℕ) (numbers o : List ℕ) → Room l (first + pages) (length o) → PagesSoFar l first pages numbers o o 0
pages_none l first pages numbers o h =
    let e : first + 0 ≡ first = omega arith in
    record { filled = rw e (filled_none _ o _); within = omega arith; room = h }

module _ {l : Layout} (d : Bounds l) {first pages : ℕ} {numbers o o₁ : List ℕ} {j : ℕ} (w : PagesSoFar l first pages numbers o o₁ j) where
  module _ (k : j < pages) where
    page_room : data_page l.pagesize (first + j) * l.pagesize + l.pagesize ≤ length o
    page_room = room_page d.size w.room (first + j) (omega arith)

    pub page_rank : first + j < 2 ^ 32
    page_rank = room_rank d.size w.room (first + j) (omega arith)

    pub page_rank_fits : Fits w64 (first + j)
    page_rank_fits = record { fits = omega (arith, page_rank) }

    pub page_begins : data_page l.pagesize (first + j) * l.pagesize ≤ length o₁
    page_begins = omega (arith, page_room, w.filled.same)

    index_below : pages * (l.pagesize / 4) < 2 ^ 32 → j * (l.pagesize / 4) + l.pagesize / 4 < 2 ^ 32
    index_below h = omega (arith, times_up (l.pagesize / 4) k)

    pub page_index : pages * (l.pagesize / 4) < 2 ^ 32 → Fits w64 (j * (l.pagesize / 4))
    page_index h = record { fits = omega (arith, index_below h) }

    pub page_numbers : pages * (l.pagesize / 4) < 2 ^ 32 → j * (l.pagesize / 4) + l.pagesize / 4 < 2 ^ 32
    page_numbers h = index_below h

    module _ {at : ℕ} {o₂ : List ℕ} (b : Beginning l (first + j) at o₁ o₂) where
      fours : l.pagesize ≡ 4 * (l.pagesize / 4)
      fours = size_fours l.pagesize d.size

      pub page_fits_lem : at + 4 * (l.pagesize / 4) ≤ length o₂
      page_fits_lem = omega (arith, fours, page_room, w.filled.same, b.place, (b.maps (λ i. i)).same)

      module _ {o₃ : List ℕ} (x : Filled (numbers_from numbers (j * (l.pagesize / 4)) at) o₂ at (at + 4 * (l.pagesize / 4)) o₃) where
        same_numbers : (i : ℕ) → at ≤ i → i < at + 4 * (l.pagesize / 4) → numbers_from numbers (j * (l.pagesize / 4)) at i ≡ part l first (number_bytes numbers) i
        same_numbers i g h =
            let c : 4 * (j * (l.pagesize / 4)) ≡ j * l.pagesize = mul_left_comm 4 j (l.pagesize / 4) ∙ ap (λ n. j * n) (sym fours) in
            let e : 4 * (j * (l.pagesize / 4)) + (i - at) ≡ j * l.pagesize + (i - at) = omega arith in
            let f : i ≡ data_page l.pagesize (first + j) * l.pagesize + (i - at) = omega (arith, b.place) in
            ap (number_bytes numbers) e ∙ sym (part_page l d.size first (number_bytes numbers) j (i - at) (omega (arith, fours))) ∙ sym (ap (part l first (number_bytes numbers)) f)

        pub pages_more : PagesSoFar l first pages numbers o o₃ (j + 1)
        pages_more =
            let m = b.maps (λ i. number_bytes numbers (i - first * l.pagesize)) in
            let g = size_three d.size in
            let e : first + (j + 1) ≡ first + j + 1 = omega arith in
            let a : after l.pagesize (first + (j + 1)) ≡ data_page l.pagesize (first + j) + 1 = ap (after l.pagesize) e ∙ after_one l.pagesize g (first + j) in
            let to : after l.pagesize (first + (j + 1)) * l.pagesize ≡ at + 4 * (l.pagesize / 4) = ap (λ n. n * l.pagesize) a ∙ add-mul (data_page l.pagesize (first + j)) 1 l.pagesize ∙ omega (arith, b.place, fours) in
            record {
              filled = rw to
                  (filled_more (times_le l.pagesize (after_rises l.pagesize g first (first + j) (omega arith))) (omega (arith, b.place, times_le l.pagesize (after_rises l.pagesize g first (first + j) (omega arith)), times_le l.pagesize (after_most l.pagesize g (first + j))))
                  w.filled
                  (filled_more (omega (arith, b.place, times_le l.pagesize (after_most l.pagesize g (first + j)))) (omega arith) m (filled_as same_numbers x)));
              within = omega arith;
              room = w.room;
            }

  pub pages_all : pages ≤ j → Numbering l first pages numbers o o₁
  pages_all k = record { filled = rw (le_antisymm k w.within) w.filled }

pub ruleset numbering = (page_rank, page_rank_fits, page_index, page_numbers, pages_none, pages_all)
