-- The two sums over the sizes, the layout, and the ways out of planning.
use mathlib.Core.Path.{◌≡◌, refl, ◌∙◌, ap}
use mathlib.Core.Bool.{true, false}
use mathlib.Core.List.{List}
use Prim.Native.Nat.{ℕ, ◌+◌, ◌*◌, ◌/◌, ◌^◌, max, ◌≤◌, ◌<◌}
use native.Mathlib.Omega.{arith}
use native.Mathlib.Nat.{mul-le-mul}
use borrow.Author.Tests.{le-leb, lt-leb}
use lib.Dec.{leb}
use lib.ListN.{length, get_or}
use mir.Syntax.{w64}
use mir.Val.{Fits}
use Rattle.paged.specs.PageSize.{PageSize, need}
use Rattle.paged.proofs.SizeLaws.{passes}
use Rattle.stream.specs.Stream.{pages_of}
use Rattle.container_layout.specs.Place.{data_page}
use Rattle.container_layout.specs.Layout.{present_bytes, bytes_up_to, pages_up_to, stream_pages, directory_size, directory_pages, location_page, pages_used}
use Rattle.container_layout.specs.Planning.{layout_of}
use Rattle.container_layout.specs.Inner.{Numbered}
use Rattle.container_layout.specs.declared.layout.Layout.{Layout}
use Rattle.container_layout.proofs.LayoutLaws.{pages_under, bytes_next, bytes_rise, pages_next, size_fours, few_numbers, many_numbers, ranks_small, location_small, used_small}

-- ---- the two sums over the sizes, size by size
pub bytes_none : (sizes : List ℕ) → bytes_up_to sizes 0 ≡ 0
unfolding bytes_up_to
bytes_none sizes = refl

pub bytes_within : (sizes : List ℕ) (k : ℕ) → k < length sizes → bytes_up_to sizes k + present_bytes (get_or sizes k 0) ≤ bytes_up_to sizes (length sizes)
bytes_within sizes k h =
    omega (arith, bytes_next sizes k, bytes_rise sizes (k + 1) (length sizes) (omega arith))

pub ruleset summing = (bytes_none, bytes_next, bytes_within)

pub pages_none : (p : ℕ) (sizes : List ℕ) → pages_up_to p sizes 0 ≡ 0
unfolding pages_up_to
pages_none p sizes = refl

-- there are no more pages than bytes
pub pages_below : (p : ℕ) (sizes : List ℕ) (k : ℕ) → PageSize p → k ≤ length sizes → pages_up_to p sizes k ≤ bytes_up_to sizes (length sizes)
pages_below p sizes k s h =
    let l = s.least in
    omega (arith, pages_under p (omega arith) sizes k, bytes_rise sizes k (length sizes) h)

pub pages_within : (p : ℕ) (sizes : List ℕ) (k : ℕ) → PageSize p → k < length sizes → pages_up_to p sizes k + pages_of p (get_or sizes k 0) ≤ bytes_up_to sizes (length sizes)
pages_within p sizes k s h =
    omega (arith, pages_next sizes p k, pages_below p sizes (k + 1) s (omega arith))

pub ruleset paging = (pages_none, pages_next, pages_below, pages_within)

-- ---- `lay_out`
module _ (p : ℕ) (sizes : List ℕ) (s : PageSize p) {streams numbers : ℕ} (n : Numbered p sizes streams numbers) where
  small : directory_size p sizes < 2 ^ 32
  small = omega (arith, n.all, n.few)

  pub numbers_fit : 4 * numbers < 2 ^ 40
  numbers_fit = omega (arith, n.few)

  module _ {directory : ℕ} (d : directory ≡ need p (4 * numbers)) where
    directory_is : directory ≡ directory_pages p sizes
    directory_is = d ∙ ap (need p) n.all

    rank_is : streams + directory ≡ stream_pages p sizes + directory_pages p sizes
    rank_is = omega (arith, n.pages, directory_is)

    pub rank_fits : Fits w64 (streams + directory)
    rank_fits = record { fits = omega (arith, rank_is, ranks_small p sizes s small) }

    pub rank_small : streams + directory < 2 ^ 32
    rank_small = omega (arith, rank_is, ranks_small p sizes s small)

    module _ {last : ℕ} (l : last ≡ data_page p (streams + directory)) where
      last_is : last ≡ location_page p sizes
      last_is = l ∙ ap (data_page p) rank_is

      pub last_fits : Fits w64 (last + 1)
      last_fits = record { fits = omega (arith, last_is, location_small p sizes s small) }

      pub laid_out : {least used : ℕ} → least ≡ need p 4096 → used ≡ max (last + 1) least → ◌≡◌ {A = Layout} (record { pagesize = p; streams = streams; directory = directory; last = last; used = used }) (layout_of p sizes)
      laid_out m u = rw (n.pages, directory_is, u, m, last_is)

pub ruleset laying = (rank_fits, rank_small, last_fits, laid_out)

-- ---- `plan`: the tests of the code are those of planning
module _ (p : ℕ) (sizes : List ℕ) (s : PageSize p) where
  size_is : p ≡ 4 * (p / 4)
  size_is = size_fours p s

  some : 0 < p / 4
  some = let l = s.least in omega arith

  pub square_fits : p / 4 * (p / 4) < 2 ^ 64
  square_fits =
      let l : p / 4 ≤ 2 ^ 21 = (let m = s.most in omega arith) in omega (arith, mul-le-mul l l)

  pub list_over : p / 4 * (p / 4) < 1 + length sizes + stream_pages p sizes → leb (4 * directory_pages p sizes) p ≡ false
  list_over l =
      let over : p < 4 * directory_pages p sizes = rw (← size_is) at (many_numbers (p / 4) (1 + length sizes + stream_pages p sizes) some l) in
      lt-leb (4 * directory_pages p sizes) p over

  pub list_holds : 1 + length sizes + stream_pages p sizes ≤ p / 4 * (p / 4) → leb (4 * directory_pages p sizes) p ≡ true
  list_holds l =
      let m : 4 * directory_pages p sizes ≤ p = rw (← size_is) at (few_numbers (p / 4) (1 + length sizes + stream_pages p sizes) some l) in
      le-leb (4 * directory_pages p sizes) p m

  pub used_fits : directory_size p sizes < 2 ^ 32 → leb (pages_used p sizes) 0xffffffff ≡ true
  used_fits l = le-leb (pages_used p sizes) 0xffffffff (omega (arith, used_small p sizes s l))

pub ruleset judging = (passes, square_fits, list_over, list_holds, used_fits)
