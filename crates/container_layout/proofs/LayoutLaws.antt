-- How much there is of each part: the sums rise, no stream has more pages than bytes, and what has 32 bits.
use mathlib.Core.Path.{◌≡◌, ◌∙◌, ap}
use mathlib.Core.Bool.{Bool, true, false, cond}
use mathlib.Core.Logic.{⊎_elim}
use mathlib.Core.List.{List}
use Prim.Native.Nat.{ℕ, zero, suc, ◌+◌, ◌-◌, ◌*◌, ◌/◌, ◌^◌, ◌≤◌, ◌<◌}
use native.Mathlib.Omega.{arith}
use native.Mathlib.Nat.{div-add-mod', mod-eq_of_lt, mul-le-mul_left, mul-le-mul_right, mul_left_comm, mul-add, max-le}
use native.Mathlib.Decide.{le_ind}
use native.Mathlib.Numerals.{add-one}
use lib.Dec.{eqb}
use lib.ListN.{get_or}
use Rattle.outcome.proofs.OutcomeLaws.{below_or}
use Rattle.paged.specs.PageSize.{PageSize, need}
use Rattle.paged.proofs.SizeLaws.{need_le, need_covers, need_least, word_in_page}
use Rattle.header.specs.Header.{header_block}
use Rattle.stream.specs.Stream.{absent, pages_of}
use Rattle.container_layout.specs.Place.{data_page}
use Rattle.container_layout.specs.Layout.{present_bytes, bytes_up_to, pages_up_to, stream_pages, directory_size, directory_pages, location_page, pages_used}

-- ---- no stream has more pages than bytes
module _ (p : ℕ) (h : 0 < p) where
  pub pages_few : (size : ℕ) → pages_of p size ≤ present_bytes size
  unfolding pages_of present_bytes
  pages_few size = go (eqb size absent)
    where
      go : (b : Bool) → cond b 0 (need p size) ≤ cond b 0 size
      go true = omega arith
      go false = need_le p size h

  pub pages_under : (sizes : List ℕ) (k : ℕ) → pages_up_to p sizes k ≤ bytes_up_to sizes k
  unfolding pages_up_to bytes_up_to
  pages_under sizes zero = omega arith
  pages_under sizes (suc k) = omega (arith, pages_under sizes k, pages_few (get_or sizes k 0))

  -- its pages hold its bytes
  pub pages_cover : (size : ℕ) → present_bytes size ≤ pages_of p size * p
  unfolding pages_of present_bytes
  pages_cover size = go (eqb size absent)
    where
      go : (b : Bool) → cond b 0 size ≤ cond b 0 (need p size) * p
      go true = omega arith
      go false = need_covers p size h

-- ---- the sums rise, stream by stream
module _ (sizes : List ℕ) where
  pub bytes_next : (k : ℕ) → bytes_up_to sizes (k + 1) ≡ bytes_up_to sizes k + present_bytes (get_or sizes k 0)
  unfolding bytes_up_to
  bytes_next k = rw add-one

  pub bytes_rise : (j k : ℕ) → j ≤ k → bytes_up_to sizes j ≤ bytes_up_to sizes k
  unfolding bytes_up_to
  bytes_rise j k h = le_ind (λ (m : ℕ). bytes_up_to sizes j ≤ bytes_up_to sizes m) (omega arith) (λ m _ l. omega arith) k h

  module _ (p : ℕ) where
    pub pages_next : (k : ℕ) → pages_up_to p sizes (k + 1) ≡ pages_up_to p sizes k + pages_of p (get_or sizes k 0)
    unfolding pages_up_to
    pages_next k = rw add-one

    pub pages_rise : (j k : ℕ) → j ≤ k → pages_up_to p sizes j ≤ pages_up_to p sizes k
    unfolding pages_up_to
    pages_rise j k h = le_ind (λ (m : ℕ). pages_up_to p sizes j ≤ pages_up_to p sizes m) (omega arith) (λ m _ l. omega arith) k h

-- ---- a page size is a multiple of 4. (Else its last whole word would reach past it)
pub size_fours : (p : ℕ) → PageSize p → p ≡ 4 * (p / 4)
size_fours p s =
    let w = word_in_page p (p / 4) s in
    ⊎_elim (λ (l : 4 * (p / 4) < p). absurd (omega (arith, mod-eq_of_lt l)))
    (λ (l : p ≤ 4 * (p / 4)). omega arith)
    (below_or (4 * (p / 4)) p)

-- ---- one location page holds the numbers of the directory's pages just where q numbers of q pages hold the directory's
module _ (q w : ℕ) (h : 0 < q) where
  fours : need (4 * q) (4 * w) ≡ need q w
  fours =
      let pos : 0 < 4 * q = omega arith in
      let a = need_least (4 * q) (4 * w) pos (need q w) (omega (arith, need_covers q w h, mul_left_comm (need q w) 4 q)) in
      let b = need_least q w h (need (4 * q) (4 * w)) (omega (arith, need_covers (4 * q) (4 * w) pos, mul_left_comm (need (4 * q) (4 * w)) 4 q)) in
      omega arith

  pub few_numbers : w ≤ q * q → 4 * need (4 * q) (4 * w) ≤ 4 * q
  few_numbers l = omega (arith, fours, need_least q w h q l)

  pub many_numbers : q * q < w → 4 * q < 4 * need (4 * q) (4 * w)
  many_numbers l =
      ⊎_elim (λ (m : q < need q w). omega (arith, fours))
      (λ (m : need q w ≤ q). absurd (omega (arith, need_covers q w h, mul-le-mul_right q m)))
      (below_or q (need q w))

-- ---- numbers of 32 bits
-- a data page's number is at most half as much again as its rank
pub data_most : (p r : ℕ) → 6 ≤ p → data_page p r ≤ r + r / 2 + 3
unfolding data_page
data_most p r h =
    let q : ℕ = r / (p - 2) in
    let s : p ≡ (p - 2) + 2 = omega arith in
    let m : q * p ≡ q * (p - 2) + q * 2 = ap (λ n. q * n) s ∙ mul-add q (p - 2) 2 in
    let f : q * 4 ≤ q * (p - 2) = mul-le-mul_left q (omega arith) in
    omega (arith, div-add-mod' r (p - 2))

module _ (p : ℕ) (sizes : List ℕ) (s : PageSize p) where
  -- the directory has at least its count, so at least one page
  pub directory_some : 0 < directory_pages p sizes
  directory_some =
      let l = s.least in
      let c = need_covers p (directory_size p sizes) (omega arith) in
      ⊎_elim (λ (z : directory_pages p sizes < 1). absurd (let e : directory_pages p sizes ≡ 0 = omega arith in omega (arith, rw e at c)))
      (λ (z : 1 ≤ directory_pages p sizes). z)
      (below_or (directory_pages p sizes) 1)

  module _ (small : directory_size p sizes < 2 ^ 32) where
    -- the ranks of data pages
    pub ranks_small : stream_pages p sizes + directory_pages p sizes < 2 ^ 31
    ranks_small =
        let l = s.least in
        let d = need_least p (directory_size p sizes) (omega arith) (2 ^ 24) (let m = mul-le-mul_left (2 ^ 24) l in omega arith) in
        omega arith

    pub location_small : location_page p sizes + 1 < 2 ^ 32
    location_small =
        let l = s.least in
        omega (arith, ranks_small, data_most p (stream_pages p sizes + directory_pages p sizes) (omega arith))

    pub used_small : pages_used p sizes < 2 ^ 32
    used_small =
        let l = s.least in
        let n = need_le p header_block (omega arith) in
        let m : pages_used p sizes ≤ 2 ^ 32 - 1 = max-le (omega (arith, location_small)) (omega arith) in
        omega arith
