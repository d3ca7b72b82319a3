-- The data pages: they rise, none is a map page, each page is the data page of its rank, and which pages lie between.
use mathlib.Core.Path.{◌≡◌, refl, ◌∙◌, ap}
use mathlib.Core.Logic.{⊎_elim, ◌⊎◌, inl, inr}
use mathlib.Core.List.{[]}
use Prim.Native.Nat.{ℕ, zero, suc, ◌+◌, ◌-◌, ◌*◌, ◌/◌, ◌%◌, ◌≤◌, ◌<◌}
use native.Mathlib.Omega.{arith}
use native.Mathlib.Nat.{le-div_iff_mul-le, div-lt_iff_lt-mul, mod-lt, div-add-mod', mul-le-mul_right, suc-mul}
use lib.ListN.{length, get_or, length-append, get_or-append, get_or-eq_default}
use lib.Seq.{get_or_at}
use Rattle.outcome.proofs.OutcomeLaws.{below_or}
use Rattle.container_layout.specs.Place.{data_page, rank, data_pages, after}

-- ---- quotient and remainder
pub page_of_lem : (p a x : ℕ) → x < p → (a * p + x) / p ≡ a
page_of_lem p a x l =
    let pos : 0 < p = omega arith in
    let u : a ≤ (a * p + x) / p = (le-div_iff_mul-le pos).1 (omega arith) in
    let v : (a * p + x) / p < suc a = (div-lt_iff_lt-mul pos).1 (rw suc-mul (omega arith)) in
    omega arith

pub place_of : (p a x : ℕ) → x < p → (a * p + x) % p ≡ x
place_of p a x l =
    let e = div-add-mod' (a * p + x) p in
    let g = ap (λ q. q * p) (page_of_lem p a x l) in
    omega arith

-- a number is the remainder, and its page the quotient, if they make it up
pub divides : (p n a x : ℕ) → x < p → n ≡ a * p + x → (n / p ≡ a) × (n % p ≡ x)
divides p n a x l e = rw e (page_of_lem p a x l, place_of p a x l)

-- ---- products rise
pub times_up : (p : ℕ) {a b : ℕ} → a < b → a * p + p ≤ b * p
times_up p {a} {b} l = let k = rw suc-mul at (mul-le-mul_right p l) in omega arith

pub times_le : (p : ℕ) {a b : ℕ} → a ≤ b → a * p ≤ b * p
times_le p l = mul-le-mul_right p l

module _ (p : ℕ) (big : 3 ≤ p) where
  -- between two pairs of map pages, there are so many data pages
  abbrev pub run : ℕ
  run = p - 2

  pub data_least : (r : ℕ) → 3 ≤ data_page p r
  unfolding data_page
  data_least r = omega arith

  rest_small : (r : ℕ) → r % run < run
  rest_small r = mod-lt r (omega arith)

  -- the r-th data page by the quotient and the remainder of r
  pub data_parts : (a x : ℕ) → x < run → data_page p (a * run + x) ≡ a * p + x + 3
  unfolding data_page
  data_parts a x l = rw (page_of_lem run a x l, place_of run a x l)

  -- ---- one after the other: the next data page is the next page, but where a pair of map pages lies between
  pub data_next : (r j : ℕ) → r % run + j < run → data_page p (r + j) ≡ data_page p r + j
  unfolding data_page
  data_next r j l =
      let e = div-add-mod' r run in
      let d = divides run (r + j) (r / run) (r % run + j) l (omega arith) in
      rw (d.0, d.1) (omega arith)

  rise_by : (a b x y : ℕ) → a * run + x < b * run + y → x < run → y < run → a * p + x < b * p + y
  rise_by a b x y h hx hy =
      ⊎_elim (λ (l : a < b). let k = times_up p l in omega arith)
      (λ (l : b ≤ a).
      ⊎_elim (λ (m : b < a). absurd (let k = times_up run m in omega arith))
      (λ (m : a ≤ b).
      let same : a ≡ b = omega arith in
      let k = ap (λ n. n * run) same in
      let j = ap (λ n. n * p) same in
      omega arith)
      (below_or b a))
      (below_or a b)

  pub data_rises : (r s : ℕ) → r < s → data_page p r < data_page p s
  unfolding data_page
  data_rises r s l =
      let a = div-add-mod' r run in
      let b = div-add-mod' s run in
      let c = rise_by (r / run) (s / run) (r % run) (s % run) (omega arith) (rest_small r) (rest_small s) in
      omega arith

  pub data_rises_le : (r s : ℕ) → r ≤ s → data_page p r ≤ data_page p s
  data_rises_le r s l =
      ⊎_elim (λ (m : r < s). let k = data_rises r s m in omega arith)
      (λ (m : s ≤ r). let same : r ≡ s = omega arith in let k = ap (data_page p) same in omega arith)
      (below_or r s)

  -- ---- no data page is a map page
  pub data_rest : (r x : ℕ) → data_page p r % p ≡ x → (x ≡ 0) ⊎ (3 ≤ x)
  unfolding data_page
  data_rest r x e =
      let s = rest_small r in
      ⊎_elim
      (λ (l : r % run + 3 < p).
      let d = divides p (r / run * p + r % run + 3) (r / run) (r % run + 3) l (omega arith) in
      inr (omega (arith, d.1)))
      (λ (l : p ≤ r % run + 3).
      let d = divides p (r / run * p + r % run + 3) (suc (r / run)) 0 (omega arith) (rw suc-mul (omega arith)) in
      inl (omega (arith, d.1)))
      (below_or (r % run + 3) p)

  pub data_not : (r x : ℕ) → 0 < x → x < 3 → data_page p r % p ≡ x → ⊥
  data_not r x l h e = ⊎_elim (λ z. omega arith) (λ z. omega arith) (data_rest r x e)

  -- ---- rank and data page undo each other
  pub rank_data : (r : ℕ) → rank p (data_page p r) ≡ r
  unfolding rank data_page
  rank_data r =
      let s = rest_small r in
      let e : r / run * p + r % run + 3 - 3 ≡ r / run * p + r % run = omega arith in
      rw (e, page_of_lem p (r / run) (r % run) (omega arith), place_of p (r / run) (r % run) (omega arith)) (div-add-mod' r run)

  -- a page that is neither the header's nor a map page. (Its number mod p is not 1 or 2, so that of its distance from 3 is
  -- not p - 2 or p - 1)
  module _ (n : ℕ) (some : 0 < n) (one : n % p ≡ 1 → ⊥) (two : n % p ≡ 2 → ⊥) where
    page_least : 3 ≤ n
    page_least =
        ⊎_elim
        (λ (l : n < 3).
        ⊎_elim
        (λ (m : n < 2). absurd (one (divides p n 0 1 (omega arith) (omega arith)).1))
        (λ (m : 2 ≤ n). absurd (two (divides p n 0 2 (omega arith) (omega arith)).1))
        (below_or n 2))
        (λ (l : 3 ≤ n). l)
        (below_or n 3)

    rest_in_run : (n - 3) % p < run
    rest_in_run =
        let l = page_least in
        let e = div-add-mod' (n - 3) p in
        let s : (n - 3) % p < p = mod-lt (n - 3) (omega arith) in
        ⊎_elim (λ (m : (n - 3) % p < run). m)
        (λ (m : run ≤ (n - 3) % p).
        ⊎_elim
        (λ (t : (n - 3) % p < p - 1). absurd (one (divides p n (suc ((n - 3) / p)) 1 (omega arith) (rw suc-mul (omega arith))).1))
        (λ (t : p - 1 ≤ (n - 3) % p). absurd (two (divides p n (suc ((n - 3) / p)) 2 (omega arith) (rw suc-mul (omega arith))).1))
        (below_or ((n - 3) % p) (p - 1)))
        (below_or ((n - 3) % p) run)

    pub data_rank : data_page p (rank p n) ≡ n
    unfolding rank
    data_rank =
        let l = page_least in
        let e = div-add-mod' (n - 3) p in
        data_parts ((n - 3) / p) ((n - 3) % p) rest_in_run ∙ omega arith

-- ---- the page after the first r data pages
module _ (p : ℕ) (big : 3 ≤ p) where
  pub after_one : (r : ℕ) → after p (r + 1) ≡ data_page p r + 1
  after_one r = let e : r + 1 ≡ suc r = omega arith in rw e

  -- the r-th data page is the next page
  pub after_next : (r : ℕ) → 0 < r % (p - 2) → data_page p r ≡ after p r
  unfolding data_page
  after_next zero h =
      absurd (let d = divides (p - 2) 0 0 0 (omega arith) (omega arith) in omega (arith, d.1))
  after_next (suc r) h =
      let e = div-add-mod' (suc r) (p - 2) in
      let s : suc r % (p - 2) < p - 2 = mod-lt (suc r) (omega arith) in
      let d = divides (p - 2) r (suc r / (p - 2)) (suc r % (p - 2) - 1) (omega arith) (omega arith) in
      rw (d.0, d.1) (omega arith)

  -- or two map pages lie between, at the start of each run
  pub after_maps : (r : ℕ) → r % (p - 2) ≡ 0 → (data_page p r ≡ after p r + 2) × (after p r ≡ r / (p - 2) * p + 1)
  unfolding data_page
  after_maps zero h =
      let d = divides (p - 2) 0 0 0 (omega arith) (omega arith) in rw (d.0, d.1) (omega arith, omega arith)
  after_maps (suc r) h =
      let e = div-add-mod' (suc r) (p - 2) in
      go (suc r / (p - 2)) refl e
    where
      go : (q : ℕ) → suc r / (p - 2) ≡ q → q * (p - 2) + suc r % (p - 2) ≡ suc r → (data_page p (suc r) ≡ data_page p r + 1 + 2) × (data_page p r + 1 ≡ suc r / (p - 2) * p + 1)
      go zero q e = absurd (omega arith)
      go (suc q) f e =
          let m = suc-mul q (p - 2) in
          let n = suc-mul q p in
          let d = divides (p - 2) r q (p - 3) (omega arith) (omega arith) in
          rw (d.0, d.1, f, h) (omega arith, omega arith)

-- they are before the r-th, and rise
module _ (p : ℕ) (big : 3 ≤ p) where
  pub after_most : (r : ℕ) → after p r ≤ data_page p r
  after_most r =
      ⊎_elim (λ (z : r % (p - 2) < 1). omega (arith, (after_maps p big r (omega arith)).0))
      (λ (z : 1 ≤ r % (p - 2)). omega (arith, after_next p big r z))
      (below_or (r % (p - 2)) 1)

  pub after_rises : (r s : ℕ) → r ≤ s → after p r ≤ after p s
  after_rises zero zero l = omega arith
  after_rises zero (suc s) l = omega arith
  after_rises (suc r) zero l = absurd (omega arith)
  after_rises (suc r) (suc s) l = omega (arith, data_rises_le p big r s (omega arith))

  pub after_some : (r : ℕ) → 1 ≤ after p r
  after_some r = after_rises 0 r (omega arith)

  -- a data page that lies between has a rank that does
  pub rank_from : (a r : ℕ) → after p a ≤ data_page p r → a ≤ r
  rank_from zero r l = omega arith
  rank_from (suc a) r l =
      ⊎_elim (λ (m : r < suc a). absurd (omega (arith, data_rises_le p big r a (omega arith))))
      (λ (m : suc a ≤ r). m)
      (below_or r (suc a))

  pub rank_to : (b r : ℕ) → data_page p r < after p b → r < b
  rank_to b r l =
      ⊎_elim (λ (m : r < b). m)
      (λ (m : b ≤ r). absurd (omega (arith, after_most b, data_rises_le p big b r m)))
      (below_or r b)

-- ---- the list of data pages
module _ (p r : ℕ) where
  pub pages_length : (n : ℕ) → length (data_pages p r n) ≡ n
  unfolding data_pages
  pages_length zero = refl
  pages_length (suc n) = rw length-append (omega (arith, pages_length n))

  pub pages_at_lem : (n i : ℕ) → i < n → get_or (data_pages p r n) i 0 ≡ data_page p (r + i)
  unfolding data_pages
  pages_at_lem zero i h = absurd (omega arith)
  pages_at_lem (suc n) i h =
      ⊎_elim (λ (l : i < n). get_or-append (data_pages p r n) _ 0 i (rw pages_length l) ∙ pages_at_lem n i l)
      (λ (l : n ≤ i). let e : i ≡ n = omega arith in rw e (get_or_at (data_pages p r n) _ [] 0 n (pages_length n)))
      (below_or i n)

  pub pages_past : (n i : ℕ) → n ≤ i → get_or (data_pages p r n) i 0 ≡ 0
  pages_past n i h = get_or-eq_default (data_pages p r n) 0 (rw pages_length h)
