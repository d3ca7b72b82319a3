-- The free map's bits eight at a time, a map page byte by byte, and the pages before a data page.
use mathlib.Core.Path.{◌≡◌, refl, sym, ◌∙◌, ap}
use mathlib.Core.Bool.{Bool, cond}
use mathlib.Core.Logic.{⊎_elim}
use mathlib.Core.List.{List}
use Prim.Native.Nat.{ℕ, zero, suc, ◌+◌, ◌-◌, ◌*◌, ◌/◌, ◌%◌, ◌^◌, min, ◌≤◌, ◌<◌}
use native.Mathlib.Omega.{arith}
use native.Mathlib.Nat.{pow-suc, pow-le-pow_right, add-mul, div-le_self}
use lib.ListN.{length, set}
use mir.Syntax.{w64}
use mir.Val.{Fits}
use Rattle.outcome.proofs.OutcomeLaws.{below_or}
use Rattle.paged.specs.PageSize.{PageSize}
use Rattle.paged.proofs.SizeLaws.{at_most_largest}
use Rattle.container_layout.specs.Place.{data_page, pages_with, after}
use Rattle.container_layout.specs.Layout.{is_padding}
use Rattle.container_layout.specs.Container.{bits, map_byte}
use Rattle.container_layout.specs.declared.layout.Layout.{Layout}
use Rattle.container_layout.proofs.PlaceLaws.{times_le, data_least, after_next, after_maps}
use Rattle.container_layout.proofs.LayoutLaws.{data_most}
use Rattle.container_layout.proofs.ContainerLaws.{padding_yes, padding_not, with_map, with_zero}
use Rattle.container_layout.specs.Laid.{Bounds}
use Rattle.container_pages.specs.Inner.{Filled, Within, low_bits, Freeing, map_of, map_from, Beginning}
use Rattle.container_pages.proofs.FillLaws.{filled_none, filled_more, filled_as, filled_set}

-- ---- `low_bits`
pub low_shift : (v : ℕ) → v ≤ 8 → 255 / 2 ^ (8 - v) ≡ low_bits v
low_shift zero h = refl
low_shift (suc zero) h = refl
low_shift (suc (suc zero)) h = refl
low_shift (suc (suc (suc zero))) h = refl
low_shift (suc (suc (suc (suc zero)))) h = refl
low_shift (suc (suc (suc (suc (suc zero))))) h = refl
low_shift (suc (suc (suc (suc (suc (suc zero)))))) h = refl
low_shift (suc (suc (suc (suc (suc (suc (suc zero))))))) h = refl
low_shift (suc (suc (suc (suc (suc (suc (suc (suc zero)))))))) h = refl
low_shift (suc (suc (suc (suc (suc (suc (suc (suc (suc v))))))))) h = absurd (omega arith)

-- ---- `free_bits`: the ones below pages_used, less those up to the last data page
power_rises : (a b : ℕ) → a ≤ b → 2 ^ a ≤ 2 ^ b
power_rises a b h = pow-le-pow_right (omega arith) h

low_rises : (a b : ℕ) → a ≤ b → low_bits a ≤ low_bits b
low_rises a b h = omega (arith, power_rises a b h)

-- of c pages from here on, as many bits as there are below u, less those below v
abbrev between : ℕ → ℕ → ℕ → ℕ
between u v c = low_bits (min u c) - low_bits (min v c)

module _ (u v c : ℕ) (order : v ≤ u) where
  between_past : u ≤ c → between u v (suc c) ≡ between u v c + 0
  between_past h =
      let a : min u (suc c) ≡ min u c = omega arith in
      let b : min v (suc c) ≡ min v c = omega arith in
      rw (a, b) (omega arith)

  between_in : v ≤ c → c < u → between u v (suc c) ≡ between u v c + 2 ^ c
  between_in h k =
      let a : min u (suc c) ≡ suc c = omega arith in
      let b : min v (suc c) ≡ v = omega arith in
      let d : min u c ≡ c = omega arith in
      let e : min v c ≡ v = omega arith in
      rw (a, b, d, e, pow-suc 2 c) (omega (arith, power_rises 0 v (omega arith), power_rises v c h))

  between_before : c < v → between u v (suc c) ≡ between u v c + 0
  between_before h =
      let a : min u (suc c) ≡ suc c = omega arith in
      let b : min v (suc c) ≡ suc c = omega arith in
      let d : min u c ≡ c = omega arith in
      let e : min v c ≡ c = omega arith in
      rw (a, b, d, e) (omega arith)

module _ (last used n : ℕ) (some : last < used) where
  abbrev step : Bool → ℕ → ℕ
  step b c = between (used - n) (last + 1 - n) c + cond b (2 ^ c) 0

  free_step : (c : ℕ) → between (used - n) (last + 1 - n) (suc c) ≡ step (is_padding last used (n + c)) c
  free_step c =
      ⊎_elim
      (λ (u : c < used - n).
      ⊎_elim
      (λ (v : c < last + 1 - n). rw (padding_not last used (n + c) (λ h. omega (arith, h.0))) (between_before (used - n) (last + 1 - n) c (omega arith) v))
      (λ (v : last + 1 - n ≤ c). rw (padding_yes last used (n + c) (omega arith) (omega arith)) (between_in (used - n) (last + 1 - n) c (omega arith) v u))
      (below_or c (last + 1 - n)))
      (λ (u : used - n ≤ c). rw (padding_not last used (n + c) (λ h. omega (arith, h.1))) (between_past (used - n) (last + 1 - n) c (omega arith) u))
      (below_or c (used - n))

  pub free_bits : (c : ℕ) → bits (λ b. is_padding last used (n + b)) c ≡ between (used - n) (last + 1 - n) c
  unfolding bits
  free_bits zero =
      let d : min (used - n) 0 ≡ 0 = omega arith in
      let e : min (last + 1 - n) 0 ≡ 0 = omega arith in
      rw (d, e)
  free_bits (suc c) =
      ap (λ (m : ℕ). m + cond (is_padding last used (n + c)) (2 ^ c) 0) (free_bits c) ∙ sym (free_step c)

module _ {l : Layout} (b : Bounds l) (n : ℕ) {u v : ℕ} (e : u ≡ low_bits (min (l.used - n) 8)) (f : v ≡ low_bits (min (l.last + 1 - n) 8)) where
  pub free_order : v ≤ u
  free_order =
      let m = b.last in
      omega (arith, low_rises (min (l.last + 1 - n) 8) (min (l.used - n) 8) (omega arith))

  pub freed : Freeing l n (u - v)
  freed =
      let m = low_rises (min (l.used - n) 8) 8 (omega arith) in
      record {
        is = rw (e, f) (sym (free_bits l.last l.used n b.last 8));
        small = omega arith;
      }

pub last_fits : {l : Layout} → Bounds l → Fits w64 (l.last + 1)
last_fits b = record { fits = omega (arith, b.last, b.used) }

pub ruleset freeing = (free_order, freed, last_fits)

-- ---- `put_map`: x bytes are put
pub record MapSoFar (l : Layout) (q at : ℕ) (o o₁ : List ℕ) (x : ℕ) : Type 0 where
  pub filled : Filled (map_from l q at) o at (at + x) o₁
  pub within : x ≤ l.pagesize
  pub fits : at + l.pagesize ≤ length o

pub map_none : (l : Layout) (q at : ℕ) (o : List ℕ) → at + l.pagesize ≤ length o → MapSoFar l q at o o 0
map_none l q at o h =
    let e : at + 0 ≡ at = omega arith in
    record { filled = rw e (filled_none (map_from l q at) o at); within = omega arith; fits = h }

module _ {l : Layout} {q at : ℕ} {o o₁ : List ℕ} {x : ℕ} (m : MapSoFar l q at o o₁ x) where
  module _ (h : x < l.pagesize) where
    pub map_room : at + x < length o₁
    map_room = omega (arith, m.fits, m.filled.same)

    pub map_more : {v : ℕ} → Freeing l (8 * (q * l.pagesize + x)) v → MapSoFar l q at o (set o₁ (at + x) v) (x + 1)
    unfolding map_byte
    map_more v =
        let e : at + (x + 1) ≡ at + x + 1 = omega arith in
        let d : at + x - at ≡ x = omega arith in
        record {
          filled = rw e (filled_set m.filled (omega arith) map_room (v.is ∙ ap (map_of l q) (sym d)));
          within = omega arith;
          fits = m.fits;
        }

  pub map_all : l.pagesize ≤ x → Filled (map_from l q at) o at (at + l.pagesize) o₁
  map_all h =
      let e : at + x ≡ at + l.pagesize = omega (arith, m.within) in
      ap' e
    where
      ap' : {n : ℕ} → at + x ≡ n → Filled (map_from l q at) o at n o₁
      ap' e = rw (← e) m.filled

module _ {l : Layout} (b : Bounds l) {q x : ℕ} (h : q < 2 ^ 32) (k : x < l.pagesize) where
  pub page_fits_lem : Fits w64 (q * l.pagesize)
  page_fits_lem = record { fits = omega (arith, at_most_largest q b.size) }

  pub byte_fits : Fits w64 (q * l.pagesize + x)
  byte_fits = let m = b.size.most in record { fits = omega (arith, at_most_largest q b.size) }

  pub bit_fits : Fits w64 (8 * (q * l.pagesize + x))
  bit_fits = let m = b.size.most in record { fits = omega (arith, at_most_largest q b.size) }

pub ruleset mapping = (page_fits_lem, byte_fits, bit_fits, map_none, map_more, map_all)

-- ---- `begin_page`
module _ {l : Layout} (b : Bounds l) (r : ℕ) {at : ℕ} (o : List ℕ) (e : at ≡ data_page l.pagesize r * l.pagesize) where
  big : 3 ≤ l.pagesize
  big = let s = b.size.least in omega arith

  pub begin_none : (r % (l.pagesize - 2) ≡ 0 → ⊥) → Beginning l r at o o
  begin_none z =
      let some : 0 < r % (l.pagesize - 2) = omega arith in
      record {
        place = e;
        maps = λ body. rw (e, ← after_next l.pagesize big r some) (filled_none _ o (data_page l.pagesize r * l.pagesize));
      }

  pub begin_order : 2 * l.pagesize ≤ at
  begin_order =
      let d = data_least l.pagesize big r in
      omega (arith, times_le l.pagesize {a = 2} {b = data_page l.pagesize r} (omega arith))

  pub begin_map : data_page l.pagesize r * l.pagesize ≤ length o → at - 2 * l.pagesize + l.pagesize ≤ length o
  begin_map h = omega (arith, begin_order)

  pub begin_within : {o₁ : List ℕ} → data_page l.pagesize r * l.pagesize ≤ length o → Filled (map_from l (r / (l.pagesize - 2)) (at - 2 * l.pagesize)) o (at - 2 * l.pagesize) (at - 2 * l.pagesize + l.pagesize) o₁ → Within (at - 2 * l.pagesize + l.pagesize) at (length o₁)
  begin_within h x = record { order = omega (arith, begin_order); fits = rw (x.same, e) h }

  module _ (z : r % (l.pagesize - 2) ≡ 0) where
    pair : (data_page l.pagesize r ≡ after l.pagesize r + 2) × (after l.pagesize r ≡ r / (l.pagesize - 2) * l.pagesize + 1)
    pair = after_maps l.pagesize big r z

    start : at - 2 * l.pagesize ≡ (r / (l.pagesize - 2) * l.pagesize + 1) * l.pagesize
    start =
        let a = add-mul (after l.pagesize r) 2 l.pagesize in
        let c = ap (λ (n : ℕ). n * l.pagesize) pair.0 in
        let d = ap (λ (n : ℕ). n * l.pagesize) pair.1 in
        omega arith

    next : at - 2 * l.pagesize + l.pagesize ≡ (r / (l.pagesize - 2) * l.pagesize + 2) * l.pagesize
    next =
        let a = add-mul (r / (l.pagesize - 2) * l.pagesize) 1 l.pagesize in
        let c = add-mul (r / (l.pagesize - 2) * l.pagesize) 2 l.pagesize in
        omega (arith, start)

    module _ (body : ℕ → ℕ) where
      is_map : (i : ℕ) → at - 2 * l.pagesize ≤ i → i < at - 2 * l.pagesize + l.pagesize → map_from l (r / (l.pagesize - 2)) (at - 2 * l.pagesize) i ≡ pages_with l.pagesize (map_of l) body i
      is_map i a c =
          let x : ℕ = i - (at - 2 * l.pagesize) in
          let d : i ≡ (r / (l.pagesize - 2) * l.pagesize + 1) * l.pagesize + x = omega (arith, start) in
          sym (ap (pages_with l.pagesize (map_of l) body) d ∙ with_map l.pagesize big (map_of l) body x (omega arith) (r / (l.pagesize - 2)))

      is_zero : (i : ℕ) → at - 2 * l.pagesize + l.pagesize ≤ i → i < at → 0 ≡ pages_with l.pagesize (map_of l) body i
      is_zero i a c =
          let x : ℕ = i - (at - 2 * l.pagesize + l.pagesize) in
          let d : i ≡ (r / (l.pagesize - 2) * l.pagesize + 2) * l.pagesize + x = omega (arith, next) in
          sym (ap (pages_with l.pagesize (map_of l) body) d ∙ with_zero l.pagesize big (map_of l) body x (omega arith) (r / (l.pagesize - 2)))

    pub begin_maps : {o₁ o₂ : List ℕ} → Filled (map_from l (r / (l.pagesize - 2)) (at - 2 * l.pagesize)) o (at - 2 * l.pagesize) (at - 2 * l.pagesize + l.pagesize) o₁ → Filled (λ _. 0) o₁ (at - 2 * l.pagesize + l.pagesize) at o₂ → Beginning l r at o o₂
    begin_maps x y =
        let from : after l.pagesize r * l.pagesize ≡ at - 2 * l.pagesize = ap (λ (n : ℕ). n * l.pagesize) pair.1 ∙ sym start in
        record {
          place = e;
          maps = λ body. rw from (filled_more (omega arith) (omega (arith, begin_order)) (filled_as (is_map body) x) (filled_as (is_zero body) y));
        }

-- ---- `data_place`
pub place_fits : (p r : ℕ) → PageSize p → r < 2 ^ 32 → {v : ℕ} → v ≡ data_page p r → Fits w64 (v * p)
place_fits p r s h {v} e =
    let m = s.least in
    let d = data_most p r (omega arith) in
    record { fits = omega (arith, at_most_largest v s) }

pub run_small : {r : ℕ} (run : ℕ) → r < 2 ^ 32 → r / run < 2 ^ 32
run_small {r} run h = omega (arith, div-le_self r run)

pub ruleset beginning = (place_fits, run_small, begin_none, begin_order, begin_map, begin_within, begin_maps)
