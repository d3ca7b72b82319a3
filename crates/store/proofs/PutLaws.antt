-- What putting a run leaves, entry by entry; runs put one after another; and what a copy into a lent part of a store
-- leaves of the whole store.
use mathlib.Core.Path.{◌≡◌, refl, sym, ◌∙◌, ap}
use mathlib.Core.List.{List, ◌++◌, append_assoc}
use Prim.Native.Nat.{ℕ, ◌+◌, ◌-◌, ◌≤◌, ◌<◌}
use native.Mathlib.Omega.{arith}
use lib.ListN.{length, get_or, take, drop, length-append, length-take, length-drop}
use lib.Seq.{sets, sets-eq, length-sets, length-take-le, take_at, drop-drop, get_or-take, get_or-drop}
use Rattle.store.specs.Putting.{Putting}
use Rattle.store.proofs.SetsLaws.{sets_append, sets_before, sets_inside, sets_after}

-- ---- `put`: the part takes all of what is copied, and is put back into the store
module _ {B : Type 0} (xs t ys : List B) (at : ℕ) (fits : at + length xs ≤ length t) (e : ys ≡ xs) where
  put_is : take at t ++ (ys ++ drop (at + length xs - at) (drop at t)) ≡ sets t at xs
  put_is =
      let a : at + length xs - at ≡ length xs = omega arith in
      rw (a, e, drop-drop) (sym (append_assoc (take at t) xs (drop (at + length xs) t))) ∙ sym (sets-eq xs t at fits)

  pub putting : Putting xs t at (take at t ++ (ys ++ drop (at + length xs - at) (drop at t))) (at + length xs)
  putting = record { store = put_is; place = refl; within = rw (put_is, length-sets) fits }

-- ---- what was put, entry by entry
module _ {B : Type 0} {xs t t' : List B} {at r : ℕ} (p : Putting xs t at t' r) where
  pub put_length : length t' ≡ length t
  put_length = ap length p.store ∙ length-sets t at xs

  put_fits : at + length xs ≤ length t
  put_fits = omega (arith, p.place, p.within, put_length)

  -- as many entries stand before the place after the run as it says
  pub put_counts : r ≡ length (take r t')
  put_counts = sym (length-take-le r t' p.within)

  module _ (d : B) (k : ℕ) where
    pub put_before : k < at → get_or t' k d ≡ get_or t k d
    put_before h = rw p.store (sets_before d t at xs k h)

    pub put_inside : k < length xs → get_or t' (at + k) d ≡ get_or xs k d
    put_inside h = rw p.store (sets_inside d t at xs put_fits k h)

    pub put_after : r ≤ k → get_or t' k d ≡ get_or t k d
    put_after h = rw p.store (sets_after d t at xs k (omega (arith, p.place)))

-- a run at the front
pub put_first : {B : Type 0} {xs t t' : List B} {r : ℕ} → Putting xs t 0 t' r → take r t' ≡ xs
put_first {B} {xs} {t} {t'} {r} p =
    let e : sets t 0 xs ≡ xs ++ drop (0 + length xs) t = sets-eq xs t 0 (put_fits p) in
    ap (take r) (p.store ∙ e) ∙ take_at xs _ r (omega (arith, p.place))

-- ---- a run that is a part of another list, as in `put(store, to, &file[from..from + n])`
module _ {B : Type 0} (file : List B) (from n : ℕ) (inside : from + n ≤ length file) {o o' : List B} {to r : ℕ} (p : Putting (take (from + n - from) (drop from file)) o to o' r) where
  part_length : length (take (from + n - from) (drop from file)) ≡ n
  part_length = simp (length-take, length-drop) (omega arith)

  pub part_place : r ≡ to + n
  part_place = p.place ∙ rw part_length

  pub part_inside : (d : B) (k : ℕ) → k < n → get_or o' (to + k) d ≡ get_or file (from + k) d
  part_inside d k h =
      let m : k < from + n - from = omega arith in
      put_inside p d k (rw part_length h) ∙ get_or-take (from + n - from) (drop from file) k d m ∙ get_or-drop from file k d

  pub part_after : (d : B) (k : ℕ) → to + n ≤ k → get_or o' k d ≡ get_or o k d
  part_after d k h = put_after p d k (rw part_place h)

-- ---- one run after another is one run
pub puts_more : {B : Type 0} {xs ys t t₁ t₂ : List B} {at r₁ r₂ : ℕ} → Putting xs t at t₁ r₁ → Putting ys t₁ r₁ t₂ r₂ → Putting (xs ++ ys) t at t₂ r₂
puts_more {B} {xs} {ys} {t} {at = at} p q =
    record {
      store = q.store ∙ rw (p.store, p.place) (sets_append xs ys t at);
      place = q.place ∙ rw (p.place, length-append) (omega arith);
      within = q.within;
    }

module _ {B : Type 0} {xs ys zs t t₁ t₂ t₃ : List B} {at r₁ r₂ r₃ : ℕ} (p : Putting xs t at t₁ r₁) (q : Putting ys t₁ r₁ t₂ r₂) (s : Putting zs t₂ r₂ t₃ r₃) where
  pub puts_three : Putting (xs ++ ys ++ zs) t at t₃ r₃
  puts_three = puts_more (puts_more p q) s

  pub puts_four : {us t₄ : List B} {r₄ : ℕ} → Putting us t₃ r₃ t₄ r₄ → Putting (xs ++ ys ++ zs ++ us) t at t₄ r₄
  puts_four u = puts_more puts_three u
