-- Laws of `sets` of `lib.Seq`: a store whose entries from a place on were set to these. `length-sets`, that it keeps its
-- length, and `sets-eq`, that it is front, entries and rest, stand there already.
use mathlib.Core.Path.{◌≡◌, refl, sym, ◌∙◌}
use mathlib.Core.List.{List, [], ◌∷◌, ◌++◌}
use mathlib.Core.Logic.{⊎_elim}
use Prim.Native.Nat.{ℕ, zero, suc, ◌+◌, ◌≤◌, ◌<◌}
use native.Mathlib.Omega.{arith}
use lib.ListN.{length, get_or, set, length-set}
use lib.Seq.{sets, length-sets, get_or-set_same, get_or-set_other, ext_get_or}
use Rattle.outcome.proofs.OutcomeLaws.{below_or}

-- ---- one run after another
module _ {B : Type 0} where
  pub sets_append : (xs ys l : List B) (i : ℕ) → sets (sets l i xs) (i + length xs) ys ≡ sets l i (xs ++ ys)
  sets_append [] ys l i = let e : i + 0 ≡ i = omega arith in rw e
  sets_append (x ∷ xs) ys l i =
      let e : i + suc (length xs) ≡ suc i + length xs = omega arith in
      rw e (sets_append xs ys _ (suc i))

  pub sets_snoc : (l : List B) (i : ℕ) (xs : List B) (x : B) → sets l i (xs ++ x ∷ []) ≡ set (sets l i xs) (i + length xs) x
  sets_snoc l i xs x = sym (sets_append xs (x ∷ []) l i)

-- ---- entry by entry: before the run, in it and after it
module _ {B : Type 0} (d : B) where
  pub sets_before : (l : List B) (i : ℕ) (xs : List B) (k : ℕ) → k < i → get_or (sets l i xs) k d ≡ get_or l k d
  sets_before l i [] k h = refl
  sets_before l i (x ∷ xs) k h =
      sets_before (set l i x) (suc i) xs k (omega arith) ∙ get_or-set_other l i k x d (λ e. omega arith)

  pub sets_inside : (l : List B) (i : ℕ) (xs : List B) → i + length xs ≤ length l → (k : ℕ) → k < length xs → get_or (sets l i xs) (i + k) d ≡ get_or xs k d
  sets_inside l i [] fits k h = absurd (omega arith)
  sets_inside l i (x ∷ xs) fits zero h =
      let e : i + 0 ≡ i = omega arith in
      rw e (sets_before (set l i x) (suc i) xs i (omega arith) ∙ get_or-set_same l i x d (omega arith))
  sets_inside l i (x ∷ xs) fits (suc k) h =
      let e : i + suc k ≡ suc i + k = omega arith in
      let same = length-set l i x in
      rw e (sets_inside (set l i x) (suc i) xs (omega arith) k (omega arith))

  pub sets_after : (l : List B) (i : ℕ) (xs : List B) (k : ℕ) → i + length xs ≤ k → get_or (sets l i xs) k d ≡ get_or l k d
  sets_after l i [] k h = refl
  sets_after l i (x ∷ xs) k h =
      sets_after (set l i x) (suc i) xs k (omega arith) ∙ get_or-set_other l i k x d (λ e. omega arith)

-- ---- the first entries: what a success writes
module _ {B : Type 0} (d : B) (l xs : List B) (fits : length xs ≤ length l) where
  pub sets_first : (k : ℕ) → k < length xs → get_or (sets l 0 xs) k d ≡ get_or xs k d
  sets_first k h = let e : 0 + k ≡ k = omega arith in rw e at (sets_inside d l 0 xs (omega arith) k h)

  pub sets_beyond : (k : ℕ) → length xs ≤ k → get_or (sets l 0 xs) k d ≡ get_or l k d
  sets_beyond k h = sets_after d l 0 xs k (omega arith)

  -- a store that has these entries first and else the old ones is the old one with these set
  pub sets_by_entries : {l' : List B} → length l' ≡ length l → ((k : ℕ) → k < length xs → get_or l' k d ≡ get_or xs k d) → ((k : ℕ) → length xs ≤ k → get_or l' k d ≡ get_or l k d) → l' ≡ sets l 0 xs
  sets_by_entries {l'} same first rest =
      ext_get_or d l' (sets l 0 xs) (same ∙ sym (length-sets l 0 xs))
      (λ k _.
      ⊎_elim (λ (h : k < length xs). first k h ∙ sym (sets_first k h))
      (λ (h : length xs ≤ k). rest k h ∙ sym (sets_beyond k h))
      (below_or k (length xs)))
