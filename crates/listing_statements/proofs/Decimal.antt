-- A number in decimal, by its digits from the last on.
use mathlib.Core.Path.{◌≡◌, refl}
use mathlib.Core.Logic.{⊎_elim}
use mathlib.Core.List.{List, [], ◌∷◌, ◌++◌}
use Prim.Native.Nat.{ℕ, zero, suc, ◌+◌, ◌-◌, ◌*◌, ◌/◌, ◌%◌, ◌≤◌, ◌<◌}
use native.Mathlib.Omega.{arith}
use borrow.Author.Tests.{lt-ltb, le-ltb}
use lib.ListN.{length, get_or, length-append, get_or-append}
use lib.Seq.{get_or_at}
use Rattle.outcome.proofs.OutcomeLaws.{below_or}
use Rattle.listing_text.specs.Text.{digit, spelled}
use Rattle.listing_statements.specs.Statements.{value_from, Decimal}

value_last : (before : ℕ) (xs : List ℕ) (c : ℕ) → value_from before (xs ++ c ∷ []) ≡ value_from before xs * 10 + (c - 48)
unfolding value_from
value_last before [] c = refl
value_last before (x ∷ xs) c = value_last (before * 10 + (x - 48)) xs c

-- one digit, or those of a tenth and one more
module _ (more n : ℕ) where
  one : n < 10 → spelled (suc more) n ≡ digit n ∷ []
  unfolding spelled
  one l = rw (lt-ltb n 10 l)

  some : 10 ≤ n → spelled (suc more) n ≡ spelled more (n / 10) ++ digit (n % 10) ∷ []
  unfolding spelled
  some l = rw (le-ltb n 10 l)

value_is : (fuel n : ℕ) → n < fuel → value_from 0 (spelled fuel n) ≡ n
unfolding value_from
value_is zero n h = absurd (omega arith)
value_is (suc more) n h =
    ⊎_elim
    (λ (l : n < 10). rw (one more n l) (omega arith))
    (λ (l : 10 ≤ n). rw (some more n l, value_last, value_is more (n / 10) (omega arith)) (omega arith))
    (below_or n 10)

-- every character is a digit, and the first is not 0
abbrev pub Digit : ℕ → Type 0
Digit c = (48 ≤ c) × (c ≤ 57)

only_digit : (n : ℕ) → n < 10 → (i : ℕ) → i < 1 → Digit (get_or (digit n ∷ []) i 0)
only_digit n h zero l = (omega arith, omega arith)
only_digit n h (suc i) l = absurd (omega arith)

last_digit : (n : ℕ) (xs : List ℕ) → ((i : ℕ) → i < length xs → Digit (get_or xs i 0)) → (i : ℕ) → i < length xs + 1 → Digit (get_or (xs ++ digit (n % 10) ∷ []) i 0)
last_digit n xs before i l =
    ⊎_elim
    (λ (m : i < length xs). rw (get_or-append xs (digit (n % 10) ∷ []) 0 i m) (before i m))
    (λ (m : length xs ≤ i). rw (get_or_at xs (digit (n % 10)) [] 0 i (omega arith)) (omega arith, omega arith))
    (below_or i (length xs))

digits_are : (fuel n : ℕ) → n < fuel → (i : ℕ) → i < length (spelled fuel n) → Digit (get_or (spelled fuel n) i 0)
digits_are zero n h i j = absurd (omega arith)
digits_are (suc more) n h i j =
    ⊎_elim
    (λ (l : n < 10). rw (one more n l) (only_digit n l i (rw (one more n l) at j)))
    (λ (l : 10 ≤ n).
    rw (some more n l)
    (last_digit n (spelled more (n / 10)) (digits_are more (n / 10) (omega arith)) i (rw (some more n l, length-append) at j)))
    (below_or n 10)

-- there is a first
filled : (fuel n : ℕ) → n < fuel → 0 < length (spelled fuel n)
filled zero n h = absurd (omega arith)
filled (suc more) n h =
    ⊎_elim
    (λ (l : n < 10). rw (one more n l) (omega arith))
    (λ (l : 10 ≤ n). rw (some more n l, length-append) (omega arith))
    (below_or n 10)

front_is : (fuel n : ℕ) → n < fuel → 0 < n → 48 < get_or (spelled fuel n) 0 0
front_is zero n h z = absurd (omega arith)
front_is (suc more) n h z =
    ⊎_elim
    (λ (l : n < 10). rw (one more n l) (omega arith))
    (λ (l : 10 ≤ n).
    rw (some more n l, get_or-append (spelled more (n / 10)) (digit (n % 10) ∷ []) 0 0 (filled more (n / 10) (omega arith)))
    (front_is more (n / 10) (omega arith) (omega arith)))
    (below_or n 10)

pub decimal_right : Decimal
decimal_right =
    record {
      value = λ n. value_is (suc n) n (omega arith);
      digits = λ n i l. digits_are (suc n) n (omega arith) i l;
      front = λ n z. front_is (suc n) n (omega arith) z;
    }
