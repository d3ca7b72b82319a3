-- A number from a place on is the number over the rest of the bytes, with the place moved.
use mathlib.Core.Path.{◌≡◌, refl}
use mathlib.Core.Bool.{Bool, true, false}
use mathlib.Core.List.{List, ◌++◌}
use Prim.Native.Nat.{ℕ, ◌+◌}
use native.Mathlib.Omega.{arith}
use native.Mathlib.Nat.{add_assoc}
use borrow.Author.Tests.{le-leb, lt-leb, leb-true, leb-false}
use lib.Dec.{leb, ltb}
use lib.ListN.{length, get_or, length-append}
use lib.Seq.{get_or-append-add}
use Rattle.std.specs.Prelude.{Result, Ok, Err}
use Rattle.outcome.proofs.OutcomeLaws.{by_test}
use Rattle.numbers.specs.Refusal.{Stop}
use Rattle.numbers.specs.Number.{number_at}
use Rattle.numbers.specs.declared.number.Number.{Number}

-- the same answer, k places later
abbrev pub later_stop : ℕ → Stop → Stop
later_stop k x = record { refusal = x.refusal; place = k + x.place }

unfoldable pub later_number : ℕ → Result Number Stop → Result Number Stop
later_number k (Ok n) = Ok (record { value = n.value; next = k + n.next; taken = n.taken; shortest = n.shortest })
later_number k (Err why) = Err (later_stop k why)

pub leb_later : (k x y : ℕ) → leb (k + x) (k + y) ≡ leb x y
leb_later k x y = go (leb x y) refl
  where
    go : (b : Bool) → leb x y ≡ b → leb (k + x) (k + y) ≡ b
    go true h = le-leb (k + x) (k + y) (omega (arith, leb-true x y h))
    go false h = lt-leb (k + x) (k + y) (omega (arith, leb-false x y h))

module _ (u w : List ℕ) where
  pub number_later : (a : ℕ) → number_at (u ++ w) (length u + a) ≡ later_number (length u) (number_at w a)
  unfolding number_at later_number
  number_later a =
      let P : Result Number Stop → Type 0 = λ r. number_at (u ++ w) (length u + a) ≡ later_number (length u) r in
      by_test P (leb (a + 1) (length w))
      (λ h. by_test P (ltb (get_or w a 0) 0x80)
      (λ t. simp (length-append, add_assoc, leb_later, get_or-append-add, h, t))
      (λ t. by_test P (ltb (get_or w a 0) 0xc0)
      (λ m. by_test P (leb (a + 2) (length w))
      (λ g. simp (length-append, add_assoc, leb_later, get_or-append-add, h, t, m, g))
      (λ g. simp (length-append, add_assoc, leb_later, get_or-append-add, h, t, m, g)))
      (λ m. by_test P (leb (a + 4) (length w))
      (λ g. by_test P (ltb (get_or w a 0) 0xe0)
      (λ n. simp (length-append, add_assoc, leb_later, get_or-append-add, h, t, m, g, n))
      (λ n. simp (length-append, add_assoc, leb_later, get_or-append-add, h, t, m, g, n)))
      (λ g. simp (length-append, add_assoc, leb_later, get_or-append-add, h, t, m, g)))))
      (λ h. simp (length-append, add_assoc, leb_later, get_or-append-add, h))
