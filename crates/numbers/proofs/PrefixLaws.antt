-- A number that the bytes decide stays as it is when more bytes follow. Only one that is short of bytes may change.
use mathlib.Core.Path.{◌≡◌}
use mathlib.Core.Bool.{true}
use mathlib.Core.List.{List, ◌++◌}
use Prim.Native.Nat.{ℕ, ◌+◌, ◌≤◌, ◌<◌}
use native.Mathlib.Omega.{arith}
use borrow.Author.Tests.{le-leb, leb-true}
use lib.Dec.{leb, ltb}
use lib.ListN.{length, get_or, length-append, get_or-append}
use Rattle.std.specs.Prelude.{Result, Err}
use Rattle.outcome.proofs.OutcomeLaws.{by_test}
use Rattle.numbers.specs.Refusal.{Stop, stop}
use Rattle.numbers.specs.Number.{number_at}
use Rattle.numbers.specs.declared.refusal.Refusal.TheVariants.{ShortData}
use Rattle.numbers.specs.declared.number.Number.{Number}

module _ (s t : List ℕ) (at : ℕ) where
  -- the answer over more bytes, by the answer over the first
  pub data NumberKeeps : Result Number Stop → Type 0 where
    same : {o : Result Number Stop} → number_at (s ++ t) at ≡ o → NumberKeeps o
    short : NumberKeeps (Err (stop ShortData (length s)))

  longer : (n : ℕ) → leb (at + n) (length s) ≡ true → leb (at + n) (length (s ++ t)) ≡ true
  longer n h = le-leb (at + n) (length (s ++ t)) (rw length-append (omega (arith, leb-true (at + n) (length s) h)))

  byte : (i : ℕ) → i < length s → get_or (s ++ t) i 0 ≡ get_or s i 0
  byte i l = get_or-append s t 0 i l

  pub number_keeps : NumberKeeps (number_at s at)
  unfolding number_at
  number_keeps =
      let P = NumberKeeps in
      by_test P (leb (at + 1) (length s))
      (λ h.
      let l : at + 1 ≤ length s = leb-true _ _ h in
      by_test P (ltb (get_or s at 0) 0x80) (λ k. same (simp (longer 1 h, byte at (omega arith), k)))
      (λ k. by_test P (ltb (get_or s at 0) 0xc0)
      (λ m. by_test P (leb (at + 2) (length s))
      (λ g.
      let l₂ : at + 2 ≤ length s = leb-true _ _ g in
      same (simp (longer 1 h, longer 2 g, byte at (omega arith), byte (at + 1) (omega arith), k, m)))
      (λ _. short))
      (λ m. by_test P (leb (at + 4) (length s))
      (λ g.
      let l₄ : at + 4 ≤ length s = leb-true _ _ g in
      by_test P (ltb (get_or s at 0) 0xe0)
      (λ n.
      same
      (simp (longer 1 h, longer 4 g, byte at (omega arith), byte (at + 1) (omega arith), byte (at + 2) (omega arith), byte (at + 3) (omega arith), k, m, n)))
      (λ n. same (simp (longer 1 h, longer 4 g, byte at (omega arith), k, m, n))))
      (λ _. short))))
      (λ _. short)
