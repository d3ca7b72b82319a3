-- The statements on a number, each proved under the name of its record. What was read is told by its value and how many
-- bytes it took; the shortest form itself is one of those that `NoShorter` speaks of.
use mathlib.Core.Path.{◌≡◌, refl, sym, ◌∙◌, ap}
use mathlib.Core.Bool.{true}
use mathlib.Core.List.{List}
use Prim.Native.Nat.{ℕ, ◌+◌, ◌≤◌}
use native.Mathlib.Omega.{arith}
use borrow.Author.Tests.{eq-eqb, eqb-true}
use Rattle.std.specs.Prelude.{Ok}
use Rattle.numbers.specs.Number.{number_at, short_width, is_shortest}
use Rattle.numbers.specs.declared.number.Number.{Number}
use Rattle.numbers.proofs.MoveLaws.{number_is}
use Rattle.shortest.specs.Short.{Bytes, short}
use Rattle.shortest.proofs.ShortLaws.{short_length}
use Rattle.shortest.proofs.ReadLaws.{short_reads, number_least, short_bytes}
use Rattle.shortest.proofs.ShortLaws.{bytes_at_lem}
use Rattle.shortest_statements.specs.Statements.{Taken, NoShorter, ShortestExactly}
use Rattle.shortest_statements.proofs.FormBack.{number_small}

module _ (s : List ℕ) (at : ℕ) (x : Number) (e : number_at s at ≡ Ok x) where
  ends : x.next ≡ at + x.taken
  ends = ap (λ (n : Number). n.next) (number_is s at e)

  says : x.shortest ≡ is_shortest x.value x.taken
  says = ap (λ (n : Number). n.shortest) (number_is s at e)

pub taken : Taken
taken =
    record {
      minus = λ s at x e. omega (arith, ends s at x e);
      plus = λ s at x e. sym (ends s at x e);
    }

-- ---- the shortest form
-- no form of bytes takes fewer
least : (s : List ℕ) (at : ℕ) (x : Number) → Bytes s → number_at s at ≡ Ok x → short_width x.value ≤ x.taken
least s at x bytes e = omega (arith, number_least s at bytes e, ends s at x e, short_length x.value)

module _ (s : List ℕ) (at : ℕ) (x : Number) (bytes : Bytes s) (e : number_at s at ≡ Ok x) where
  no_shorter : x.shortest ≡ true → NoShorter x
  no_shorter h s' at' y bytes' e' same =
      let width : x.taken ≡ short_width x.value = eqb-true _ _ (sym (says s at x e) ∙ h) in
      rw (width, ← same) (least s' at' y bytes' e')

  is_shortest_lem : NoShorter x → x.shortest ≡ true
  is_shortest_lem h =
      let v = x.value in
      let small = number_small s at bytes e in
      let most = h (short v) 0 _ (bytes_at_lem (short_bytes v small)) (short_reads v small) refl in
      says s at x e ∙ eq-eqb x.taken (short_width v) (omega (arith, least s at x bytes e, short_length v))

pub shortest_exactly : ShortestExactly
shortest_exactly = record { is = λ s at x bytes e. (no_shorter s at x bytes e, is_shortest_lem s at x bytes e) }
