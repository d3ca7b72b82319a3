-- A number ends past its start, within the bytes, and is told by its value and how many bytes it took.
use mathlib.Core.Path.{◌≡◌, sym}
use mathlib.Core.List.{List}
use Prim.Native.Nat.{ℕ, ◌≤◌, ◌<◌}
use native.Mathlib.Omega.{arith}
use lib.ListN.{length}
use Rattle.std.specs.Prelude.{Result, Ok}
use Rattle.outcome.proofs.OutcomeLaws.{ok_is, ok_refused}
use Rattle.numbers.specs.Refusal.{Stop}
use Rattle.numbers.specs.Number.{number_of, number_at}
use Rattle.numbers.proofs.FormLaws.{Form, one, two, four, short, invalid, form_at}
use Rattle.numbers.specs.declared.number.Number.{Number}

pub number_in : (s : List ℕ) (at : ℕ) {n : Number} → number_at s at ≡ Ok n → (at < n.next) × (n.next ≤ length s)
number_in s at {n} = go _ (form_at s at)
  where
    go : (o : Result Number Stop) → Form s at o → o ≡ Ok n → (at < n.next) × (n.next ≤ length s)
    go _ (one l) e = rw (← ok_is e) (omega arith, l)
    go _ (two l) e = rw (← ok_is e) (omega arith, l)
    go _ (four l) e = rw (← ok_is e) (omega arith, l)
    go _ (short l) e = absurd (ok_refused (sym e))
    go _ (invalid l) e = absurd (ok_refused (sym e))

pub number_is : (s : List ℕ) (at : ℕ) {n : Number} → number_at s at ≡ Ok n → n ≡ number_of at n.taken n.value
number_is s at {n} = go _ (form_at s at)
  where
    go : (o : Result Number Stop) → Form s at o → o ≡ Ok n → n ≡ number_of at n.taken n.value
    go _ (one l) e = rw (← ok_is e)
    go _ (two l) e = rw (← ok_is e)
    go _ (four l) e = rw (← ok_is e)
    go _ (short l) e = absurd (ok_refused (sym e))
    go _ (invalid l) e = absurd (ok_refused (sym e))
