-- The promise of `decode_all`: the whole answer, as document 01 numbers it, and the lent store at exit.
use Rattle.std.specs.Prelude.{◌≡◌, List, ℕ, length, ℤ, Result}
use Rattle.outcome.specs.Store.{written}
use Rattle.decode.specs.Decode.{decoded_entries, decoding}
use Rattle.decode.specs.Refusal.{told}
use Rattle.decode.specs.declared.refusal.Refusal.{Refusal}

pub record Decoding (s : List ℕ) (store : List ℤ) (r : Result ℕ Refusal) (store' : List ℤ) : Type 0 where
  pub answer : told r ≡ decoding s (length store)
  pub after : store' ≡ written (decoding s (length store)) (λ _. decoded_entries s) store
