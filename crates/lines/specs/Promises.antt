-- The promise of `run_lines`: the whole answer, as document 01 and request 2026-07 number it, and the lent store at
-- exit.
use Rattle.std.specs.Prelude.{◌≡◌, List, ℕ, length, ℤ, Result}
use Rattle.outcome.specs.Store.{written}
use Rattle.line_entries.specs.Entries.{entries}
use Rattle.lines.specs.Lines.{running, how_many}
use Rattle.lines.specs.Refusal.{told}
use Rattle.lines.specs.declared.refusal.Refusal.{Refusal}

pub record Running (s : List ℕ) (store : List ℤ) (r : Result ℕ Refusal) (store' : List ℤ) : Type 0 where
  pub answer : told r ≡ how_many (running s (length store))
  pub after : store' ≡ written (running s (length store)) entries store
