-- What the writing of records promises its callers.
use Rattle.std.specs.Prelude.{◌≡◌, List, ℕ, ◌+◌, ◌*◌, ◌≤◌, length, ℤ}
use Rattle.std.proofs.lemmas.List.Edits.{sets}
use Rattle.line_state.specs.declared.state.Line.{Line}
use Rattle.line_entries.specs.Entries.{entries_each, entries}

-- records put after n others: how many there are then, and the store, if it has room for them
pub record Appending (lines : List Line) (before : List ℤ) (n : ℕ) (after : List ℤ) (r : ℕ) : Type 0 where
  pub many : r ≡ n + length lines
  pub same : length after ≡ length before
  pub store : entries_each * (n + length lines) ≤ length before → after ≡ sets before (entries_each * n) (entries lines)
