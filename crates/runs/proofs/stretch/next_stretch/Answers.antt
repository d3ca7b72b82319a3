-- The first words of a run are the next entries (`stretching`).
-- Assumes a page size that passes, indices of 32 bits, entries that lie in the file, where the reading stands, and an entry
-- that is left.
use borrow.Author.Rules.{rules}
use Rattle.runs.proofs.StretchLaws.{stretching}
use Rattle.runs.proofs.stretch.next_stretch.Goals as goal

pub returns : goal.returns
returns c = search (stretching, rules)
