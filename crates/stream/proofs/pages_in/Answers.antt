-- One size more.
-- Assumes a page size that passes, at most 2^32 sizes, and that they lie in the file.
use borrow.Author.Rules.{rules}
use Rattle.stream.proofs.StreamLaws.{within_cases}
use Rattle.stream.proofs.pages_in.Goals as goal

pub loop-j-preserved : goal.loop-j-preserved
loop-j-preserved c = search (within_cases, rules)
