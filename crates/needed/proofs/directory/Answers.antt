-- `list` has read the directory's page numbers, so they lie in the file; there are fewer than 2^32. Assumes nothing.
use borrow.Author.Rules.{rules}
use Rattle.needed.proofs.NeededLaws.{directory_part}
use Rattle.needed.proofs.directory.Goals as goal

pub returns : goal.returns
returns c = directory_part c.in_ok-h.ensures.answer (search rules) c.pages_needed_to_store-pages.ensures
