-- The header's entries stand in a row, and so do the words of one page of the other lists, up to its end.
-- Assumes a page size that passes, an index of 32 bits, and that one entry is asked for.
use Rattle.runs.proofs.RunLaws.{run_cases, run_some}
use Rattle.runs.proofs.run_of.Goals as goal

pub returns-in-Location-clause-running : goal.returns-in-Location-clause-running
returns-in-Location-clause-running c = search run_cases

pub returns-in-Directory-clause-running : goal.returns-in-Directory-clause-running
returns-in-Directory-clause-running c = search run_cases

pub returns-in-Directory-clause-words_nonzero : goal.returns-in-Directory-clause-words_nonzero
returns-in-Directory-clause-words_nonzero c = search run_some

pub returns-in-Stream-clause-running : goal.returns-in-Stream-clause-running
returns-in-Stream-clause-running c = search run_cases

pub returns-in-Stream-clause-words_nonzero : goal.returns-in-Stream-clause-words_nonzero
returns-in-Stream-clause-words_nonzero c = search run_some
