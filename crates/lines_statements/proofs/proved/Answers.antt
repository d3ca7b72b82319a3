-- Each statement by its proof, in the order in which they are promised.
-- Assumes nothing.
use Rattle.lines_statements.proofs.Told.{told, single_valued}
use Rattle.lines_statements.proofs.Runs.{run_exactly}
use Rattle.lines_statements.proofs.Records.{as_many, lengths}
use Rattle.lines_statements.proofs.Promise.{only_the_promise}
use Rattle.lines_statements.proofs.Bounded.{bounded, ends}
use Rattle.lines_statements.proofs.Cases.{cases}
use Rattle.lines_statements.proofs.proved.Goals as goal

pub returns-clause-told : goal.returns-clause-told
returns-clause-told c = told

pub returns-clause-single_valued : goal.returns-clause-single_valued
returns-clause-single_valued c = single_valued

pub returns-clause-run_exactly : goal.returns-clause-run_exactly
returns-clause-run_exactly c = run_exactly

pub returns-clause-as_many : goal.returns-clause-as_many
returns-clause-as_many c = as_many

pub returns-clause-lengths : goal.returns-clause-lengths
returns-clause-lengths c = lengths

pub returns-clause-only_the_promise : goal.returns-clause-only_the_promise
returns-clause-only_the_promise c = only_the_promise

pub returns-clause-bounded : goal.returns-clause-bounded
returns-clause-bounded c = bounded

pub returns-clause-ends : goal.returns-clause-ends
returns-clause-ends c = ends

pub returns-clause-cases : goal.returns-clause-cases
returns-clause-cases c = cases
