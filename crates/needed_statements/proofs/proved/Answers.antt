-- `needed_statements::proved` meets its contract: each statement has its proof, cited here by name. Assumes nothing.
use Rattle.needed_statements.proofs.Statements.{single_valued, refusals}
use Rattle.needed_statements.proofs.Parts.{part_exactly}
use Rattle.needed_statements.proofs.Isolation.{isolation}
use Rattle.needed_statements.proofs.Prefix.{prefix}
use Rattle.needed_statements.proofs.Covers.{covers, laid_out}
use Rattle.needed_statements.proofs.Cases.{cases}
use Rattle.needed_statements.proofs.proved.Goals as goal

pub returns-clause-single_valued : goal.returns-clause-single_valued
returns-clause-single_valued c = single_valued

pub returns-clause-part_exactly : goal.returns-clause-part_exactly
returns-clause-part_exactly c = part_exactly

pub returns-clause-refusals : goal.returns-clause-refusals
returns-clause-refusals c = refusals

pub returns-clause-isolation : goal.returns-clause-isolation
returns-clause-isolation c = isolation

pub returns-clause-prefix : goal.returns-clause-prefix
returns-clause-prefix c = prefix

pub returns-clause-covers : goal.returns-clause-covers
returns-clause-covers c = covers

pub returns-clause-laid_out : goal.returns-clause-laid_out
returns-clause-laid_out c = laid_out

pub returns-clause-cases : goal.returns-clause-cases
returns-clause-cases c = cases
