-- `isolation::proved` meets its contract: each statement has its proof, cited here by name. Assumes nothing.
use Rattle.isolation.proofs.Isolation.{isolation}
use Rattle.isolation.proofs.Boundary.{boundary}
use Rattle.isolation.proofs.Corollaries.{corollaries}
use Rattle.isolation.proofs.NamedExactly.{named_exactly}
use Rattle.isolation.proofs.Stages.{stages}
use Rattle.isolation.proofs.InFile.{in_file}
use Rattle.isolation.proofs.Tight.{tight}
use Rattle.isolation.proofs.NotTooMuch.{not_too_much}
use Rattle.isolation.proofs.Cases.{cases}
use Rattle.isolation.proofs.proved.Goals as goal

pub returns-clause-isolation : goal.returns-clause-isolation
returns-clause-isolation c = isolation

pub returns-clause-boundary : goal.returns-clause-boundary
returns-clause-boundary c = boundary

pub returns-clause-corollaries : goal.returns-clause-corollaries
returns-clause-corollaries c = corollaries

pub returns-clause-named_exactly : goal.returns-clause-named_exactly
returns-clause-named_exactly c = named_exactly

pub returns-clause-stages : goal.returns-clause-stages
returns-clause-stages c = stages

pub returns-clause-in_file : goal.returns-clause-in_file
returns-clause-in_file c = in_file

pub returns-clause-tight : goal.returns-clause-tight
returns-clause-tight c = tight

pub returns-clause-not_too_much : goal.returns-clause-not_too_much
returns-clause-not_too_much c = not_too_much

pub returns-clause-cases : goal.returns-clause-cases
returns-clause-cases c = cases
