-- Each statement by its proof, in the order in which they are promised.
-- Assumes nothing.
use Rattle.shortest_statements.proofs.Statements.{taken, shortest_exactly}
use Rattle.shortest_statements.proofs.Rewriting.{rewriting}
use Rattle.shortest_statements.proofs.proved.Goals as goal

pub returns-clause-taken : goal.returns-clause-taken
returns-clause-taken c = taken

pub returns-clause-shortest_exactly : goal.returns-clause-shortest_exactly
returns-clause-shortest_exactly c = shortest_exactly

pub returns-clause-rewriting : goal.returns-clause-rewriting
returns-clause-rewriting c = rewriting
