-- The (P) cases of both halves.
use Rattle.annotations_statements.proofs.Cases as annotations
use Rattle.container_statements.proofs.Cases as container
use Rattle.isolation.specs.Cases.{Cases}

pub cases : Cases
cases = record { annotations = annotations.cases; container = container.cases }
