-- Document 01's (P) cases, both halves in one record.
use Rattle.annotations_statements.specs.Cases as annotations
use Rattle.container_statements.specs.Cases as container

pub record Cases : Type 0 where
  pub annotations : annotations.Cases
  pub container : container.Cases
