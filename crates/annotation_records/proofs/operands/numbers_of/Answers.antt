-- A record that can be written has small numbers, so each is read back from its bits unchanged.
-- Assumes that the record can be written.
use Rattle.annotation_records.proofs.OperandLaws.{numbers_cases}
use Rattle.annotation_records.proofs.operands.numbers_of.Goals as goal

pub first_operand-requires : goal.first_operand-requires
first_operand-requires c = search numbers_cases

pub returns : goal.returns
returns c = search numbers_cases
