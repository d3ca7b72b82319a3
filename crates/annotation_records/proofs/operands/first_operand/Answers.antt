-- What 11 can carry is small, so no sum is cut.
-- Assumes that the opcode can carry the numbers.
use Rattle.annotation_records.proofs.OperandLaws.{first_cases}
use Rattle.annotation_records.proofs.operands.first_operand.Goals as goal

pub overflow_mul-result : goal.overflow_mul-result
overflow_mul-result c = search first_cases

pub overflow_add-result : goal.overflow_add-result
overflow_add-result c = search first_cases
