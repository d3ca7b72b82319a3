-- The forms are put one after another, each where the one before ended.
-- Assumes that each number has a form, and room for them.
use Rattle.annotation_records.specs.Operands.{shorts}
use Rattle.annotation_records.proofs.OperandLaws.{put_cases}
use Rattle.annotation_records.proofs.operands.Numbers.put.Goals as goal

pub returns-in-Some : goal.returns-in-Some
unfolding shorts
returns-in-Some c = rw c.in-Some.is (search put_cases)

pub returns-in-None : goal.returns-in-None
unfolding shorts
returns-in-None c = rw c.in-None.is (search put_cases)
