use Rattle.lines.proofs.PassLaws.{pass_cases}
use Rattle.lines.proofs.run.pass.Goals as goal

pub loop-a-init : goal.loop-a-init
loop-a-init c = search pass_cases

pub loop-a-smaller : goal.loop-a-smaller
loop-a-smaller c = search pass_cases

pub loop-a-preserved : goal.loop-a-preserved
loop-a-preserved c = search pass_cases

pub returns-in_default : goal.returns-in_default
returns-in_default c = search pass_cases

pub returns-in-End : goal.returns-in-End
returns-in-End c = search pass_cases

pub returns-in-Refused : goal.returns-in-Refused
returns-in-Refused c = search pass_cases
