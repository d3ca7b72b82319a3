use Rattle.decode.proofs.DecodeLaws.{count_cases}
use Rattle.decode.proofs.count_all.Goals as goal

pub loop-a-init : goal.loop-a-init
loop-a-init c = search count_cases

pub loop-a-smaller : goal.loop-a-smaller
loop-a-smaller c = search count_cases

pub loop-a-preserved : goal.loop-a-preserved
loop-a-preserved c = search count_cases

pub returns-in-End : goal.returns-in-End
returns-in-End c = search count_cases

pub returns-in-Refused : goal.returns-in-Refused
returns-in-Refused c = search count_cases
