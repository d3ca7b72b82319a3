use native.Mathlib.Omega.{arith}
use Rattle.runs.proofs.CheckLaws.{check_cases}
use Rattle.runs.proofs.check_pages.Goals as goal

pub loop-i-init : goal.loop-i-init
loop-i-init c = (omega arith, search check_cases)

pub returns-then-good-run : goal.returns-then-good-run
returns-then-good-run c = search check_cases

pub loop-i-preserved : goal.loop-i-preserved
loop-i-preserved c = (omega arith, search check_cases)

pub returns : goal.returns
returns c = search check_cases
