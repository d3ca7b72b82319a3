use native.Mathlib.Omega.{arith}
use Rattle.stream.proofs.StreamLaws.{before_cases}
use Rattle.stream.proofs.pages_before.Goals as goal

pub loop-i-init : goal.loop-i-init
loop-i-init c = (omega arith, search before_cases)

pub loop-i-preserved : goal.loop-i-preserved
loop-i-preserved c = (omega arith, search before_cases)

pub returns : goal.returns
returns c = search before_cases
