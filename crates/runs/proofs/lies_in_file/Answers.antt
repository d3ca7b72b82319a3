use mathlib.Core.Path.{refl}
use borrow.Author.Rules.{rules}
use Rattle.runs.proofs.CheckLaws.{lies_cases}
use Rattle.runs.proofs.StretchLaws.{standing_none, stretch_small, stretch_less}
use Rattle.runs.proofs.lies_in_file.Goals as goal

pub loop-s-init : goal.loop-s-init
loop-s-init c = (refl, search standing_none, rw c.before_first-s.ensures (search lies_cases))

pub end_of-end-requires-clause-end_bound : goal.end_of-end-requires-clause-end_bound
end_of-end-requires-clause-end_bound c = search (stretch_small, rules)

pub returns-then-len-end : goal.returns-then-len-end
returns-then-len-end c = search lies_cases

pub loop-s-smaller : goal.loop-s-smaller
loop-s-smaller c = search stretch_less

pub loop-s-preserved : goal.loop-s-preserved
loop-s-preserved c = (search rules, search rules, search lies_cases)

pub returns : goal.returns
returns c = search lies_cases
