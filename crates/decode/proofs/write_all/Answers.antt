use Rattle.decode.proofs.DecodeLaws.{write_cases}
use Rattle.decode.proofs.write_all.Goals as goal

pub loop-a-init : goal.loop-a-init
loop-a-init c = search write_cases

pub put-requires : goal.put-requires
put-requires c = search write_cases

pub loop-a-smaller : goal.loop-a-smaller
loop-a-smaller c = search write_cases

pub loop-a-preserved : goal.loop-a-preserved
loop-a-preserved c = search write_cases

pub returns : goal.returns
returns c = search (write_cases, c.in_default.not-Annotation)
