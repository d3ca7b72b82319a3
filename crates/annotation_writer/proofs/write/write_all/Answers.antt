use Rattle.annotation_writer.proofs.WriteLaws.{write_cases}
use Rattle.annotation_writer.proofs.write.write_all.Goals as goal

pub loop-k-init : goal.loop-k-init
loop-k-init c = search write_cases

pub loop-k-preserved : goal.loop-k-preserved
loop-k-preserved c = search write_cases
