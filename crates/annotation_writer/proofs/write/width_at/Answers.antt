-- A good record has the width of its numbers.
-- Assumes that the record is there.
use Rattle.annotation_writer.proofs.WriteLaws.{width_cases}
use Rattle.annotation_writer.proofs.write.width_at.Goals as goal

pub returns-then-is_writable : goal.returns-then-is_writable
returns-then-is_writable c = search width_cases
