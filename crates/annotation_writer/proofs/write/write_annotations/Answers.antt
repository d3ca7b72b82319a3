-- The list is measured, and the room judged, before anything is written, so a refusal leaves the store.
-- Assumes nothing.
use native.Mathlib.Omega.{arith}
use Rattle.outcome.specs.Outcome.{raise}
use Rattle.annotation_writer.proofs.WriteLaws.{listed_room}
use Rattle.annotation_writer.proofs.write.write_annotations.Goals as goal

pub write_all-requires-clause-room : goal.write_all-requires-clause-room
unfolding raise
write_all-requires-clause-room c = listed_room _ c.in_ok-needed.ensures _ (omega arith)
