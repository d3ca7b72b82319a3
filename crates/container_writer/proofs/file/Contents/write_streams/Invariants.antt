-- The invariant: so many streams are written.
use Rattle.container_writer.proofs.FileLaws.{StreamsSoFar}
use Rattle.container_writer.proofs.file.Contents.write_streams.Given as goal

abbrev pub invariant-loop-size : goal.invariant-loop-size
invariant-loop-size l =
    StreamsSoFar l.self.planned.layout l.self.planned.sizes.now l.self.bytes.now l.initial.out l.out l.size-index l.at l.r
