use Rattle.container_parts.proofs.StreamLaws.{stream_in_run, stream_room, stream_more}
use Rattle.container_parts.proofs.write_stream.Goals as goal

pub write_run-r-requires-clause-in_run : goal.write_run-r-requires-clause-in_run
write_run-r-requires-clause-in_run c = search stream_in_run

pub write_run-r-requires-clause-room : goal.write_run-r-requires-clause-room
write_run-r-requires-clause-room c = search stream_room

pub loop-i-preserved : goal.loop-i-preserved
loop-i-preserved c = search stream_more
