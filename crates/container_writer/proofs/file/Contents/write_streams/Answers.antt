use Rattle.container_writer.proofs.FileLaws.{streams_part, streams_fits, streams_room, streams_more}
use Rattle.container_writer.proofs.file.Contents.write_streams.Goals as goal

pub overflow_add-at : goal.overflow_add-at
overflow_add-at c = search streams_fits

pub slice_bounds-write_stream-end : goal.slice_bounds-write_stream-end
slice_bounds-write_stream-end c = search streams_part

pub write_stream-r-requires-clause-room : goal.write_stream-r-requires-clause-room
write_stream-r-requires-clause-room c = search streams_room

pub loop-size-preserved : goal.loop-size-preserved
loop-size-preserved c = search streams_more
