-- The three parts stand one after another.
use Rattle.container_writer.proofs.WriteLaws.{directory_room, data_written}
use Rattle.container_writer.proofs.file.Contents.write_data.Goals as goal

pub write_numbers-requires-clause-room : goal.write_numbers-requires-clause-room
write_numbers-requires-clause-room c = search directory_room

pub returns : goal.returns
returns c = search data_written
