-- The magic, and the header's numbers up to the page's end, since a page has whole numbers.
use Rattle.container_writer.proofs.FileLaws.{header_written}
use Rattle.container_writer.proofs.file.Contents.write_header.Goals as goal

pub returns : goal.returns
returns c = search header_written
