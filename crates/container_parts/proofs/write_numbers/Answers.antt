use Rattle.container_parts.proofs.PartLaws.{page_begins, page_fits_lem, pages_more}
use Rattle.container_parts.proofs.write_numbers.Goals as goal

pub begin_page-at-requires-clause-room : goal.begin_page-at-requires-clause-room
begin_page-at-requires-clause-room g c = search page_begins

pub put_numbers-requires-clause-room : goal.put_numbers-requires-clause-room
put_numbers-requires-clause-room g c = search page_fits_lem

pub loop-j-preserved : goal.loop-j-preserved
loop-j-preserved g c = search pages_more
