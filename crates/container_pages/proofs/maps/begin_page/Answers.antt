-- No map pages lie between.
use Rattle.container_pages.proofs.MapLaws.{begin_none}
use Rattle.container_pages.proofs.maps.begin_page.Goals as goal

pub returns-else-r-run-eq0 : goal.returns-else-r-run-eq0
returns-else-r-run-eq0 c = begin_none c.requires.bounds _ _ (rw c.data_page.ensures) c.if-r-run-eq0.false
