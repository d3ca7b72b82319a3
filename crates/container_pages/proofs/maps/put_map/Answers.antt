use Rattle.container_pages.proofs.MapLaws.{map_more}
use Rattle.container_pages.proofs.maps.put_map.Goals as goal

pub loop-x-preserved : goal.loop-x-preserved
loop-x-preserved c = search map_more
