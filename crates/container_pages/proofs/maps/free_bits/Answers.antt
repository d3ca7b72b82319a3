-- The ones below pages_used, less those up to the last data page.
use Rattle.container_pages.proofs.MapLaws.{freed}
use Rattle.container_pages.proofs.maps.free_bits.Goals as goal

pub returns : goal.returns
returns c = search freed
