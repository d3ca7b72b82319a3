-- Everything is judged before a store is written: `judge` has seen that the slices fit the shorter store.
-- Assumes nothing.
use Rattle.msf.proofs.MsfLaws.{map_judged, map_fine}
use Rattle.msf.proofs.to_slices.map.Goals as goal

pub write_judged-requires : goal.write_judged-requires
write_judged-requires c = search map_judged

pub returns : goal.returns
returns c = search map_fine
