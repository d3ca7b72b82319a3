-- Everything is judged before a store is written: `fit` has seen that the part's slices fit the shorter store.
-- Assumes nothing.
use Rattle.needed.proofs.NeededLaws.{needed_judged, needed_fine}
use Rattle.needed.proofs.needed_to_map.Goals as goal

pub write_judged-requires : goal.write_judged-requires
write_judged-requires c = search needed_judged

pub returns : goal.returns
returns c = search needed_fine
