-- The invariant: the walk is over the pages read so far. At the end its count is the number of the cut slices.
-- Assumes what holds of an extent, and that its entries lie in the file.
use Rattle.slices.proofs.StretchesLaws.{WalkedBy}
use Rattle.slices.proofs.count_slices.Given as goal

abbrev pub invariant-loop-s : goal.invariant-loop-s
invariant-loop-s l = WalkedBy l.file l.x l.s-iterator l.walk
