-- The two ways out are the two cases of `extended`. A walk over i pages is not longer than they are, so the sums fit.
-- Assumes what holds of an extent, a stretch among its pages, and such a walk.
use Rattle.slices.proofs.WalkLaws.{longer, opened}
use Rattle.slices.proofs.extend.Goals as goal

pub returns-then-follows : goal.returns-then-follows
returns-then-follows c = search longer

pub returns-else-follows : goal.returns-else-follows
returns-else-follows c = rw c.from.ensures (search opened)
