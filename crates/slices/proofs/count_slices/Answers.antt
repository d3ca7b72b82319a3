use Rattle.slices.proofs.StretchesLaws.{by_start, by_near, by_more, by_all}
use Rattle.slices.proofs.count_slices.Goals as goal

pub loop-s-init : goal.loop-s-init
loop-s-init c =
    rw c.into_iter-s-iterator.ensures.into_iter_gives
    (by_start c.args.file c.args.x c.new-s-items.ensures.file c.new-s-items.ensures.extent c.new-s-items.ensures.last c.begin-walk.ensures)

pub extend-walk-requires-clause-near : goal.extend-walk-requires-clause-near
extend-walk-requires-clause-near c = by_near c.loop-s.invariant c.in-Some.ensures.steps

pub loop-s-preserved : goal.loop-s-preserved
loop-s-preserved c = by_more c.loop-s.invariant c.in-Some.ensures.steps c.extend-walk.ensures

pub returns : goal.returns
returns c = by_all c.loop-s.invariant c.in-None.ensures.steps c.requires.extends
