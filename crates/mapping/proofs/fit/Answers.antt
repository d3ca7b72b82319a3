-- What was refused stays refused. There are no more slices than pages (`fit_few`), and otherwise they are counted.
-- Assumes that what was measured is sound.
use Rattle.extent.proofs.ExtentLaws.{handed_up}
use Rattle.mapping.proofs.MappingLaws.{fit_refused, fit_counted, fit_few}
use Rattle.mapping.proofs.fit.Goals as goal

pub returns-in_err-x : goal.returns-in_err-x
returns-in_err-x c = rw (handed_up c.from_residual.ensures.1) (fit_refused c.args.room c.in_err-x.was)

pub returns-then-x-room : goal.returns-then-x-room
returns-then-x-room c = fit_few c.args.room c.requires c.in_ok-x.was c.if-x-room.true

pub returns : goal.returns
returns c =
    fit_counted c.args.room c.requires c.in_ok-x.was c.count_slices-needed.ensures c.if-room-needed.false
