-- What was refused writes nothing; of an extent, the slices fit both stores, since they fit the shorter one.
-- Assumes what was judged for that.
use Rattle.extent.proofs.ExtentLaws.{handed_up}
use Rattle.mapping.proofs.MappingLaws.{write_refused, write_fine}
use Rattle.mapping.proofs.write_judged.Goals as goal

pub returns-in_err-x : goal.returns-in_err-x
returns-in_err-x c =
    rw (handed_up c.from_residual.ensures.1) (write_refused c.args.offsets.now c.args.sizes.now c.in_err-x.was)

pub returns : goal.returns
returns c = write_fine c.args.offsets.now c.args.sizes.now c.in_ok-x.was c.write_slices-slices.ensures
