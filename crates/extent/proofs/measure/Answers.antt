-- A stream that was found has its entries in the directory, and the bytes that are asked for are of its own.
-- Assumes nothing.
use borrow.Author.Rules.{rules}
use Rattle.extent.proofs.ExtentLaws.{measure_held, measure_fine}
use Rattle.extent.proofs.measure.Goals as goal

pub first_bytes-requires : goal.first_bytes-requires
first_bytes-requires c = search (measure_held, c.in_ok-x.ensures, rules)

pub returns : goal.returns
returns c = search (measure_fine, c.in_ok-x.ensures)
