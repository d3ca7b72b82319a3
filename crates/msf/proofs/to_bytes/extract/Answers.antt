-- Everything is judged before the store is written: `readable` has checked that the bytes lie in the file, and the test
-- that they fit. Assumes nothing.
use Rattle.extent.proofs.ExtentLaws.{handed_up}
use Rattle.msf.proofs.MsfLaws.{extract_cases, extract_none}
use Rattle.msf.proofs.to_bytes.extract.Goals as goal

pub returns-in_err-x : goal.returns-in_err-x
returns-in_err-x c = rw (handed_up c.from_residual.ensures.1) (extract_none c.args.out.now c.in_err-x.ensures)

pub returns-then-out-x : goal.returns-then-out-x
returns-then-out-x c = search (extract_cases, c.in_ok-x.ensures)

pub returns : goal.returns
returns c = search (extract_cases, c.in_ok-x.ensures)
