-- The first pass counts into a store without room, so nothing is written before the room is judged, in the order of
-- `running`. Assumes nothing.
use native.Mathlib.Omega.{arith}
use borrow.Author.Rules.{rules}
use Rattle.lines.proofs.RanLaws.{run_refused, run_no_room, run_counted}
use Rattle.lines.proofs.run.run_lines.Goals as goal

pub returns-in_err-n : goal.returns-in_err-n
returns-in_err-n c = run_refused _ _ c.in_err-n.ensures (search rules)

pub returns-then-store-n : goal.returns-then-store-n
returns-then-store-n c = run_no_room _ _ c.in_ok-n.ensures c.if-store-n.true c.saturating_mul.ensures

pub returns : goal.returns
returns c = run_counted _ _ c.in_ok-n.ensures (omega arith) c.pass-2.ensures
