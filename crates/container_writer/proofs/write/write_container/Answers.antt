-- Each return is a line of `writing`.
use Rattle.std.proofs.Common.{rules}
use Rattle.container_writer.proofs.WriteLaws.{plan_laid, plan_bounds, plan_given, write_refused, write_no_room, write_fine}
use Rattle.container_writer.proofs.write.write_container.Goals as goal

pub returns-in_err-layout : goal.returns-in_err-layout
returns-in_err-layout c = write_refused _ _ c.plan.ensures c.in_err-layout.was c.from_residual.ensures.1

pub returns-then-out-needed : goal.returns-then-out-needed
returns-then-out-needed c = write_no_room _ _ c.plan.ensures c.in_ok-layout.was c.if-out-needed.true

pub invariant_of-planned : goal.invariant_of-planned
invariant_of-planned c = record { laid = plan_laid c.plan.ensures c.in_ok-layout.was; bounds = plan_bounds c.plan.ensures c.in_ok-layout.was }

pub invariant_of-write_file : goal.invariant_of-write_file
invariant_of-write_file c = record { given = plan_given c.plan.ensures (search rules) c.in_ok-layout.was }

pub returns : goal.returns
returns c = write_fine _ _ c.plan.ensures c.in_ok-layout.was c.if-out-needed.false c.write_file.ensures
