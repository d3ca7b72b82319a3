-- Ends: each turn takes a run's header from the front.
use Rattle.std.proofs.Common.{length}
use Rattle.replay_msf.proofs.files.apply.Given as goal

abbrev pub decreases-loop-rest : goal.decreases-loop-rest
decreases-loop-rest l = length l.rest
