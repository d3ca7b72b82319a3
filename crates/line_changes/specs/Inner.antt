-- What inner functions promise their callers.
use Rattle.std.specs.Prelude.{ℕ, Option, Ok}
use Rattle.outcome.specs.Outcome.{◌>>=◌}
use Rattle.line_state.specs.Sum.{OrBad}
use Rattle.line_state.specs.declared.state.Line.{Line}
use Rattle.line_state.specs.declared.state.State.{State}
use Rattle.line_changes.specs.Change.{closed}
use Rattle.line_changes.specs.declared.After.{After}

-- the last record closed at an offset, where the state is the next one
unfoldable pub closing : Option Line → State → ℕ → OrBad After
closing last s to = closed last to >>= λ done. Ok (record { state = s; closed = done })
