-- Request 2026-07, "Opcodes change the state as `BinaryAnnotation`'s comments say; 3, 11 and 12 emit": what one
-- annotation does to the state. A refusal here is 25.
use Rattle.std.specs.Prelude.{ℕ, ◌+◌, [], ◌∷◌, get_or, pos, nat_abs, Option, Some, None, Err}
use Rattle.annotations.specs.declared.annotation.Triple.{Triple}
use Rattle.line_state.specs.State.{with_code, with_base, with_file, with_count, with_kind, with_start, with_end}
use Rattle.line_state.specs.Sum.{OrBad}
use Rattle.line_state.specs.declared.state.Position.{Position}
use Rattle.line_state.specs.declared.state.Line.{Line}
use Rattle.line_state.specs.declared.state.State.{State}
use Rattle.line_changes.specs.Change.{after, emission, lengthening, advancing_line, advancing_end, emission_on_line}
use Rattle.line_changes.specs.declared.After.{After}

-- the opcodes in order, by their operands. (The decoder answers 1 to 13 and no other.)
unfoldable pub turning : State → Triple → OrBad After
turning s t =
    let p : Position = s.at in
    let last : Option Line = s.last in
    let v : ℕ = nat_abs t.first in
    let w : ℕ = nat_abs t.second in
    get_or
    (Err tt
    ∷ after (with_code p v) last None
    ∷ after (with_base p v) last None
    ∷ emission last (with_code p (p.code + v)) None
    ∷ lengthening p last v
    ∷ after (with_file p v) last None
    ∷ advancing_line p last t.first
    ∷ after (with_count p v) last None
    ∷ after (with_kind p v) last None
    ∷ after (with_start p v) last None
    ∷ advancing_end p last t.first
    ∷ emission_on_line last p v t.second
    ∷ emission last (with_code p (p.code + w)) (Some v)
    ∷ after (with_end p (pos v)) last None
    ∷ [])
    t.opcode (Err tt)
