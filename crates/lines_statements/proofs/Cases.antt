-- The worked programs, by computation.
use mathlib.Core.Path.{refl}
use Rattle.outcome.specs.Outcome.{and_next, and_then, require, raise}
use Rattle.numbers.specs.Number.{short_width, number_at}
use Rattle.annotations.specs.Signed.{signed_of}
use Rattle.annotations.specs.Annotation.{annotation_of}
use Rattle.annotations.specs.Step.{operands, step_at}
use Rattle.decode.specs.Decode.{on_step, run_from, rest, decode_all}
use Rattle.line_state.specs.Sum.{summed}
use Rattle.line_changes.specs.Change.{settled, closed, emission, lengthening, advancing_line, advancing_end, emission_on_line}
use Rattle.line_turn.specs.Turn.{turning}
use Rattle.lines.specs.Lines.{program, lines_from, running}
use Rattle.lines_statements.specs.Cases.{Cases}

pub cases : Cases
unfolding short_width number_at signed_of annotation_of operands step_at on_step run_from rest decode_all summed settled closed emission lengthening advancing_line advancing_end emission_on_line turning program lines_from running require raise and_then and_next
cases =
    record {
      nothing = refl;
      one = refl;
      closes = refl;
      four = refl;
      twelve = refl;
      state = refl;
      below_zero = refl;
      end_of_program = refl;
      early_four = refl;
      falling = refl;
      bad_first = refl;
      unknown_first = refl;
      cut_short = refl;
      highest = refl;
      too_high = refl;
      lowest = refl;
      too_low = refl;
      column_high = refl;
      column_low = refl;
    }
