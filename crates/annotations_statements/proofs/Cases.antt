-- The (P) cases on annotations, by computation.
use mathlib.Core.Path.{refl}
use Rattle.outcome.specs.Outcome.{and_next, and_then, require}
use Rattle.numbers.specs.Number.{short_width, number_at}
use Rattle.annotations.specs.Signed.{signed_of}
use Rattle.annotations.specs.Annotation.{annotation_of}
use Rattle.annotations.specs.Step.{operands, step_at}
use Rattle.annotations_statements.specs.Cases.{Cases}

pub cases : Cases
unfolding short_width number_at signed_of annotation_of operands step_at require and_then and_next
cases =
    record {
      one_byte = refl;
      long_form = refl;
      two_bytes = refl;
      four_bytes = refl;
      largest = refl;
      invalid = refl;
      short = refl;
      both = refl;
      negative = refl;
      odd_zero_read = refl;
      long_opcode = refl;
      long_first = refl;
      long_second = refl;
      unknown = refl;
      closed = refl;
    }
