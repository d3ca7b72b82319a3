-- The cases, by computation.
use mathlib.Core.Path.{refl}
use Rattle.shortest.specs.Short.{short}
use Rattle.annotation_records.specs.Operands.{operand_of, operands_of, shorts}
use Rattle.annotation_writer.specs.Writing.{annotations_in, bytes_of}
use Rattle.annotation_writer_statements.specs.Cases.{Cases}

pub cases : Cases
unfolding short operand_of operands_of shorts annotations_in bytes_of
cases =
    record {
      empty = refl;
      one_byte = refl;
      two_bytes = refl;
      last_two = refl;
      four_bytes = refl;
      largest = refl;
      signed_zero = refl;
      negative = refl;
      packed = refl;
      two = refl;
    }
