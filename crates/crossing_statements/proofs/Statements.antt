-- How answers are told apart, by each case.
use native.Mathlib.Omega.{arith}
use Rattle.paged.specs.Refusal as container
use Rattle.paged.specs.declared.refusal.Refusal as why_container
use Rattle.numbers.specs.Refusal as annotations
use Rattle.numbers.specs.declared.refusal.Refusal as why_annotations
use Rattle.annotation_writer.specs.Refusal as writer
use Rattle.annotation_writer.specs.declared.refusal.Refusal as why_writer
use Rattle.lines.specs.Refusal as lines
use Rattle.lines.specs.declared.refusal.Refusal as why_lines
use Rattle.container_layout.specs.Refusal as packer
use Rattle.container_layout.specs.declared.refusal.Refusal as why_packer
use Rattle.annotations.specs.Annotation.{triple_in}
use Rattle.annotations.specs.declared.annotation.BinaryAnnotation.{BinaryAnnotation}
use Rattle.crossing_statements.specs.Statements.{NotZero, BelowNoRoom, Apart}

container_apart : (why : why_container.Refusal) → NotZero (container.refusal_in why).number
container_apart why = grind arith

annotations_apart : (why : why_annotations.Refusal) → NotZero (annotations.refusal_in why).number × BelowNoRoom (annotations.refusal_in why).number
annotations_apart why = (grind arith, grind arith)

writer_apart : (why : why_writer.Refusal) → NotZero (writer.refusal_in why).number
writer_apart why = grind arith

lines_apart : (why : why_lines.Refusal) → NotZero (lines.refusal_in why).number
lines_apart why = grind arith

packer_apart : (why : why_packer.Refusal) → NotZero (packer.refusal_in why).number
packer_apart why = grind arith

opcode_apart : (a : BinaryAnnotation) → NotZero (triple_in a).opcode
opcode_apart a = grind arith

pub apart : Apart
apart =
    record {
      container_refusal = container_apart;
      annotations_refusal = λ why. (annotations_apart why).0;
      writer_refusal = writer_apart;
      lines_refusal = lines_apart;
      packer_refusal = packer_apart;
      opcode = opcode_apart;
      placed = λ why. (annotations_apart why).1;
    }
