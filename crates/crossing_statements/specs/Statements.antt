-- A statement about the exported functions beyond their promises. proofs/Statements.antt proves it.
use Rattle.std.specs.Prelude.{ℕ, ◌<◌}
use Rattle.paged.specs.Refusal as container
use Rattle.paged.specs.declared.refusal.Refusal as why_container
use Rattle.numbers.specs.Refusal as annotations
use Rattle.numbers.specs.declared.refusal.Refusal as why_annotations
use Rattle.annotation_writer.specs.Refusal as writer
use Rattle.annotation_writer.specs.declared.refusal.Refusal as why_writer
use Rattle.lines.specs.Refusal as lines
use Rattle.lines.specs.declared.refusal.Refusal as why_lines
use Rattle.container_layout.specs.Refusal as packer
use Rattle.container_layout.specs.declared.refusal.Refusal as why_packer
use Rattle.annotations.specs.Annotation.{triple_in}
use Rattle.annotations.specs.declared.annotation.BinaryAnnotation.{BinaryAnnotation}

-- not 0, which stands for success or, as an opcode, for the end
abbrev pub NotZero : ℕ → Type 0
NotZero n = 0 < n

-- below 10: the refusals of decoding and of a line program that have no place are 10 and 25
abbrev pub BelowNoRoom : ℕ → Type 0
BelowNoRoom n = n < 10

-- how a caller tells answers apart
pub record Apart : Type 0 where
  pub container_refusal : (why : why_container.Refusal) → NotZero (container.refusal_in why).number
  pub annotations_refusal : (why : why_annotations.Refusal) → NotZero (annotations.refusal_in why).number
  pub writer_refusal : (why : why_writer.Refusal) → NotZero (writer.refusal_in why).number
  pub lines_refusal : (why : why_lines.Refusal) → NotZero (lines.refusal_in why).number
  pub packer_refusal : (why : why_packer.Refusal) → NotZero (packer.refusal_in why).number
  pub opcode : (a : BinaryAnnotation) → NotZero (triple_in a).opcode
  pub placed : (why : why_annotations.Refusal) → BelowNoRoom (annotations.refusal_in why).number
