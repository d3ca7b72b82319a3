-- The invariant: the walk is over the pages read so far, and the stores hold their slices. Putting the last slice in its place
-- gives the slices of one stretch more (`WalkLaws`). Assumes what `count_slices` does, and that the slices fit both stores.
use Rattle.parse_buffer.specs.Bytes.{byte_at}
use Rattle.slices.proofs.StretchesLaws.{WalkedBy}
use Rattle.slices.proofs.WalkLaws.{Written}
use Rattle.slices.proofs.write_slices.Given as goal

abbrev pub invariant-loop-s : goal.invariant-loop-s
invariant-loop-s l = record {
  walk : WalkedBy l.file l.x l.s-iterator l.walk;
  written : Written (byte_at l.file) l.x l.s-iterator.last.next l.initial.offsets l.initial.sizes l.offsets l.sizes;
}
