-- The invariant: what the pages read so far hold stands in the store, and the rest is as it was (`CopyLaws`).
-- Assumes what holds of an extent, that its entries and its bytes lie in the file, and that they fit.
use Rattle.slices.proofs.StretchesLaws.{StretchesOf}
use Rattle.msf.proofs.CopyLaws.{CopiedSoFar}
use Rattle.msf.proofs.to_bytes.copy_pages.Given as goal

abbrev pub invariant-loop-s : goal.invariant-loop-s
invariant-loop-s l = record {
  of : StretchesOf l.file l.x l.s-iterator;
  copied : CopiedSoFar l.file l.x l.initial.out l.out l.s-iterator.last.next;
}
