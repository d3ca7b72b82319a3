-- The invariant: the walk is over the pages read so far, and the store holds their slices. Assumes nothing.
use Rattle.std.proofs.Common.{◌≡◌}
use Rattle.parse_buffer.specs.Bytes.{byte_at}
use Rattle.slices.proofs.StretchesLaws.{WalkedBy}
use Rattle.slice_store.proofs.StepLaws.{store_at}
use Rattle.slice_store.proofs.map_into.Given as goal

abbrev pub invariant-loop-s : goal.invariant-loop-s
invariant-loop-s l = record {
  walk : WalkedBy l.file l.x l.s-iterator l.walk;
  store : l.store ≡ store_at (byte_at l.file) l.x l.initial.store l.s-iterator.last.next;
}
