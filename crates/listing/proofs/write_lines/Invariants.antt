-- The invariant: the lines from the first up to this one stand in the buffer. A line that does not fit ends the loop, and
-- no more lines fit then, since each further line only adds bytes. The measure is the lines that are left.
use mathlib.Core.Path.{◌≡◌}
use Prim.Native.Nat.{◌+◌, ◌-◌}
use lib.ListN.{length}
use Rattle.parse_buffer.specs.Bytes.{byte_at}
use Rattle.listing_line.specs.Line.{line_at}
use Rattle.listing.proofs.ListLaws.{SoFar}
use Rattle.listing.proofs.write_lines.Given as goal

abbrev pub invariant-loop-cursor : goal.invariant-loop-cursor
invariant-loop-cursor l = record {
  same_file : l.cursor.file ≡ l.initial.cursor.file;
  same_whole : l.cursor.whole ≡ l.initial.cursor.whole;
  room : length l.text ≡ 80;
  so_far : SoFar (line_at (byte_at l.initial.cursor.file.now) (length l.initial.cursor.file.now) l.initial.cursor.whole.count) l.initial.cursor.line l.cursor.line l.at l.initial.out l.out;
}

abbrev pub decreases-loop-cursor : goal.decreases-loop-cursor
decreases-loop-cursor l = 1 + l.cursor.whole.count - l.cursor.line
