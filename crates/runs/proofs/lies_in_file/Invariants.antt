-- The invariant: what is wanted of the pages read so far lies in the file. The measure is what is left of the entries.
-- Assumes a page size that passes, indices of 32 bits, entries that lie in the file, and n
-- pages for the bytes.
use mathlib.Core.Path.{◌≡◌}
use Prim.Native.Nat.{◌-◌}
use lib.ListN.{length}
use Rattle.std.specs.Prelude.{Ok}
use Rattle.parse_buffer.specs.Bytes.{byte_at}
use Rattle.paged.specs.Checks.{lies_in_file}
use Rattle.paged.specs.Pages.{page_of}
use Rattle.runs.specs.Inner.{Standing}
use Rattle.runs.proofs.lies_in_file.Given as goal

abbrev pub invariant-loop-s : goal.invariant-loop-s
invariant-loop-s l = (l.len ≡ length l.file) × Standing (byte_at l.file) l.size l.pages l.n l.s × (lies_in_file l.len l.size (page_of (byte_at l.file) l.size l.pages) l.bytes l.s.next ≡ Ok tt)

abbrev pub decreases-loop-s : goal.decreases-loop-s
decreases-loop-s l = l.n - l.s.next
