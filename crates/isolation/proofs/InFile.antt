-- A word of the location list or of the directory is listed only if that lies in the file, and a stream's bytes only if
-- they do; the location entries are in the header block, which a file that passes step 1 has.
use Rattle.std.specs.Prelude.{Option}
use mathlib.Core.Logic.{◌⊎◌, inl, inr}
use Prim.Native.Nat.{ℕ, ◌*◌, ◌<◌}
use native.Mathlib.Omega.{arith}
use Rattle.parse_buffer.specs.Bytes.{File}
use Rattle.paged.specs.Pages.{location, directory_page}
use Rattle.header.specs.Header.{directory_pages}
use Rattle.header.proofs.HeaderLaws.{headed_long}
use Rattle.header.proofs.OpenLaws.{is_located}
use Rattle.stream.specs.Stream.{own_page}
use Rattle.paged.proofs.LiesLaws.{lies_byte, lies_word}
use Rattle.extent.proofs.ExtentLaws.{readable_at}
use Rattle.container_statements.proofs.Statements.{large}
use Rattle.isolation.specs.Listed.{ListedOpen, ListedBytes}
use Rattle.isolation.specs.InFile.{InFile}
use Rattle.directory.proofs.DirectoryLaws.{reached_at}
use Rattle.isolation.proofs.NamedExactly.{stream_byte_lem}
use Rattle.isolation.proofs.Stages.{Stage, stage}

module _ (f : File) (len i : ℕ) where
  opened_within : ListedOpen f len i → (i < len) ⊎ (i < 48)
  opened_within (ListedOpen.start l) = inr (omega arith)
  opened_within (ListedOpen.fields l m) = inr (omega arith)
  opened_within (ListedOpen.small e l m) = inr (omega arith)
  opened_within (ListedOpen.locations o l w) = let long = headed_long f len o in inl (omega (arith, w.1))

  staged_in : Stage f len i → (i < len) ⊎ (i < 48)
  staged_in (Stage.opening l) = opened_within l
  staged_in (Stage.entry {j} {h} o lies l w) =
      let s = (is_located f len o).size in
      let least = s.least in
      let in_file = lies_word len h.pagesize (location f) (4 * directory_pages h) (omega arith) lies s j (omega arith) in
      inl (omega (arith, w.1))
  staged_in (Stage.word {w = j} {h} d l w) =
      let at = reached_at f len d in
      let least = at.size.least in
      let in_file = lies_word len h.pagesize (directory_page f h.pagesize) h.directory (omega arith) at.held at.size j (omega arith) in
      inl (omega (arith, w.1))

pub in_file : (f : File) (len k : ℕ) (limit : Option ℕ) → InFile f len k limit
in_file f len k limit = record { is = is }
  where
    is : (i : ℕ) → ListedBytes f len k limit i → (i < len) ⊎ (i < 48)
    is i (ListedBytes.mapping l) = staged_in f len i (stage f len k i l)
    is i (ListedBytes.bytes {x} r n) =
        let read = readable_at f len k limit r in
        let b = stream_byte_lem f len k limit read.asked i n in
        let lies = lies_byte len x.found.header.pagesize (own_page f x.found) x.length (large f len k limit read.asked) read.lies b.index b.below in
        inl (omega (arith, b.at))
