-- A stage's part is a paged object whose page size passed, so what holds of the slices of any such pages holds of its own:
-- laid end to end they are its bytes (`EndToEndLaws`), and they name these (`NamedExactly`).
use mathlib.Core.Path.{◌≡◌, sym, ◌∙◌}
use Prim.Native.Nat.{ℕ, ◌+◌, ◌-◌, ◌*◌, ◌≤◌, ◌<◌}
use native.Mathlib.Omega.{arith}
use native.Mathlib.Nat.{zero-add}
use lib.Dec.{leb}
use borrow.Author.Tests.{le-leb}
use Rattle.std.specs.Prelude.{Ok}
use Rattle.outcome.proofs.EachLaws.{each_none, each_run}
use Rattle.parse_buffer.specs.Bytes.{File}
use Rattle.paged.specs.Refusal.{refusal_in}
use Rattle.paged.specs.PageSize.{PageSize, need}
use Rattle.paged.specs.Pages.{through, page_of}
use Rattle.paged.specs.Checks.{wanted}
use Rattle.paged.proofs.SizeLaws.{need_covers, need_below}
use Rattle.paged.proofs.LiesLaws.{lies_byte}
use Rattle.paged.specs.declared.refusal.Refusal.TheVariants.{FileEnds}
use Rattle.header.specs.declared.Header.{Header}
use Rattle.header.proofs.OpenLaws.{is_located}
use Rattle.directory.proofs.DirectoryLaws.{listed_at}
use Rattle.slices.specs.Slices.{Full, total, place_of}
use Rattle.slices.proofs.EndToEndLaws.{slices_full, slices_total, slices_place}
use Rattle.container_layout.proofs.PlaceLaws.{divides}
use Rattle.needed.specs.Needed.{placed, pages_at, bytes_at, slices_at}
use Rattle.needed.specs.declared.Stage.{Stage}
use Rattle.needed.specs.declared.Stage.TheVariants.{LocationList, Directory}
use Rattle.isolation.specs.Listed.{Named}
use Rattle.isolation.proofs.NamedExactly.{named, byte_of}
use Rattle.needed_statements.specs.Statements.{PartByte, PartExactly, part_lies}

pub placed_size : (f : File) (len : ℕ) (stage : Stage) {h : Header} → placed f len stage ≡ Ok h → PageSize h.pagesize
unfolding placed
placed_size f len LocationList e = (is_located f len e).size
placed_size f len Directory e = (listed_at f len e).size

module _ (f : File) (len : ℕ) (stage : Stage) {h : Header} (e : placed f len stage ≡ Ok h) where
  abbrev page : ℕ → ℕ
  page = page_of f h.pagesize (pages_at stage)

  abbrev n : ℕ
  n = bytes_at stage h

  some : 0 < h.pagesize
  some = let l = (placed_size f len stage e).least in omega arith

  covered : n ≤ need h.pagesize n * h.pagesize
  covered = need_covers h.pagesize n some

  part_full : Full (slices_at f stage h)
  part_full = slices_full h.pagesize page some (need h.pagesize n) n covered

  part_total : total (slices_at f stage h) ≡ n
  part_total = slices_total h.pagesize page some (need h.pagesize n) n covered

  part_place : (i : ℕ) → i < n → place_of (slices_at f stage h) i ≡ through h.pagesize page i
  part_place = slices_place h.pagesize page some (need h.pagesize n) n covered

  pub part_named : (i : ℕ) → i < n → Named (slices_at f stage h) (through h.pagesize page i)
  part_named i l = rw (← part_place i l) (named (slices_at f stage h) i (rw part_total l))

  pub part_byte : (i : ℕ) → Named (slices_at f stage h) i → PartByte f stage h i
  part_byte i m =
      let b = byte_of (slices_at f stage h) i m in
      let l : b.index < n = rw part_total at b.below in
      record { index = b.index; below = omega (arith, l); at = sym b.at ∙ part_place b.index l }

  -- ---- it lies in the file exactly if all that is named does
  pub lies_named : part_lies f len stage h ≡ Ok tt → (i : ℕ) → Named (slices_at f stage h) i → i < len
  lies_named lies i m =
      let b = part_byte i m in
      rw b.at (lies_byte len h.pagesize page n some lies b.index b.below)

  -- the last byte that is wanted of page j
  last : (j : ℕ) → j < need h.pagesize n → ((i : ℕ) → Named (slices_at f stage h) i → i < len) → page j * h.pagesize + wanted h.pagesize n j ≤ len
  last j l inside =
      let below = need_below h.pagesize n some j l in
      let some_size = some in
      let r : ℕ = wanted h.pagesize n j - 1 in
      let at = divides h.pagesize (j * h.pagesize + r) j r (omega arith) (omega arith) in
      let m = inside _ (part_named (j * h.pagesize + r) (omega arith)) in
      let here : through h.pagesize page (j * h.pagesize + r) ≡ page j * h.pagesize + r = rw (at.0, at.1) in
      omega (arith, rw here at m)

  pub named_lies : ((i : ℕ) → Named (slices_at f stage h) i → i < len) → part_lies f len stage h ≡ Ok tt
  named_lies inside =
      rw zero-add at
      (each_run (λ j. leb (page j * h.pagesize + wanted h.pagesize n j) len) (λ _. refusal_in FileEnds) 0
      (need h.pagesize n) (each_none _ _) (λ j l. rw zero-add (le-leb _ _ (last j l inside))))

pub part_exactly : (f : File) (len : ℕ) (stage : Stage) → PartExactly f len stage
part_exactly f len stage =
    record {
      is = λ e i. (part_byte f len stage e i, λ b. rw b.at (part_named f len stage e b.index (omega (arith, b.below))));
      full = λ e. part_full f len stage e;
      length = λ e. part_total f len stage e;
    }
