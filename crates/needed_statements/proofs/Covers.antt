-- What mapping reads is a byte of the header block, of an entry of the location list, or of a word of the directory
-- (`Stage` of crate isolation). A word does not cross a page, so each of its bytes is one of the part's, which its slices
-- name.
use mathlib.Core.Path.{◌≡◌, ◌∙◌}
use Prim.Native.Nat.{ℕ, ◌+◌, ◌-◌, ◌*◌, ◌/◌, ◌%◌, ◌≤◌, ◌<◌}
use native.Mathlib.Omega.{arith}
use native.Mathlib.Nat.{div-add-mod'}
use Rattle.std.specs.Prelude.{Ok}
use Rattle.parse_buffer.specs.Bytes.{File}
use Rattle.paged.specs.PageSize.{PageSize}
use Rattle.paged.specs.Pages.{through, page_of}
use Rattle.paged.proofs.SizeLaws.{word_in_page}
use Rattle.header.specs.declared.Header.{Header}
use Rattle.directory.proofs.DirectoryLaws.{reached_at}
use Rattle.container_layout.proofs.PlaceLaws.{divides}
use Rattle.needed.specs.Needed.{placed, pages_at, bytes_at, slices_at}
use Rattle.needed.specs.declared.Stage.{Stage}
use Rattle.needed.specs.declared.Stage.TheVariants.{LocationList, Directory}
use Rattle.isolation.specs.Listed.{InWord, Named, ListedMap}
use Rattle.isolation.proofs.Stages as isolation
use Rattle.needed_statements.specs.Prefix.{Holds, Read, Covers, LaidOut}
use Rattle.needed_statements.proofs.Parts.{placed_size, part_named}
use Rattle.needed_statements.proofs.Prefix.{prefix}

-- byte d of a word of a paged object
word_byte : (p : ℕ) (page : ℕ → ℕ) → PageSize p → (w d : ℕ) → d < 4 → through p page (4 * w + d) ≡ through p page (4 * w) + d
word_byte p page s w d l =
    let inside = word_in_page p w s in
    let whole = div-add-mod' (4 * w) p in
    let at = divides p (4 * w + d) (4 * w / p) (4 * w % p + d) (omega arith) (omega arith) in
    rw (at.0, at.1) (omega arith)

-- a word that is all in a part: each of its bytes is named
word_named : (f : File) (len : ℕ) (stage : Stage) {h : Header} → placed f len stage ≡ Ok h → (w i : ℕ) → 4 * w + 4 ≤ bytes_at stage h → InWord (through h.pagesize (page_of f h.pagesize (pages_at stage)) (4 * w)) i → Named (slices_at f stage h) i
word_named f len stage {h} e w i l m =
    let page : ℕ → ℕ = page_of f h.pagesize (pages_at stage) in
    let d : ℕ = i - through h.pagesize page (4 * w) in
    let small : d < 4 = omega (arith, m.0, m.1) in
    let here : through h.pagesize page (4 * w + d) ≡ i =
    word_byte h.pagesize page (placed_size f len stage e) w d small ∙ omega (arith, m.0) in
    rw here at (part_named f len stage e (4 * w + d) (omega arith))

stage_read : (f : File) (len i : ℕ) → isolation.Stage f len i → Read f len i
unfolding placed
stage_read f len i (isolation.Stage.opening l) = Read.block (isolation.in_block f len i l)
stage_read f len i (isolation.Stage.entry {j} {h} o _ l w) =
    Read.part LocationList o (word_named f len LocationList o j i (omega arith) w)
stage_read f len i (isolation.Stage.word {w = j} {h} d l w) =
    let at = (reached_at f len d).listed in
    Read.part Directory at (word_named f len Directory at j i (omega arith) w)

pub covers : (f : File) (len k : ℕ) → Covers f len k
covers f len k = record { is = λ i l. stage_read f len i (isolation.stage f len k i l) }

pub laid_out : (f g : File) (len len' : ℕ) → Holds f len → Holds g len' → LaidOut f g len len'
laid_out f g len len' long long' =
    record {
      of_stream_count = λ agree.
          (prefix f g len len' long long').stream_count_boundary (λ i l. agree i ((covers f len 0).is i (ListedMap.counting l)));
      map = λ agree k limit offsets sizes.
          (prefix f g len len' long long').map_boundary k limit offsets sizes (λ i l. agree i ((covers f len k).is i l));
    }
