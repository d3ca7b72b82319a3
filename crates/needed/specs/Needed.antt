-- The parts of the file that mapping reads before it comes to the stream: the location list (document 01, step 4) and
-- the directory (step 5). Each is a paged object, and its slices are made by the rule for a stream's.
use Rattle.std.specs.Prelude.{ℕ, ◌*◌, List, leb, length, Result, Ok}
use Rattle.outcome.specs.Outcome.{◌>>=◌, ◌>>◌, require}
use Rattle.outcome.specs.Refusal as paper
use Rattle.parse_buffer.specs.Bytes.{File}
use Rattle.paged.specs.Refusal.{refusal_in}
use Rattle.paged.specs.PageSize.{need}
use Rattle.paged.specs.Pages.{page_of}
use Rattle.paged.specs.declared.refusal.Refusal.TheVariants.{NoRoom}
use Rattle.paged.specs.declared.pages.Pages.{Pages}
use Rattle.paged.specs.declared.pages.Pages.TheVariants as pages
use Rattle.header.specs.Header.{directory_pages, located}
use Rattle.header.specs.declared.Header.{Header}
use Rattle.directory.specs.Directory.{listed}
use Rattle.slices.specs.Slices.{slices_of, cut}
use Rattle.slices.specs.declared.SourceSlice.{SourceSlice}
use Rattle.mapping.specs.declared.Mapped.{Mapped}
use Rattle.needed.specs.declared.Stage.{Stage}
use Rattle.needed.specs.declared.Stage.TheVariants.{LocationList, Directory}

-- steps 1 to 3 say where the location list is, steps 1 to 4 where the directory is
unfoldable pub placed : File → ℕ → Stage → Result Header paper.Refusal
placed f len LocationList = located f len
placed f len Directory = listed f len

-- which pages a part has
abbrev pub pages_at : Stage → Pages
pages_at LocationList = pages.Location
pages_at Directory = pages.Directory

-- step 4, "the first 4*D bytes of those pages"; step 5, "the first directory_size bytes of these D pages"
abbrev pub bytes_at : Stage → Header → ℕ
bytes_at LocationList h = 4 * directory_pages h
bytes_at Directory h = h.directory

-- its slices
abbrev pub slices_at : File → Stage → Header → List SourceSlice
slices_at f stage h =
    cut (bytes_at stage h)
    (slices_of h.pagesize (page_of f h.pagesize (pages_at stage)) (need h.pagesize (bytes_at stage h)))

-- the steps, then 10: "Room is judged after the cut and counts slices"
unfoldable pub needing : File → ℕ → Stage → ℕ → Result Header paper.Refusal
needing f len stage room = do
  h ← placed f len stage
  require (leb (length (slices_at f stage h)) room) (refusal_in (NoRoom (length (slices_at f stage h))))
  Ok h

-- as mapping does, it answers slice count and length
unfoldable pub needed : File → Stage → Result Header paper.Refusal → Result Mapped paper.Refusal
needed f stage o = do
  h ← o
  Ok (record { slices = length (slices_at f stage h); length = bytes_at stage h })
