-- Document 01, mapping: a stream's slices, and what mapping answers.
use Rattle.std.specs.Prelude.{ℕ, List, leb, length, Option, Result, Ok}
use Rattle.outcome.specs.Outcome.{◌>>=◌, ◌>>◌, require}
use Rattle.outcome.specs.Refusal as paper
use Rattle.parse_buffer.specs.Bytes.{File}
use Rattle.paged.specs.Refusal.{refusal_in}
use Rattle.paged.specs.declared.refusal.Refusal.TheVariants.{NoRoom}
use Rattle.stream.specs.Stream.{own_page, own_pages}
use Rattle.extent.specs.Extent.{Asked, asked}
use Rattle.slices.specs.Slices.{slices_of, cut}
use Rattle.slices.specs.declared.SourceSlice.{SourceSlice}
use Rattle.mapping.specs.declared.Mapped.{Mapped}

-- the stream's slices, merged and then cut to the length
abbrev pub slices_in : File → Asked → List SourceSlice
slices_in f x = cut x.length (slices_of x.found.header.pagesize (own_page f x.found) (own_pages x.found))

-- "Mapping does steps 1 to 8, then 10." Room is judged after the cut and counts slices
unfoldable pub mapping : File → ℕ → ℕ → Option ℕ → ℕ → Result Asked paper.Refusal
mapping f len k limit room = do
  x ← asked f len k limit
  require (leb (length (slices_in f x)) room) (refusal_in (NoRoom (length (slices_in f x))))
  Ok x

-- "Mapping answers slice count and length"
unfoldable pub mapped : File → Result Asked paper.Refusal → Result Mapped paper.Refusal
mapped f o = do
  x ← o
  Ok (record { slices = length (slices_in f x); length = x.length })
