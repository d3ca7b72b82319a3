-- Document 01, container rule 8: how many bytes of a stream are asked for; and whether they lie in the file.
use Rattle.std.specs.Prelude.{ℕ, min, Option, Some, None, Result, Ok}
use Rattle.outcome.specs.Outcome.{◌>>=◌, ◌>>◌}
use Rattle.outcome.specs.Refusal as paper
use Rattle.parse_buffer.specs.Bytes.{File}
use Rattle.paged.specs.PageSize.{need}
use Rattle.paged.specs.Pages.{page_of}
use Rattle.paged.specs.Checks.{lies_in_file}
use Rattle.paged.specs.declared.pages.Pages.TheVariants.{Stream}
use Rattle.stream.specs.Stream.{own_page, found}
use Rattle.stream.specs.declared.Found.{Found}
use Rattle.extent.specs.declared.Extent.{Extent}

-- "The length is the size, or the limit where that is smaller"
abbrev pub length_of : Option ℕ → ℕ → ℕ
length_of None size = size
length_of (Some n) size = min size n

-- a stream, and how many of its bytes are asked for
pub record Asked : Type 0 where
  pub found : Found
  pub length : ℕ

abbrev pub asked_of : Option ℕ → Found → Asked
asked_of limit x = record { found = x; length = length_of limit x.size }

-- steps 1 to 8: all of the stream's page numbers are checked, whatever the limit
unfoldable pub asked : File → ℕ → ℕ → Option ℕ → Result Asked paper.Refusal
asked f len k limit = do
  x ← found f len k
  Ok (asked_of limit x)

-- steps 1 to 8, then 6 for the bytes that are asked for
unfoldable pub readable : File → ℕ → ℕ → Option ℕ → Result Asked paper.Refusal
readable f len k limit = do
  x ← asked f len k limit
  lies_in_file len x.found.header.pagesize (own_page f x.found) x.length
      (need x.found.header.pagesize x.length)
  Ok x

-- these bytes by their pages: need(length) of the stream's own
abbrev pub extent_of : Asked → Extent
extent_of x =
    record {
      pagesize = x.found.header.pagesize;
      list = Stream x.found.first;
      bytes = x.length;
      pages = need x.found.header.pagesize x.length;
    }

-- page j of them
abbrev pub page_in : File → Extent → ℕ → ℕ
page_in f x j = page_of f x.pagesize x.list j
