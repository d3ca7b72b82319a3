-- Document 01, extraction: a stream's bytes, and what extraction answers.
use Rattle.std.specs.Prelude.{ℕ, zero, suc, List, [], ◌∷◌, ◌++◌, leb, Option, Result, Ok}
use Rattle.outcome.specs.Outcome.{◌>>=◌, ◌>>◌, require}
use Rattle.outcome.specs.Refusal as paper
use Rattle.parse_buffer.specs.Bytes.{File}
use Rattle.paged.specs.Refusal.{refusal_in}
use Rattle.paged.specs.Pages.{through}
use Rattle.paged.specs.declared.refusal.Refusal.TheVariants.{NoRoom}
use Rattle.stream.specs.Stream.{own_page}
use Rattle.extent.specs.Extent.{Asked, readable}

-- the first n bytes of these pages: byte i is file byte page (i / P) * P + i mod P
unfoldable pub bytes_through : File → ℕ → (ℕ → ℕ) → ℕ → List ℕ
bytes_through f p page zero = []
bytes_through f p page (suc n) = bytes_through f p page n ++ f (through p page n) ∷ []

-- the bytes that are asked for
abbrev pub bytes_in : File → Asked → List ℕ
bytes_in f x = bytes_through f x.found.header.pagesize (own_page f x.found) x.length

-- "Extraction does steps 1 to 8, then 6 for its own slices, then 10"
unfoldable pub extraction : File → ℕ → ℕ → Option ℕ → ℕ → Result Asked paper.Refusal
extraction f len k limit room = do
  x ← readable f len k limit
  require (leb x.length room) (refusal_in (NoRoom x.length))
  Ok x

-- "extraction [answers] the length"
unfoldable pub length_in : Result Asked paper.Refusal → Result ℕ paper.Refusal
length_in o = do
  x ← o
  Ok x.length
