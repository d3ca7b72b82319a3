-- Document 01, "Listing": the listing of a file, as its list of bytes.
use Rattle.std.specs.Prelude.{ℕ, zero, suc, ◌+◌, ◌-◌, min, cond, List, [], ◌++◌, leb, ltb, length, Result, Ok, Err}
use Rattle.outcome.specs.Outcome.{◌>>=◌}
use Rattle.outcome.specs.Refusal as paper
use Rattle.parse_buffer.specs.Bytes.{File}
use Rattle.listing_text.specs.Text.{refusal_text}
use Rattle.listing_whole.specs.Whole.{listable}
use Rattle.listing_line.specs.Line.{line_at}
use Rattle.listing.specs.declared.place.Place.{Place}
use Rattle.listing.specs.declared.place.Place.TheVariants.{Head, Stream, End}
use Rattle.listing.specs.declared.Part.{Part}

-- m lines from one on, end to end
unfoldable pub lines_from : (ℕ → List ℕ) → ℕ → ℕ → List ℕ
lines_from line from zero = []
lines_from line from (suc m) = lines_from line from m ++ line (from + m)

-- the listing of a file
unfoldable pub listing : File → ℕ → List ℕ
listing f len = whole (listable f len)
  where
    whole : Result ℕ paper.Refusal → List ℕ
    whole (Ok n) = lines_from (line_at f len n) 0 (1 + n)
    whole (Err why) = refusal_text why

-- ---- a part of a listing
-- the line at a place; a stream that is not there is past the last line, as the end is
abbrev pub line_of : ℕ → Place → ℕ
line_of n Head = 0
line_of n (Stream k) = 1 + min k.0 n
line_of n End = 1 + n

-- the place of a line
abbrev pub place_of : ℕ → ℕ → Place
place_of n zero = Head
place_of n (suc k) = cond (ltb k n) (Stream (record { 0 = k })) End

-- of m lines, the most whose bytes fit
unfoldable pub most : ℕ → (ℕ → List ℕ) → ℕ → ℕ → ℕ
most room line from zero = 0
most room line from (suc m) = cond (leb (length (lines_from line from (suc m))) room) (suc m) (most room line from m)

-- many lines, from one on, of a file of count streams
pub record Lines : Type 0 where
  pub count : ℕ
  pub from : ℕ
  pub many : ℕ

-- the most whole lines, from one on, that have room
abbrev pub lines_in : File → ℕ → ℕ → ℕ → ℕ → Lines
lines_in f len n from room =
    record { count = n; from = from; many = most room (line_at f len n) from (1 + n - from) }

-- those from a place on, or the whole refusal
unfoldable pub fitting : File → ℕ → Place → ℕ → Result Lines paper.Refusal
fitting f len place room = do
  n ← listable f len
  Ok (lines_in f len n (line_of n place) room)

-- their bytes
abbrev pub text_of : File → ℕ → Lines → List ℕ
text_of f len l = lines_from (line_at f len l.count) l.from l.many

-- how many bytes, and where the listing goes on
abbrev pub part_in : File → ℕ → Lines → Part
part_in f len l = record { bytes = length (text_of f len l); next = place_of l.count (l.from + l.many) }

-- the answer of `list`
unfoldable pub part_of : File → ℕ → Result Lines paper.Refusal → Result Part paper.Refusal
part_of f len o = do
  l ← o
  Ok (part_in f len l)
