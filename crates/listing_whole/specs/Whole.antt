-- Document 01, "Listing": whether a file is listed, or its whole refusal.
use Rattle.std.specs.Prelude.{ℕ, ◌+◌, ◌*◌, leb, Result, Ok}
use Rattle.outcome.specs.Outcome.{◌>>=◌, ◌>>◌, require, raise}
use Rattle.outcome.specs.Refusal as paper
use Rattle.parse_buffer.specs.Bytes.{File}
use Rattle.paged.specs.Refusal.{refusal_in}
use Rattle.paged.specs.declared.refusal.Refusal.TheVariants.{ShortData}
use Rattle.header.specs.Header.{header_at}
use Rattle.directory.specs.Directory.{reached, stream_count}
use Rattle.listing_whole.specs.declared.refusal.ListRefusal.{ListRefusal}
use Rattle.listing_whole.specs.declared.refusal.ListRefusal.TheVariants.{Container, OverLimit}
use Rattle.listing_whole.specs.declared.Listable.{Listable}

-- refusal 11: "listing input over 65,536 bytes, or over 4,096 streams"
abbrev pub input_limit : ℕ
input_limit = 65536

abbrev pub stream_limit : ℕ
stream_limit = 4096

abbrev pub over_limit : ℕ → paper.Refusal
over_limit limit = record { number = 11; value = limit }

-- the number and value of a refusal of the whole listing
abbrev pub list_refusal_in : ListRefusal → paper.Refusal
list_refusal_in (Container why) = refusal_in why
list_refusal_in (OverLimit limit) = over_limit limit

-- what an answer of the listing says on paper
abbrev pub told : {A : Type 0} → Result A ListRefusal → Result A paper.Refusal
told r = raise list_refusal_in r

-- how many streams are listed, or the whole refusal: "11 for input size first, then the stream count's refusals, then
-- 7 if 4 + 4*count exceeds directory_size, then 11 for streams"
unfoldable pub listable : File → ℕ → Result ℕ paper.Refusal
listable f len = do
  require (leb len input_limit) (over_limit input_limit)
  n ← stream_count f len
  require (leb (4 + 4 * n) (header_at f).directory) (refusal_in ShortData)
  require (leb n stream_limit) (over_limit stream_limit)
  Ok n

-- the same, with the header of a file that is listed
unfoldable pub judging : File → ℕ → Result Listable paper.Refusal
judging f len = do
  n ← listable f len
  h ← reached f len
  Ok (record { header = h; count = n })
