-- Document 01, "Listing": a line of the listing, and what a stream's line shows.
use Rattle.std.specs.Prelude.{ℕ, zero, suc, cond, List, ◌++◌, eqb, None, Result, Ok, Err}
use Rattle.outcome.specs.Refusal as paper
use Rattle.parse_buffer.specs.Bytes.{File}
use Rattle.extent.specs.Extent.{asked}
use Rattle.mapping.specs.Mapping.{mapped}
use Rattle.mapping.specs.declared.Mapped.{Mapped}
use Rattle.listing_text.specs.Text.{head_text, stream_text, size_text, absent_text, refusal_text}

-- what a stream's line shows
pub data Shown : Type 0 where
  sized_as : ℕ → ℕ → Shown
  not_there : Shown
  refused_with : paper.Refusal → Shown

-- it is the answer of mapping the stream, without a limit or a store; of the streams listed only an absent one is
-- refused with 5
unfoldable pub shown_of : Result Mapped paper.Refusal → Shown
shown_of (Ok m) = sized_as m.length m.slices
shown_of (Err why) = cond (eqb why.number 5) not_there (refused_with why)

abbrev pub shown : File → ℕ → ℕ → Shown
shown f len k = shown_of (mapped f (asked f len k None))

-- after the stream's number; "another refusal of that mapping shows as `K refused C V`"
unfoldable pub shown_text : Shown → List ℕ
shown_text (sized_as size slices) = size_text size slices
shown_text not_there = absent_text
shown_text (refused_with why) = refusal_text why

-- "A line is number, size, slices"
abbrev pub line_text : ℕ → Shown → List ℕ
line_text k shown = stream_text k ++ shown_text shown

-- the lines of a file of n streams: line 0 is the head, line 1 + k is stream k's
unfoldable pub line_at : File → ℕ → ℕ → ℕ → List ℕ
line_at f len n zero = head_text n
line_at f len n (suc k) = line_text k (shown f len k)
