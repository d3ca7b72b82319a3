-- Request 2026-02, "Absent isn't empty": what a stream's line says, and what it then says of the stream.
use Rattle.std.specs.Prelude.{◌≡◌, ◌↔◌, ◌++◌, ℕ, suc, ◌<◌, None, Ok, Err}
use Rattle.parse_buffer.specs.Bytes.{File}
use Rattle.header.specs.Header.{header_at}
use Rattle.stream.specs.Stream.{absent, size_at, found}
use Rattle.stream.specs.declared.Found.{Found}
use Rattle.mapping.specs.Mapping.{mapping, mapped}
use Rattle.listing_text.specs.Text.{stream_text, size_text, absent_text}
use Rattle.listing_whole.specs.Whole.{listable}
use Rattle.listing_line.specs.Line.{Shown, line_text, line_at}

-- a line tells its stream, and what it shows: for one stream the texts of present, absent and refused all differ, and
-- so do those of two sizes, of two counts of slices and of two refusals
pub record LinesTold : Type 0 where
  pub line : (j k : ℕ) (a b : Shown) → line_text j a ≡ line_text k b → (j ≡ k) × (a ≡ b)

-- stream k of a file that lists n, and the answer of mapping it without a limit, whatever the room
pub record AbsentExactly (f : File) (len n k : ℕ) : Type 0 where
  -- the line is `K absent` exactly if the answer is refusal 5
  pub absent_line : (room : ℕ) → (line_at f len n (suc k) ≡ stream_text k ++ absent_text)
      ↔ (mapped f (mapping f len k None room) ≡ Err (record { number = 5; value = k }))
  -- it is `K 0 0` exactly if the stream is there and has no bytes
  pub empty_line : (room : ℕ) → (line_at f len n (suc k) ≡ stream_text k ++ size_text 0 0)
      ↔ (mapped f (mapping f len k None room) ≡ Ok (record { slices = 0; length = 0 }))
  -- both by the size that the directory has for it: `absent` by that alone, `0 0` if the stream is there at all
  pub absent_size : (line_at f len n (suc k) ≡ stream_text k ++ absent_text)
      ↔ (size_at f (header_at f).pagesize k ≡ absent)
  pub empty_size : {x : Found} → found f len k ≡ Ok x
      → (line_at f len n (suc k) ≡ stream_text k ++ size_text 0 0) ↔ (size_at f (header_at f).pagesize k ≡ 0)

pub record AbsentIsNotEmpty : Type 0 where
  pub exactly : (f : File) (len n k : ℕ) → listable f len ≡ Ok n → k < n → AbsentExactly f len n k
