-- Request 2026-05, "Reading each stream back gives its bytes, with the same refusal 5 for absent ones".
use Rattle.std.specs.Prelude.{◌≡◌, not, List, ℕ, ◌+◌, leb, ltb, eqb, length, get_or, take, drop, Option, Result, Ok}
use Rattle.outcome.specs.Outcome.{◌>>=◌, ◌>>◌, require}
use Rattle.outcome.specs.Refusal as paper
use Rattle.outcome.specs.Store.{written}
use Rattle.parse_buffer.specs.Bytes.{File}
use Rattle.paged.specs.Refusal.{refusal_in}
use Rattle.paged.specs.declared.refusal.Refusal.TheVariants.{StreamNotFound, NoRoom}
use Rattle.header.specs.Header.{opening}
use Rattle.directory.specs.Directory.{stream_count}
use Rattle.stream.specs.Stream.{absent, pages_of}
use Rattle.extent.specs.Extent.{length_of, Asked}
use Rattle.slices.specs.Slices.{slices_of, cut}
use Rattle.slices.specs.declared.SourceSlice.{SourceSlice}
use Rattle.mapping.specs.Mapping.{slices_in, mapping, mapped}
use Rattle.mapping.specs.declared.Mapped.{Mapped}
use Rattle.msf.specs.Extraction.{bytes_in, extraction, length_in}
use Rattle.container_layout.specs.Place.{data_page}
use Rattle.container_layout.specs.Layout.{bytes_up_to, pages_up_to, pages_used}
use Rattle.container_writer_statements.specs.Accepted.{Accepted, Holds}

abbrev not_found : ℕ → paper.Refusal
not_found k = refusal_in (StreamNotFound (record { 0 = k }))

-- the size given for stream k: 5 if there is none, or if it is absent
unfoldable pub given_size : List ℕ → ℕ → Result ℕ paper.Refusal
given_size sizes k = do
  require (ltb k (length sizes)) (not_found k)
  require (not (eqb (get_or sizes k 0) absent)) (not_found k)
  Ok (get_or sizes k 0)

-- ---- extraction: so many of the bytes given for stream k, and 10 if these have no room
unfoldable pub given_length : List ℕ → ℕ → Option ℕ → ℕ → Result ℕ paper.Refusal
given_length sizes k limit room = do
  size ← given_size sizes k
  require (leb (length_of limit size) room) (refusal_in (NoRoom (length_of limit size)))
  Ok (length_of limit size)

abbrev pub given_bytes : List ℕ → List ℕ → ℕ → ℕ → List ℕ
given_bytes sizes bytes k n = take n (drop (bytes_up_to sizes k) bytes)

-- ---- mapping: the slices of stream k's pages, which are the data pages after those of the streams before it
abbrev pub written_slices : ℕ → List ℕ → ℕ → Option ℕ → List SourceSlice
written_slices p sizes k limit =
    cut (length_of limit (get_or sizes k 0))
    (slices_of p (λ j. data_page p (pages_up_to p sizes k + j)) (pages_of p (get_or sizes k 0)))

unfoldable pub given_mapping : ℕ → List ℕ → ℕ → Option ℕ → ℕ → Result Mapped paper.Refusal
given_mapping p sizes k limit room = do
  size ← given_size sizes k
  require (leb (length (written_slices p sizes k limit)) room)
      (refusal_in (NoRoom (length (written_slices p sizes k limit))))
  Ok (record { slices = length (written_slices p sizes k limit); length = length_of limit size })

-- what reading such a file answers: opening, the stream count, and for every stream, limit and store extraction and
-- mapping, refusals included
pub record ReadsBack (f : File) (len p : ℕ) (sizes bytes : List ℕ) : Type 0 where
  pub opened : opening f len ≡ Ok (record { pagesize = p; used = pages_used p sizes })
  pub counted : stream_count f len ≡ Ok (length sizes)
  pub extracted : (k : ℕ) (limit : Option ℕ) (room : ℕ) →
      length_in (extraction f len k limit room) ≡ given_length sizes k limit room
  pub bytes_are : (k : ℕ) (limit : Option ℕ) (out : List ℕ) →
      written (extraction f len k limit (length out)) (bytes_in f) out
      ≡ written (given_length sizes k limit (length out)) (given_bytes sizes bytes k) out
  pub maps : (k : ℕ) (limit : Option ℕ) (room : ℕ) →
      mapped f (mapping f len k limit room) ≡ given_mapping p sizes k limit room
  pub slices_are : (k : ℕ) (limit : Option ℕ) (room : ℕ) {x : Asked} → mapping f len k limit room ≡ Ok x →
      slices_in f x ≡ written_slices p sizes k limit

pub record ReadBack : Type 0 where
  pub is : (f : File) (len p : ℕ) (sizes bytes : List ℕ) → Accepted p sizes (length bytes) → Holds f len p sizes bytes →
      ReadsBack f len p sizes bytes
