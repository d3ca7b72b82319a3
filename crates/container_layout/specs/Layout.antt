-- Request 2026-05: how much there is of each part of a container, from the page size and the list of sizes.
use Rattle.std.specs.Prelude.{ℕ, zero, suc, ◌+◌, ◌*◌, max, Bool, false, cond, List, ltb, eqb, length, get_or}
use Rattle.paged.specs.PageSize.{need}
use Rattle.header.specs.Header.{header_block}
use Rattle.stream.specs.Stream.{absent, pages_of}
use Rattle.container_layout.specs.Place.{data_page}

-- the bytes of a stream of this size: none where it is absent
unfoldable pub present_bytes : ℕ → ℕ
present_bytes size = cond (eqb size absent) 0 size

-- the bytes, and the pages, of the streams before k. A stream of size 0 has no pages
unfoldable pub bytes_up_to : List ℕ → ℕ → ℕ
bytes_up_to sizes zero = 0
bytes_up_to sizes (suc k) = bytes_up_to sizes k + present_bytes (get_or sizes k 0)

unfoldable pub pages_up_to : ℕ → List ℕ → ℕ → ℕ
pages_up_to p sizes zero = 0
pages_up_to p sizes (suc k) = pages_up_to p sizes k + pages_of p (get_or sizes k 0)

-- T, the pages of all streams
abbrev pub stream_pages : ℕ → List ℕ → ℕ
stream_pages p sizes = pages_up_to p sizes (length sizes)

-- the directory's numbers are the count, the sizes and the streams' pages (document 01, rule 6); D is its pages, at
-- least 1
abbrev pub directory_size : ℕ → List ℕ → ℕ
directory_size p sizes = 4 * (1 + length sizes + stream_pages p sizes)

abbrev pub directory_pages : ℕ → List ℕ → ℕ
directory_pages p sizes = need p (directory_size p sizes)

-- "streams in order, directory, then exactly one location page": that is the last data page
abbrev pub location_page : ℕ → List ℕ → ℕ
location_page p sizes = data_page p (stream_pages p sizes + directory_pages p sizes)

-- "Pad with free pages up to 4,096 bytes. pages_used is the number of pages"
abbrev pub pages_used : ℕ → List ℕ → ℕ
pages_used p sizes = max (location_page p sizes + 1) (need p header_block)

abbrev pub file_length : ℕ → List ℕ → ℕ
file_length p sizes = pages_used p sizes * p

-- a padding page: after the last data page `last`, and below pages_used
unfoldable pub is_padding : ℕ → ℕ → ℕ → Bool
is_padding last used n = cond (ltb last n) (ltb n used) false
