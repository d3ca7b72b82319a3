-- Document 01's file F: P 256, pages_used 24, 6,144 bytes, location entry 3; page 3 begins with 4; directory_size 36 at
-- page 4: count 3; sizes 300, 0xffffffff, 600; pages 20, 21, 10, 11, 5. free_page_map is 1; any other byte that
-- document 01 leaves open is 0.
use Rattle.std.specs.Prelude.{List, [], ◌∷◌, ◌++◌, ℕ, ◌-◌, ◌*◌, length, replicate}
use Rattle.parse_buffer.specs.Bytes.{File, byte_at, bytes_of}
use Rattle.header.specs.Header.{big_magic}

abbrev as_bytes : List ℕ → List ℕ
as_bytes [] = []
as_bytes (n ∷ ns) = bytes_of n ++ as_bytes ns

-- what a page holds, filled up to 256 bytes with 0, and pages of 0
abbrev page : List ℕ → List ℕ
page s = s ++ replicate (256 - length s) 0

abbrev empty : ℕ → List ℕ
empty n = replicate (256 * n) 0

unfoldable pub file_f : List ℕ
file_f =
    page (big_magic ++ as_bytes (256 ∷ 1 ∷ 24 ∷ 36 ∷ 0 ∷ 3 ∷ []))
    ++ empty 2
    ++ page (as_bytes (4 ∷ []))
    ++ page (as_bytes (3 ∷ 300 ∷ 0xffffffff ∷ 600 ∷ 20 ∷ 21 ∷ 10 ∷ 11 ∷ 5 ∷ []))
    ++ empty 19

unfoldable pub F : File
unfolding file_f
F = byte_at file_f
