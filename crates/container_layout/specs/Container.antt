-- Request 2026-05: the file that is written, byte by byte.
use Rattle.std.specs.Prelude.{ℕ, zero, suc, ◌+◌, ◌-◌, ◌*◌, ◌/◌, ◌%◌, ◌^◌, Bool, cond, List, [], ◌∷◌, ◌++◌, leb, ltb, length, get_or}
use Rattle.parse_buffer.specs.Bytes.{File, byte_at, bytes_of}
use Rattle.header.specs.Header.{big_magic}
use Rattle.container_layout.specs.Place.{data_pages, pages_with}
use Rattle.container_layout.specs.Layout.{present_bytes, bytes_up_to, pages_up_to, stream_pages, directory_size, directory_pages, location_page, pages_used, is_padding}

-- numbers end to end, four bytes each, and zeros after them: byte i
abbrev pub number_bytes : List ℕ → ℕ → ℕ
number_bytes numbers i = byte_at (bytes_of (get_or numbers (i / 4) 0)) (i % 4)

-- ---- page 0 (document 01, rule 1): the magic, then page_size, free_page_map, pages_used, directory_size, reserved,
-- and the location entry. "with free map 1"; "unused bytes and reserved are 0"
abbrev pub header_numbers : ℕ → List ℕ → List ℕ
header_numbers p sizes = p ∷ 1 ∷ pages_used p sizes ∷ directory_size p sizes ∷ 0 ∷ location_page p sizes ∷ []

abbrev pub magic_length : ℕ
magic_length = 32

unfoldable pub header_byte : ℕ → List ℕ → ℕ → ℕ
header_byte p sizes i =
    cond (ltb i magic_length) (byte_at big_magic i) (number_bytes (header_numbers p sizes) (i - magic_length))

-- ---- the free map: "The bit of page n is bit n mod 8, lowest first, of byte (n mod 8P)/8 of page 1 + P*(n/8P)". So
-- bit b of byte x of page 1 + P*q is the bit of page 8*(q*P + x) + b. "it is 1 for a padding page and 0 for every other
-- page and past the last"
unfoldable pub bits : (ℕ → Bool) → ℕ → ℕ
bits one zero = 0
bits one (suc n) = bits one n + cond (one n) (2 ^ n) 0

unfoldable pub map_byte : ℕ → ℕ → ℕ → ℕ → ℕ → ℕ
map_byte p last used q x = bits (λ b. is_padding last used (8 * (q * p + x) + b)) 8

-- ---- the data, end to end. Each stream, the directory and the location list begin a page, and what they leave of
-- their last page is 0
-- the stream, among the first n, that data page r belongs to: the last that begins there or before
unfoldable pub stream_of : ℕ → List ℕ → ℕ → ℕ → ℕ
stream_of p sizes zero r = 0
stream_of p sizes (suc n) r = cond (leb (pages_up_to p sizes n) r) n (stream_of p sizes n r)

-- byte i of stream k in its pages
unfoldable pub stream_byte : List ℕ → List ℕ → ℕ → ℕ → ℕ
stream_byte sizes bytes k i =
    cond (ltb i (present_bytes (get_or sizes k 0))) (byte_at bytes (bytes_up_to sizes k + i)) 0

abbrev byte_in : ℕ → List ℕ → List ℕ → ℕ → ℕ → ℕ
byte_in p sizes bytes i k = stream_byte sizes bytes k (i - pages_up_to p sizes k * p)

unfoldable pub streams_byte : ℕ → List ℕ → List ℕ → ℕ → ℕ
streams_byte p sizes bytes i = byte_in p sizes bytes i (stream_of p sizes (length sizes) (i / p))

-- stream entry i of the directory is the i-th data page, the directory's pages follow, and then the location page
abbrev pub directory_numbers : ℕ → List ℕ → List ℕ
directory_numbers p sizes = length sizes ∷ (sizes ++ data_pages p 0 (stream_pages p sizes))

abbrev pub location_numbers : ℕ → List ℕ → List ℕ
location_numbers p sizes = data_pages p (stream_pages p sizes) (directory_pages p sizes)

unfoldable pub data_byte : ℕ → List ℕ → List ℕ → ℕ → ℕ
data_byte p sizes bytes i =
    cond (ltb i (stream_pages p sizes * p)) (streams_byte p sizes bytes i)
    (cond (ltb i ((stream_pages p sizes + directory_pages p sizes) * p))
    (number_bytes (directory_numbers p sizes) (i - stream_pages p sizes * p))
    (number_bytes (location_numbers p sizes) (i - (stream_pages p sizes + directory_pages p sizes) * p)))

-- ---- the file
unfoldable pub container : ℕ → List ℕ → List ℕ → File
container p sizes bytes i =
    cond (ltb i p) (header_byte p sizes i)
    (pages_with p (map_byte p (location_page p sizes) (pages_used p sizes)) (data_byte p sizes bytes) i)
