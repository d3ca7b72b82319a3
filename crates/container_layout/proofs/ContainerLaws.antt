-- What stands at each place of the file: in the header's page, in a map page and the page after it, in the data pages
-- of a stream, of the directory and of the location list.
use mathlib.Core.Path.{◌≡◌, ◌∙◌, ap}
use mathlib.Core.Bool.{true, false}
use mathlib.Core.Logic.{⊎_elim}
use mathlib.Core.List.{List}
use Prim.Native.Nat.{ℕ, zero, suc, ◌+◌, ◌-◌, ◌*◌, ◌/◌, ◌%◌, ◌≤◌, ◌<◌}
use native.Mathlib.Omega.{arith}
use native.Mathlib.Nat.{add-mul, mul-add-div_right, div-lt_iff_lt-mul}
use borrow.Author.Tests.{ne_eqb, le-leb, lt-leb, lt-ltb, le-ltb}
use lib.ListN.{length, get_or}
use Rattle.outcome.proofs.OutcomeLaws.{below_or}
use Rattle.parse_buffer.specs.Bytes.{byte_at, bytes_of}
use Rattle.header.specs.Header.{big_magic}
use Rattle.stream.specs.Stream.{absent, pages_of}
use Rattle.container_layout.specs.Place.{data_page, rank, pages_with}
use Rattle.container_layout.specs.Layout.{present_bytes, bytes_up_to, pages_up_to, stream_pages, directory_pages, location_page, pages_used, is_padding}
use Rattle.container_layout.specs.Container.{number_bytes, header_numbers, magic_length, header_byte, map_byte, stream_of, stream_byte, streams_byte, directory_numbers, location_numbers, data_byte, container}
use Rattle.container_layout.proofs.PlaceLaws.{page_of_lem, place_of, divides, times_up, times_le, data_least, data_not, rank_data}
use Rattle.container_layout.proofs.LayoutLaws.{pages_next, pages_rise}

-- ---- numbers end to end: byte j of number w
pub number_byte : (numbers : List ℕ) (w j : ℕ) → j < 4 → number_bytes numbers (4 * w + j) ≡ byte_at (bytes_of (get_or numbers w 0)) j
number_byte numbers w j l =
    let d = divides 4 (4 * w + j) w j l (omega arith) in rw (d.0, d.1)

-- ---- the header's page: the magic, and numbers after it
module _ (p : ℕ) (sizes : List ℕ) (i : ℕ) where
  pub header_magic : i < magic_length → header_byte p sizes i ≡ byte_at big_magic i
  unfolding header_byte
  header_magic l = rw (lt-ltb i magic_length l)

  pub header_number : magic_length ≤ i → header_byte p sizes i ≡ number_bytes (header_numbers p sizes) (i - magic_length)
  unfolding header_byte
  header_number l = rw (le-ltb i magic_length l)

-- ---- a stream's bytes, and zeros after them
pub present_size : (size : ℕ) → (size ≡ absent → ⊥) → size ≡ present_bytes size
unfolding present_bytes
present_size size h = rw (ne_eqb size absent h)

module _ (sizes bytes : List ℕ) (k i : ℕ) where
  pub stream_inside : i < present_bytes (get_or sizes k 0) → stream_byte sizes bytes k i ≡ byte_at bytes (bytes_up_to sizes k + i)
  unfolding stream_byte
  stream_inside l = rw (lt-ltb i (present_bytes (get_or sizes k 0)) l)

  pub stream_past : present_bytes (get_or sizes k 0) ≤ i → stream_byte sizes bytes k i ≡ 0
  unfolding stream_byte
  stream_past l = rw (le-ltb i (present_bytes (get_or sizes k 0)) l)

-- ---- which pages are padding
module _ (last used n : ℕ) where
  pub padding_yes : last < n → n < used → is_padding last used n ≡ true
  unfolding is_padding
  padding_yes l m = rw (lt-ltb last n l, lt-ltb n used m)

  pub padding_not : ((last < n) × (n < used) → ⊥) → is_padding last used n ≡ false
  unfolding is_padding
  padding_not none =
      ⊎_elim
      (λ (l : last < n).
      ⊎_elim (λ (m : n < used). absurd (none (l, m))) (λ (m : used ≤ n). rw (lt-ltb last n l, le-ltb n used m)) (below_or n used))
      (λ (l : n ≤ last). rw (le-ltb last n l))
      (below_or last n)

-- ---- the pages after the header
module _ (p : ℕ) (big : 3 ≤ p) (map : ℕ → ℕ → ℕ) (body : ℕ → ℕ) (x : ℕ) (l : x < p) where
  -- page n, if it is no map page
  pub with_page : (n : ℕ) → (n % p ≡ 1 → ⊥) → (n % p ≡ 2 → ⊥) → pages_with p map body (n * p + x) ≡ body (rank p n * p + x)
  unfolding pages_with
  with_page n one two = rw (page_of_lem p n x l, place_of p n x l, ne_eqb (n % p) 1 one, ne_eqb (n % p) 2 two)

  pub with_data : (r : ℕ) → pages_with p map body (data_page p r * p + x) ≡ body (r * p + x)
  with_data r =
      with_page (data_page p r) (data_not p big r 1 (omega arith) (omega arith)) (data_not p big r 2 (omega arith) (omega arith))
      ∙ ap (λ s. body (s * p + x)) (rank_data p big r)

  pub with_map : (q : ℕ) → pages_with p map body ((q * p + 1) * p + x) ≡ map q x
  unfolding pages_with
  with_map q =
      rw (page_of_lem p (q * p + 1) x l, place_of p (q * p + 1) x l, place_of p q 1 (omega arith), page_of_lem p q 1 (omega arith))

  pub with_zero : (q : ℕ) → pages_with p map body ((q * p + 2) * p + x) ≡ 0
  unfolding pages_with
  with_zero q = rw (page_of_lem p (q * p + 2) x l, place_of p q 2 (omega arith))

-- ---- the data, end to end
module _ (p : ℕ) (big : 3 ≤ p) (sizes bytes : List ℕ) where
  -- a data page belongs to the stream that begins there or before, if the next begins after it
  pub stream_of_lem : (n k r : ℕ) → k < n → pages_up_to p sizes k ≤ r → r < pages_up_to p sizes (k + 1) → stream_of p sizes n r ≡ k
  unfolding stream_of
  stream_of_lem zero k r l a b = absurd (omega arith)
  stream_of_lem (suc n) k r l a b =
      ⊎_elim
      (λ (m : k < n). let rise = pages_rise sizes p (k + 1) n (omega arith) in rw (lt-leb (pages_up_to p sizes n) r (omega arith)) (stream_of_lem n k r m a b))
      (λ (m : n ≤ k). let e : n ≡ k = omega arith in rw (e, le-leb (pages_up_to p sizes k) r a))
      (below_or k n)

  module _ (k : ℕ) (l : k < length sizes) (i : ℕ) (h : i < pages_of p (get_or sizes k 0) * p) where
    in_pages : pages_up_to p sizes k + i / p < pages_up_to p sizes (k + 1)
    in_pages =
        let m : i / p < pages_of p (get_or sizes k 0) = (div-lt_iff_lt-mul {k = p} (omega arith)).1 h in
        omega (arith, pages_next sizes p k)

    pub data_stream : data_byte p sizes bytes (pages_up_to p sizes k * p + i) ≡ stream_byte sizes bytes k i
    unfolding data_byte streams_byte
    data_stream =
        let a = pages_next sizes p k in
        let b = add-mul (pages_up_to p sizes k) (pages_of p (get_or sizes k 0)) p in
        let c : pages_up_to p sizes (k + 1) * p ≤ stream_pages p sizes * p = times_le p (pages_rise sizes p (k + 1) (length sizes) (omega arith)) in
        let d = ap (λ n. n * p) a in
        let inside : pages_up_to p sizes k * p + i < stream_pages p sizes * p = omega arith in
        let page : (pages_up_to p sizes k * p + i) / p ≡ pages_up_to p sizes k + i / p = mul-add-div_right (omega arith) (pages_up_to p sizes k) i in
        let own : stream_of p sizes (length sizes) (pages_up_to p sizes k + i / p) ≡ k = stream_of_lem (length sizes) k (pages_up_to p sizes k + i / p) l (omega arith) in_pages in
        let back : pages_up_to p sizes k * p + i - pages_up_to p sizes k * p ≡ i = omega arith in
        rw (lt-ltb _ _ inside, page, own, back)

  pub data_directory : (i : ℕ) → i < directory_pages p sizes * p → data_byte p sizes bytes (stream_pages p sizes * p + i) ≡ number_bytes (directory_numbers p sizes) i
  unfolding data_byte
  data_directory i h =
      let a = add-mul (stream_pages p sizes) (directory_pages p sizes) p in
      let back : stream_pages p sizes * p + i - stream_pages p sizes * p ≡ i = omega arith in
      rw (le-ltb (stream_pages p sizes * p + i) (stream_pages p sizes * p) (omega arith), lt-ltb (stream_pages p sizes * p + i) ((stream_pages p sizes + directory_pages p sizes) * p) (omega arith), back)

  pub data_location : (i : ℕ) → data_byte p sizes bytes ((stream_pages p sizes + directory_pages p sizes) * p + i) ≡ number_bytes (location_numbers p sizes) i
  unfolding data_byte
  data_location i =
      let a = add-mul (stream_pages p sizes) (directory_pages p sizes) p in
      let end : ℕ = (stream_pages p sizes + directory_pages p sizes) * p in
      let back : end + i - end ≡ i = omega arith in
      rw (le-ltb (end + i) (stream_pages p sizes * p) (omega arith), le-ltb (end + i) end (omega arith), back)

  -- ---- the file
  pub container_header : (i : ℕ) → i < p → container p sizes bytes i ≡ header_byte p sizes i
  unfolding container
  container_header i h = rw (lt-ltb i p h)

  pub container_pages : (i : ℕ) → p ≤ i → container p sizes bytes i ≡ pages_with p (map_byte p (location_page p sizes) (pages_used p sizes)) (data_byte p sizes bytes) i
  unfolding container
  container_pages i h = rw (le-ltb i p h)

  pub container_data : (r x : ℕ) → x < p → container p sizes bytes (data_page p r * p + x) ≡ data_byte p sizes bytes (r * p + x)
  container_data r x l =
      let m = times_up p {a = 0} {b = data_page p r} (let d = data_least p big r in omega arith) in
      container_pages (data_page p r * p + x) (omega arith) ∙ with_data p big _ _ x l r
