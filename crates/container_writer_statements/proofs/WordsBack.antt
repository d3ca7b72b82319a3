-- The words of a file that holds what is written: the header's, the location entry, the location list's and the
-- directory's are the numbers that were written there.
use mathlib.Core.Path.{◌≡◌, refl, ◌∙◌, ap}
use mathlib.Core.List.{List}
use Prim.Native.Nat.{ℕ, zero, suc, ◌+◌, ◌-◌, ◌*◌, ◌/◌, ◌%◌, ◌^◌, ◌≤◌, ◌<◌}
use native.Mathlib.Omega.{arith}
use native.Mathlib.Nat.{add-mul, div-add-mod', zero-add}
use lib.ListN.{length, get_or, get_or-append}
use lib.Seq.{get_or-append-add}
use Rattle.parse_buffer.specs.Bytes.{File, byte_at, word, bytes_of}
use Rattle.parse_buffer.proofs.WordLaws.{word_of_bytes}
use Rattle.paged.specs.Pages.{location, directory_page, directory_word}
use Rattle.paged.proofs.SizeLaws.{need_index, word_in_page}
use Rattle.stream.specs.Stream.{size_at, pages_before}
use Rattle.container_layout.specs.Place.{data_page}
use Rattle.container_layout.specs.Layout.{pages_up_to, stream_pages, directory_size, directory_pages, location_page}
use Rattle.container_layout.specs.Container.{number_bytes, header_numbers, directory_numbers, location_numbers, data_byte}
use Rattle.container_layout.proofs.PlaceLaws.{divides, times_up, pages_at_lem}
use Rattle.container_layout.proofs.ContainerLaws.{header_number, number_byte, data_directory, data_location}
use Rattle.container_writer_statements.specs.Accepted.{Accepted, Holds}
use Rattle.container_writer_statements.specs.Contents.{HasHeaderWords, HeaderWords}
use Rattle.container_writer_statements.proofs.AcceptedLaws.{plan, large, big, used_word, last_used, data_used, data_word, header_back, data_back}

-- ---- a word whose four bytes are those of a number of 32 bits
pub word_back : (f : File) (at : ℕ) (numbers : List ℕ) (w : ℕ) → ((j : ℕ) → j < 4 → f (at + j) ≡ number_bytes numbers (4 * w + j)) → get_or numbers w 0 < 2 ^ 32 → word f at ≡ get_or numbers w 0
unfolding word
word_back f at numbers w same small =
    let byte : (j : ℕ) → j < 4 → f (at + j) ≡ byte_at (bytes_of (get_or numbers w 0)) j = λ j l. same j l ∙ number_byte numbers w j l in
    let first : at + 0 ≡ at = omega arith in
    rw (rw first at (byte 0 (omega arith)), byte 1 (omega arith), byte 2 (omega arith), byte 3 (omega arith))
    (word_of_bytes (get_or numbers w 0) small)

module _ {p : ℕ} {sizes bytes : List ℕ} (a : Accepted p sizes (length bytes)) {f : File} {len : ℕ} (h : Holds f len p sizes bytes) where
  -- ---- the header's words
  header_word : (w : ℕ) → w < 6 → get_or (header_numbers p sizes) w 0 < 2 ^ 32 → word f (32 + 4 * w) ≡ get_or (header_numbers p sizes) w 0
  header_word w l small =
      let m = large a in
      word_back f (32 + 4 * w) (header_numbers p sizes) w
      (λ j n.
      let back : 32 + 4 * w + j - 32 ≡ 4 * w + j = omega arith in
      header_back a h (32 + 4 * w + j) (omega arith) ∙ header_number p sizes (32 + 4 * w + j) (omega arith) ∙ rw back)
      small

  pub words_back : HasHeaderWords f p sizes
  words_back =
      record {
        size = header_word 0 (omega arith) (let m = (plan a).size.most in omega arith);
        free = header_word 1 (omega arith) (omega arith);
        used = header_word 2 (omega arith) (used_word a);
        directory = header_word 3 (omega arith) (plan a).small;
        reserved = header_word 4 (omega arith) (omega arith);
        location = header_word 5 (omega arith) (data_word a _ (omega arith));
      }

  pub location_back : location f 0 ≡ location_page p sizes
  unfolding location
  location_back = words_back.location

  -- ---- the location list: one page holds it
  pub list_back : (j : ℕ) → j < directory_pages p sizes → directory_page f p j ≡ data_page p (stream_pages p sizes + j)
  unfolding directory_page
  list_back j l =
      let m = (plan a).list in
      let d = divides p (4 * j) 0 (4 * j) (omega arith) (omega arith) in
      let number = pages_at_lem p (stream_pages p sizes) (directory_pages p sizes) j l in
      rw (d.0, d.1, location_back)
      (word_back f (location_page p sizes * p + 4 * j) (location_numbers p sizes) j
      (λ i n.
      let place : location_page p sizes * p + 4 * j + i ≡ location_page p sizes * p + (4 * j + i) = omega arith in
      ap f place
      ∙ data_back a h (stream_pages p sizes + directory_pages p sizes) (4 * j + i) (last_used a) (omega arith)
      ∙ data_location p (big a) sizes bytes (4 * j + i))
      (rw number (data_word a _ (omega arith)))
      ∙ number)

  -- ---- the directory
  numbers_back : (w : ℕ) → w < 1 + length sizes + stream_pages p sizes → get_or (directory_numbers p sizes) w 0 < 2 ^ 32 → directory_word f p w ≡ get_or (directory_numbers p sizes) w 0
  unfolding directory_word
  numbers_back w l small =
      let m = large a in
      let T : ℕ = stream_pages p sizes in
      let q : ℕ = 4 * w / p in
      let x : ℕ = 4 * w % p in
      let whole : q * p + x ≡ 4 * w = div-add-mod' (4 * w) p in
      let within : x + 4 ≤ p = word_in_page p w (plan a).size in
      let few : q < directory_pages p sizes = need_index p (directory_size p sizes) (omega arith) (4 * w) (omega arith) in
      let up = times_up p few in
      rw (list_back q few)
      (word_back f (data_page p (T + q) * p + x) (directory_numbers p sizes) w
      (λ j n.
      let place : data_page p (T + q) * p + x + j ≡ data_page p (T + q) * p + (x + j) = omega arith in
      let inside : (T + q) * p + (x + j) ≡ T * p + (4 * w + j) = omega (arith, add-mul T q p) in
      ap f place
      ∙ data_back a h (T + q) (x + j) (data_used a (T + q) (omega arith)) (omega arith)
      ∙ ap (data_byte p sizes bytes) inside
      ∙ data_directory p (big a) sizes bytes (4 * w + j) (omega arith))
      small)

  pub count_back : directory_word f p 0 ≡ length sizes
  count_back = numbers_back 0 (omega arith) (let s = (plan a).small in omega arith)

  pub size_back : (k : ℕ) → k < length sizes → size_at f p k ≡ get_or sizes k 0
  size_back k l =
      let next : 1 + k ≡ suc k = omega arith in
      let number : get_or (directory_numbers p sizes) (1 + k) 0 ≡ get_or sizes k 0 = rw next (get_or-append sizes _ 0 k l) in
      numbers_back (1 + k) (omega arith) (rw number (a.words k l)) ∙ number

  -- the streams' page numbers
  pub entry_back : (i : ℕ) → i < stream_pages p sizes → directory_word f p (1 + length sizes + i) ≡ data_page p i
  entry_back i l =
      let next : 1 + length sizes + i ≡ suc (length sizes + i) = omega arith in
      let number : get_or (directory_numbers p sizes) (1 + length sizes + i) 0 ≡ data_page p i =
      rw next (get_or-append-add sizes _ i 0 ∙ pages_at_lem p 0 (stream_pages p sizes) i l ∙ ap (data_page p) (zero-add i)) in
      numbers_back (1 + length sizes + i) (omega arith) (rw number (data_word a i (omega arith))) ∙ number

  pub before_back : (k : ℕ) → k ≤ length sizes → pages_before f p k ≡ pages_up_to p sizes k
  unfolding pages_before pages_up_to
  before_back zero l = refl
  before_back (suc k) l = rw (before_back k (omega arith), size_back k l)

pub header_words : HeaderWords
header_words = record { words = λ f len p sizes bytes a h. words_back a h }
