-- Opening a file that holds what is written, and reaching its directory: every test passes, since each page number read is
-- that of a data page, which is below pages_used and lies in the file.
use mathlib.Core.Path.{◌≡◌, sym, ◌∙◌, ap}
use mathlib.Core.Bool.{Bool, true}
use mathlib.Core.List.{List}
use Prim.Native.Nat.{ℕ, suc, ◌+◌, ◌*◌, ◌≤◌, ◌<◌}
use native.Mathlib.Omega.{arith}
use native.Mathlib.Nat.{zero-add, add-zero}
use borrow.Author.Tests.{le-leb, lt-ltb}
use lib.ListN.{length}
use Rattle.std.specs.Prelude.{Ok}
use Rattle.outcome.specs.Outcome.{and_next, and_then, require}
use Rattle.outcome.specs.Each.{each}
use Rattle.outcome.proofs.EachLaws.{each_none, each_run}
use Rattle.parse_buffer.specs.Bytes.{File, byte_at}
use Rattle.paged.specs.PageSize.{need}
use Rattle.paged.specs.Pages.{location}
use Rattle.paged.specs.Checks.{check_pages, wanted, lies_in_file}
use Rattle.paged.proofs.SizeLaws.{need_index, need_least}
use Rattle.paged.proofs.FitLaws.{fits_by}
use Rattle.header.specs.Header.{big_magic, stands_at, header_block, header_at, words, sized, headed, located, opening}
use Rattle.header.proofs.BlockLaws.{stands_same}
use Rattle.header.specs.declared.Header.{Header}
use Rattle.directory.specs.Directory.{listed, reached, holds, stream_count}
use Rattle.container_layout.specs.Place.{data_page}
use Rattle.container_layout.specs.Layout.{stream_pages, directory_size, directory_pages, pages_used, file_length}
use Rattle.container_layout.proofs.PlaceLaws.{data_least}
use Rattle.container_layout.proofs.ContainerLaws.{header_magic}
use Rattle.container_writer_statements.specs.Accepted.{Accepted, Holds}
use Rattle.container_writer_statements.proofs.AcceptedLaws.{plan, large, big, some, block_within, data_used, data_within, header_back}
use Rattle.container_writer_statements.proofs.WordsBack.{words_back, location_back, list_back, count_back}

-- ---- places that all pass
all_pass : {E : Type 0} (fine : ℕ → Bool) (why : ℕ → E) (n : ℕ) → ((j : ℕ) → j < n → fine j ≡ true) → each fine why n ≡ Ok tt
all_pass fine why n h =
    rw zero-add at (each_run fine why 0 n (each_none fine why) (λ j l. rw zero-add (h j l)))

-- ---- the tests on the numbers of data pages, from the r-th on
module _ {p : ℕ} {sizes : List ℕ} {given : ℕ} (a : Accepted p sizes given) {page : ℕ → ℕ} (r n : ℕ) (is : (j : ℕ) → j < n → page j ≡ data_page p (r + j)) (within : r + n ≤ suc (stream_pages p sizes + directory_pages p sizes)) where
  pub pages_fit : check_pages (pages_used p sizes) page n ≡ Ok tt
  pages_fit =
      all_pass _ _ n λ j l.
      let d = data_least p (big a) (r + j) in
      let u = data_used a (r + j) (omega arith) in
      rw (is j l) (sym (fits_by _ _ (λ z. omega arith)) ∙ lt-ltb _ _ u)

  pub pages_lie : (len bytes : ℕ) → file_length p sizes ≤ len → lies_in_file len p page bytes n ≡ Ok tt
  pages_lie len bytes long =
      all_pass _ _ n λ j l.
      let w = data_within a (r + j) (omega arith) (wanted p bytes j) (omega arith) in
      rw (is j l) (le-leb _ len (omega arith))

module _ {p : ℕ} {sizes bytes : List ℕ} (a : Accepted p sizes (length bytes)) {f : File} {len : ℕ} (h : Holds f len p sizes bytes) where
  -- ---- steps 1 and 2
  abbrev pub header_of : Header
  header_of = record { pagesize = p; used = pages_used p sizes; directory = directory_size p sizes }

  magic_back : stands_at f 0 big_magic ≡ true
  unfolding stands_at
  magic_back =
      stands_same {g = byte_at big_magic} 0 big_magic
      (λ i _ l. header_back a h i (let m = large a in omega arith) ∙ header_magic p sizes i (omega arith))

  header_is : header_at f ≡ header_of
  header_is = let w = words_back a h in rw (w.size, w.used, w.directory)

  sized_back : sized header_of ≡ Ok header_of
  unfolding sized require and_next
  sized_back = rw (plan a).size.fits

  headed_back : headed f len ≡ Ok header_of
  unfolding headed require and_next
  headed_back =
      rw (le-leb header_block len (omega (arith, h.long, block_within a)), magic_back) (ap sized header_is ∙ sized_back)

  -- ---- step 3: there is one location page
  one_page : need p (4 * directory_pages p sizes) ≡ 1
  one_page =
      let m = large a in
      let few = (plan a).list in
      let d = some a in
      omega (arith, need_index p (4 * directory_pages p sizes) (omega arith) 0 (omega arith), need_least p (4 * directory_pages p sizes) (omega arith) 1 (omega arith))

  location_is : (j : ℕ) → j < 1 → location f j ≡ data_page p (stream_pages p sizes + directory_pages p sizes + j)
  location_is j l =
      let first : j ≡ 0 = omega arith in
      rw (first, add-zero) (location_back a h)

  pub located_back : located f len ≡ Ok header_of
  unfolding located require and_then and_next
  located_back =
      rw (headed_back, one_page, pages_fit a (stream_pages p sizes + directory_pages p sizes) 1 location_is (omega arith))

  pub opening_back : opening f len ≡ Ok (record { pagesize = p; used = pages_used p sizes })
  unfolding opening and_then
  opening_back = rw located_back

  -- ---- steps 4 and 5
  pub reached_back : reached f len ≡ Ok header_of
  unfolding listed reached and_then and_next
  reached_back =
      rw (
        located_back,
        one_page,
        pages_lie a (stream_pages p sizes + directory_pages p sizes) 1 location_is (omega arith) len (4 * directory_pages p sizes) h.long,
        pages_fit a (stream_pages p sizes) (directory_pages p sizes) (list_back a h) (omega arith),
        pages_lie a (stream_pages p sizes) (directory_pages p sizes) (list_back a h) (omega arith) len (directory_size p sizes) h.long,
      )

  -- ---- the stream count: the directory has so many words
  pub holds_back : (w : ℕ) → w ≤ 1 + length sizes + stream_pages p sizes → holds header_of w ≡ true
  holds_back w l = le-leb w (words header_of) (omega arith)

  pub stream_count_back : stream_count f len ≡ Ok (length sizes)
  unfolding stream_count require and_then and_next
  stream_count_back = rw (reached_back, holds_back 1 (omega arith), count_back a h)
