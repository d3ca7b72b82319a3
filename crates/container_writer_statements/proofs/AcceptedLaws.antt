-- What is known of an input that is accepted, and of a file that holds what is written: the layout's bounds, and the bytes
-- of the header's page and of each data page.
use mathlib.Core.Path.{◌≡◌, ◌∙◌, ap}
use mathlib.Core.List.{List}
use Prim.Native.Nat.{ℕ, ◌+◌, ◌*◌, ◌/◌, ◌%◌, ◌^◌, ◌≤◌, ◌<◌}
use native.Mathlib.Omega.{arith}
use native.Mathlib.Nat.{le-max_left, le-max_right, add-mul, div-add-mod', mod-lt}
use lib.ListN.{length}
use Rattle.parse_buffer.specs.Bytes.{File}
use Rattle.paged.specs.PageSize.{need}
use Rattle.paged.specs.Pages.{through}
use Rattle.paged.proofs.SizeLaws.{need_covers}
use Rattle.header.specs.Header.{header_block}
use Rattle.container_layout.specs.Place.{data_page}
use Rattle.container_layout.specs.Layout.{stream_pages, directory_pages, location_page, pages_used, file_length}
use Rattle.container_layout.specs.Container.{header_byte, data_byte}
use Rattle.container_layout.proofs.PlaceLaws.{times_up, times_le, data_rises_le}
use Rattle.container_layout.proofs.PlannedLaws.{Plan, plan_of}
use Rattle.container_layout.proofs.LayoutLaws.{directory_some, used_small}
use Rattle.container_layout.proofs.ContainerLaws.{container_header, container_data}
use Rattle.container_writer_statements.specs.Accepted.{Accepted, Holds}

-- ---- the layout's bounds
module _ {p : ℕ} {sizes : List ℕ} {given : ℕ} (a : Accepted p sizes given) where
  pub plan : Plan p sizes given
  plan = (plan_of p sizes given a.plan).0

  pub large : 0x100 ≤ p
  large = plan.size.least

  pub big : 3 ≤ p
  big = let l = large in omega arith

  pub some : 0 < directory_pages p sizes
  some = directory_some p sizes plan.size

  pub used_word : pages_used p sizes < 2 ^ 32
  used_word = used_small p sizes plan.size plan.small

  pub used_block : need p header_block ≤ pages_used p sizes
  used_block = le-max_right _ _

  pub last_used : location_page p sizes < pages_used p sizes
  last_used = let l = le-max_left (location_page p sizes + 1) (need p header_block) in omega arith

  -- the file has at least the header block's bytes
  pub block_within : header_block ≤ file_length p sizes
  block_within =
      let l = large in
      omega (arith, need_covers p header_block (omega arith), times_le p used_block)

  -- a page that is used lies in the file
  pub page_within : (n x : ℕ) → n < pages_used p sizes → x ≤ p → n * p + x ≤ file_length p sizes
  page_within n x l h = omega (arith, times_up p l)

  -- ---- the data pages of the streams, the directory and the location list
  module _ (r : ℕ) (l : r ≤ stream_pages p sizes + directory_pages p sizes) where
    pub data_used : data_page p r < pages_used p sizes
    data_used = omega (arith, data_rises_le p big r _ l, last_used)

    pub data_word : data_page p r < 2 ^ 32
    data_word = omega (arith, data_used, used_word)

    pub data_within : (x : ℕ) → x ≤ p → data_page p r * p + x ≤ file_length p sizes
    data_within x h = page_within (data_page p r) x data_used h

-- ---- the bytes of a file that holds what is written
module _ {p : ℕ} {sizes bytes : List ℕ} (a : Accepted p sizes (length bytes)) {f : File} {len : ℕ} (h : Holds f len p sizes bytes) where
  pub header_back : (i : ℕ) → i < p → f i ≡ header_byte p sizes i
  header_back i l =
      let first = page_within a 0 p (let u = last_used a in omega arith) (omega arith) in
      h.byte i (omega arith) ∙ container_header p (big a) sizes bytes i l

  pub data_back : (r x : ℕ) → data_page p r < pages_used p sizes → x < p → f (data_page p r * p + x) ≡ data_byte p sizes bytes (r * p + x)
  data_back r x m l =
      let w = page_within a (data_page p r) (x + 1) m (omega arith) in
      h.byte (data_page p r * p + x) (omega arith) ∙ container_data p (big a) sizes bytes r x l

  -- byte i of the pages from the r-th data page on
  pub through_back : (r i : ℕ) → r + i / p ≤ stream_pages p sizes + directory_pages p sizes → f (through p (λ j. data_page p (r + j)) i) ≡ data_byte p sizes bytes (r * p + i)
  through_back r i l =
      let m = large a in
      let whole = div-add-mod' i p in
      let at : (r + i / p) * p + i % p ≡ r * p + i = omega (arith, add-mul r (i / p) p) in
      data_back (r + i / p) (i % p) (data_used a (r + i / p) l) (mod-lt i (omega arith)) ∙ ap (data_byte p sizes bytes) at
