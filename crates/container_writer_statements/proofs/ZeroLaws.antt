-- Unused bytes are 0: those of numbers past the last one of a list, those past a stream's own in its pages, and those of
-- padding pages.
use mathlib.Core.Path.{◌≡◌, ◌∙◌}
use mathlib.Core.List.{List}
use Prim.Native.Nat.{ℕ, ◌+◌, ◌-◌, ◌*◌, ◌/◌, ◌≤◌, ◌<◌}
use native.Mathlib.Omega.{arith}
use native.Mathlib.Nat.{div-lt_iff_lt-mul}
use lib.ListN.{length, get_or, length-append}
use Rattle.parse_buffer.specs.Bytes.{File}
use Rattle.paged.specs.Pages.{through}
use Rattle.stream.specs.Stream.{pages_of}
use Rattle.container_layout.specs.Place.{data_page}
use Rattle.container_layout.specs.Layout.{present_bytes, pages_up_to, stream_pages, directory_size, directory_pages, location_page}
use Rattle.container_layout.specs.Container.{header_numbers, directory_numbers, location_numbers}
use Rattle.container_layout.proofs.PlaceLaws.{pages_length}
use Rattle.container_layout.proofs.LayoutLaws.{pages_next, pages_rise}
use Rattle.container_layout.proofs.PlannedLaws.{number_past, padding_zero}
use Rattle.container_layout.proofs.ContainerLaws.{header_number, stream_past, data_stream, data_directory, data_location}
use Rattle.container_writer_statements.specs.Accepted.{Accepted, Holds}
use Rattle.container_writer_statements.specs.Roles.{padding, Has}
use Rattle.container_writer_statements.specs.Contents.{Zeros}
use Rattle.container_writer_statements.proofs.AcceptedLaws.{plan, large, big, last_used, page_within, header_back, data_back, through_back}

module _ {p : ℕ} {sizes bytes : List ℕ} (a : Accepted p sizes (length bytes)) {f : File} {len : ℕ} (h : Holds f len p sizes bytes) where
  header_zero : (i : ℕ) → 56 ≤ i → i < p → f i ≡ 0
  header_zero i l m =
      header_back a h i m ∙ header_number p sizes i (omega arith) ∙ number_past (header_numbers p sizes) (i - 32) (omega arith)

  stream_zero_lem : (k i : ℕ) → k < length sizes → present_bytes (get_or sizes k 0) ≤ i → i < pages_of p (get_or sizes k 0) * p → f (through p (λ j. data_page p (pages_up_to p sizes k + j)) i) ≡ 0
  stream_zero_lem k i l m w =
      let big_p = large a in
      let j : i / p < pages_of p (get_or sizes k 0) = (div-lt_iff_lt-mul {k = p} (omega arith)).1 w in
      through_back a h (pages_up_to p sizes k) i (omega (arith, pages_next sizes p k, pages_rise sizes p (k + 1) (length sizes) (omega arith)))
      ∙ data_stream p (big a) sizes bytes k l i w
      ∙ stream_past sizes bytes k i m

  directory_zero : (i : ℕ) → directory_size p sizes ≤ i → i < directory_pages p sizes * p → f (through p (λ j. data_page p (stream_pages p sizes + j)) i) ≡ 0
  directory_zero i m w =
      let big_p = large a in
      let j : i / p < directory_pages p sizes = (div-lt_iff_lt-mul {k = p} (omega arith)).1 w in
      let numbers : length (directory_numbers p sizes) ≡ 1 + length sizes + stream_pages p sizes =
      rw (length-append, pages_length) (omega arith) in
      through_back a h (stream_pages p sizes) i (omega arith)
      ∙ data_directory p (big a) sizes bytes i w
      ∙ number_past (directory_numbers p sizes) i (omega arith)

  location_zero : (i : ℕ) → 4 * directory_pages p sizes ≤ i → i < p → f (location_page p sizes * p + i) ≡ 0
  location_zero i l m =
      data_back a h (stream_pages p sizes + directory_pages p sizes) i (last_used a) m
      ∙ data_location p (big a) sizes bytes i
      ∙ number_past (location_numbers p sizes) i (omega (arith, pages_length p (stream_pages p sizes) (directory_pages p sizes)))

  page_zero : (n x : ℕ) → Has p sizes padding n → x < p → f (n * p + x) ≡ 0
  page_zero n x g l =
      let w = page_within a n (x + 1) g.1 (omega arith) in
      h.byte (n * p + x) (omega arith) ∙ padding_zero sizes bytes (plan a).size n g.0 g.1 (plan a).list x l

pub zeros : Zeros
zeros =
    record {
      unused = λ f len p sizes bytes a h.
          record {
            header_rest = header_zero a h;
            stream_rest = stream_zero_lem a h;
            directory_rest = directory_zero a h;
            location_rest = location_zero a h;
            padding_page = page_zero a h;
          };
    }
