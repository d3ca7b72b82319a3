-- The free map: the byte and the bit that the request names for page n are those whose test is page n's; and the page after
-- each map page is zeros.
use mathlib.Core.Path.{◌≡◌, ◌∙◌, ap}
use mathlib.Core.Bool.{cond}
use mathlib.Core.List.{List}
use Prim.Native.Nat.{ℕ, ◌+◌, ◌*◌, ◌/◌, ◌%◌, ◌<◌}
use native.Mathlib.Omega.{arith}
use native.Mathlib.Nat.{mod-lt, div-add-mod'}
use lib.ListN.{length}
use Rattle.parse_buffer.specs.Bytes.{File}
use Rattle.container_layout.specs.Place.{pages_with}
use Rattle.container_layout.specs.Layout.{stream_pages, directory_pages, location_page, pages_used, is_padding}
use Rattle.container_layout.specs.Container.{map_byte, data_byte}
use Rattle.container_layout.proofs.PlaceLaws.{times_up, data_least}
use Rattle.container_layout.proofs.ContainerLaws.{padding_yes, padding_not, with_map, with_zero, container_pages}
use Rattle.container_writer_statements.specs.Accepted.{Accepted, Holds}
use Rattle.container_writer_statements.specs.Contents.{map_page, bit_of, FreeMap}
use Rattle.container_writer_statements.proofs.AcceptedLaws.{large, big, last_used, page_within}
use Rattle.container_writer_statements.proofs.ByteLaws.{map_bit}

module _ {p : ℕ} {sizes : List ℕ} {given : ℕ} (a : Accepted p sizes given) where
  map_within : (n : ℕ) → n < pages_used p sizes → map_page p n < pages_used p sizes
  map_within n l =
      let whole = div-add-mod' n (8 * p) in
      let u = last_used a in
      let d = data_least p (big a) (stream_pages p sizes + directory_pages p sizes) in
      omega arith

-- ---- the bytes of the map pages, and of the pages after them
module _ {p : ℕ} {sizes bytes : List ℕ} (a : Accepted p sizes (length bytes)) {f : File} {len : ℕ} (h : Holds f len p sizes bytes) where
  page_back : (n x : ℕ) → 0 < n → n < pages_used p sizes → x < p → f (n * p + x) ≡ pages_with p (map_byte p (location_page p sizes) (pages_used p sizes)) (data_byte p sizes bytes) (n * p + x)
  page_back n x s l m =
      let w = page_within a n (x + 1) l (omega arith) in
      let up = times_up p s in
      h.byte (n * p + x) (omega arith) ∙ container_pages p (big a) sizes bytes (n * p + x) (omega arith)

  bit_back : (n : ℕ) → map_page p n < pages_used p sizes → bit_of f p n ≡ cond (is_padding (location_page p sizes) (pages_used p sizes) n) 1 0
  bit_back n l =
      let m = large a in
      let q : ℕ = n / (8 * p) in
      let x : ℕ = n % (8 * p) / 8 in
      let whole : q * (8 * p) + n % (8 * p) ≡ n = div-add-mod' n (8 * p) in
      let rest : n % (8 * p) < 8 * p = mod-lt n (omega arith) in
      let inside : x < p = omega arith in
      let at : 1 + p * q ≡ q * p + 1 = omega arith in
      let number : 8 * (q * p + x) + n % 8 ≡ n = omega arith in
      let byte : f ((1 + p * q) * p + x) ≡ map_byte p (location_page p sizes) (pages_used p sizes) q x =
      page_back (1 + p * q) x (omega arith) l inside ∙ rw at (with_map p (big a) _ _ x inside q) in
      rw byte (map_bit p (location_page p sizes) (pages_used p sizes) q x (n % 8) (omega arith) ∙ rw number)

  zero_back : (n x : ℕ) → n < pages_used p sizes → x < p → n % p ≡ 2 → f (n * p + x) ≡ 0
  zero_back n x l m e =
      let whole = div-add-mod' n p in
      let at : n ≡ n / p * p + 2 = omega arith in
      page_back n x (omega arith) l m
      ∙ ap (λ i. pages_with p (map_byte p (location_page p sizes) (pages_used p sizes)) (data_byte p sizes bytes) (i * p + x)) at
      ∙ with_zero p (big a) _ _ x m (n / p)

pub free_map : FreeMap
free_map =
    record {
      bits = λ f len p sizes bytes a h.
          record {
            within = map_within a;
            free = λ n l g. bit_back a h n l ∙ rw (padding_yes (location_page p sizes) (pages_used p sizes) n g.0 g.1);
            taken = λ n l g. bit_back a h n l ∙ rw (padding_not (location_page p sizes) (pages_used p sizes) n g);
            zeros = zero_back a h;
          };
    }
