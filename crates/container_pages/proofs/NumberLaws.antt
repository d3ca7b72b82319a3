-- The numbers of the header, the directory and the location list, one by one, and a run of them as bytes.
use mathlib.Core.Path.{◌≡◌, sym, ◌∙◌, ap}
use mathlib.Core.List.{List, ◌++◌}
use Prim.Native.Nat.{ℕ, suc, ◌+◌, ◌-◌, ◌*◌, ◌^◌, ◌≤◌, ◌<◌}
use native.Mathlib.Omega.{arith}
use lib.ListN.{length, get_or, get_or-append}
use lib.Seq.{get_or-append-add}
use mir.Syntax.{w32, w64}
use mir.Val.{Fits}
use Rattle.parse_buffer.specs.Bytes.{bytes_of}
use Rattle.store.specs.Putting.{Putting}
use Rattle.container_layout.specs.Place.{data_page, data_pages}
use Rattle.container_layout.specs.Layout.{stream_pages, directory_pages}
use Rattle.container_layout.specs.Container.{number_bytes, directory_numbers, location_numbers}
use Rattle.container_layout.specs.declared.layout.Layout.{Layout}
use Rattle.container_layout.proofs.PlaceLaws.{pages_at_lem, pages_past}
use Rattle.container_layout.proofs.ContainerLaws.{number_byte}
use Rattle.container_layout.specs.Laid.{Laid}
use Rattle.container_layout.proofs.LaidLaws.{laid_streams, laid_directory, laid_ranks, laid_page}
use Rattle.container_pages.specs.Inner.{Filled, numbers_from}
use Rattle.container_pages.proofs.FillLaws.{filled_none, filled_more, filled_as, filled_put}

-- ---- `directory_number`
module _ (p : ℕ) (sizes : List ℕ) (w : ℕ) where
  pub directory_count : w ≡ 0 → length sizes ≡ get_or (directory_numbers p sizes) w 0
  directory_count e = rw e

  after_count : 0 < w → get_or (directory_numbers p sizes) w 0 ≡ get_or (sizes ++ data_pages p 0 (stream_pages p sizes)) (w - 1) 0
  after_count l =
      let e : w ≡ suc (w - 1) = omega arith in ap (λ (n : ℕ). get_or (directory_numbers p sizes) n 0) e

  pub directory_size_lem : (w ≡ 0 → ⊥) → w ≤ length sizes → get_or sizes (w - 1) 0 ≡ get_or (directory_numbers p sizes) w 0
  directory_size_lem z h =
      let some : 0 < w = omega arith in
      sym (after_count some ∙ get_or-append sizes _ 0 (w - 1) (omega arith))

  after_sizes : length sizes < w → get_or (directory_numbers p sizes) w 0 ≡ get_or (data_pages p 0 (stream_pages p sizes)) (w - 1 - length sizes) 0
  after_sizes h =
      let e : w - 1 ≡ length sizes + (w - 1 - length sizes) = omega arith in
      after_count (omega arith) ∙ ap (λ (n : ℕ). get_or (sizes ++ data_pages p 0 (stream_pages p sizes)) n 0) e ∙ get_or-append-add sizes (data_pages p 0 (stream_pages p sizes)) (w - 1 - length sizes) 0

module _ {l : Layout} {sizes : List ℕ} (d : Laid l sizes) (w : ℕ) where
  pub directory_page_lem : length sizes < w → w - 1 - length sizes < l.streams → {v : ℕ} → v ≡ data_page l.pagesize (w - 1 - length sizes) → v ≡ get_or (directory_numbers l.pagesize sizes) w 0
  directory_page_lem h m e =
      let z : 0 + (w - 1 - length sizes) ≡ w - 1 - length sizes = omega arith in
      let at = pages_at_lem l.pagesize 0 (stream_pages l.pagesize sizes) (w - 1 - length sizes) (omega (arith, laid_streams d)) in
      e ∙ sym (after_sizes l.pagesize sizes w h ∙ at ∙ ap (data_page l.pagesize) z)

  pub directory_past : length sizes < w → l.streams ≤ w - 1 - length sizes → 0 ≡ get_or (directory_numbers l.pagesize sizes) w 0
  directory_past h m =
      sym (after_sizes l.pagesize sizes w h ∙ pages_past l.pagesize 0 (stream_pages l.pagesize sizes) (w - 1 - length sizes) (omega (arith, laid_streams d)))

  -- ---- `location_number`
  pub location_rank : w < l.directory → Fits w64 (l.streams + w)
  location_rank h = record { fits = omega (arith, laid_ranks d) }

  pub location_asks : w < l.directory → l.streams + w < 2 ^ 32
  location_asks h = omega (arith, laid_ranks d)

  module _ (h : w < l.directory) {v : ℕ} (e : v ≡ data_page l.pagesize (l.streams + w)) where
    pub location_fits : Fits w32 v
    location_fits = record { fits = rw e (laid_page d (omega arith)) }

    pub location_page_lem : v ≡ get_or (location_numbers l.pagesize sizes) w 0
    location_page_lem =
        e ∙ rw (laid_streams d) (sym (pages_at_lem l.pagesize (stream_pages l.pagesize sizes) (directory_pages l.pagesize sizes) w (omega (arith, laid_directory d))))

  pub location_past : l.directory ≤ w → 0 ≡ get_or (location_numbers l.pagesize sizes) w 0
  location_past h =
      sym (pages_past l.pagesize (stream_pages l.pagesize sizes) (directory_pages l.pagesize sizes) w (omega (arith, laid_directory d)))

pub page_fits_lem : {l : Layout} {sizes : List ℕ} → Laid l sizes → {r : ℕ} → r < l.streams → {v : ℕ} → v ≡ data_page l.pagesize r → Fits w32 v
page_fits_lem d m e = record { fits = rw e (laid_page d (omega arith)) }

pub ruleset in_directory = (page_fits_lem, directory_count, directory_size_lem, directory_page_lem, directory_past)

pub ruleset in_location = (location_rank, location_asks, location_fits, location_page_lem, location_past)

-- ---- `put_numbers`: j numbers are put
pub record NumbersSoFar (numbers : List ℕ) (first n at : ℕ) (o o₁ : List ℕ) (j place : ℕ) : Type 0 where
  pub filled : Filled (numbers_from numbers first at) o at place o₁
  pub stands : place ≡ at + 4 * j
  pub within : j ≤ n
  pub fits : at + 4 * n ≤ length o

pub numbers_none : (numbers : List ℕ) (first n at : ℕ) (o : List ℕ) → at + 4 * n ≤ length o → NumbersSoFar numbers first n at o o 0 at
numbers_none numbers first n at o h =
    record { filled = filled_none _ o at; stands = omega arith; within = omega arith; fits = h }

module _ {numbers : List ℕ} {first n at : ℕ} {o o₁ : List ℕ} {j place : ℕ} (s : NumbersSoFar numbers first n at o o₁ j place) where
  module _ (l : j < n) where
    pub numbers_room : place + 4 ≤ length o₁
    numbers_room = omega (arith, s.stands, s.fits, s.filled.same)

    pub numbers_small : first + n < 2 ^ 32 → first + j < 2 ^ 32
    numbers_small h = omega arith

    module _ {v : ℕ} (e : v ≡ get_or numbers (first + j) 0) {o₂ : List ℕ} {r : ℕ} (p : Putting (bytes_of v) o₁ place o₂ r) where
      same_bytes : (i : ℕ) → place ≤ i → i < r → get_or (bytes_of v) (i - place) 0 ≡ numbers_from numbers first at i
      same_bytes i a b =
          let y : 4 * first + (i - at) ≡ 4 * (first + j) + (i - place) = omega (arith, s.stands) in
          sym (ap (number_bytes numbers) y ∙ number_byte numbers (first + j) (i - place) (omega (arith, p.place)) ∙ ap (λ (u : ℕ). get_or (bytes_of u) (i - place) 0) (sym e))

      pub numbers_more : NumbersSoFar numbers first n at o o₂ (j + 1) r
      numbers_more =
          record {
            filled = filled_more (omega (arith, s.stands)) (omega (arith, p.place)) s.filled (filled_as same_bytes (filled_put p));
            stands = omega (arith, s.stands, p.place);
            within = omega arith;
            fits = s.fits;
          }

  pub numbers_all : n ≤ j → Filled (numbers_from numbers first at) o at (at + 4 * n) o₁
  numbers_all l =
      let e : place ≡ at + 4 * n = omega (arith, s.stands, s.within) in rw (← e) s.filled

pub ruleset numbers_cases = (numbers_none, numbers_more, numbers_all)
