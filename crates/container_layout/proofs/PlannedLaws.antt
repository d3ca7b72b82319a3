-- What is known of a container that can be written, and its padding pages, which are 0.
use mathlib.Core.Path.{◌≡◌, refl, sym, ◌∙◌, ap}
use mathlib.Core.List.{List}
use Prim.Native.Nat.{ℕ, zero, suc, ◌+◌, ◌-◌, ◌*◌, ◌/◌, ◌%◌, ◌^◌, ◌≤◌, ◌<◌}
use native.Mathlib.Omega.{arith}
use native.Mathlib.Nat.{add-mul, mod-eq_of_lt}
use borrow.Author.Tests.{leb-true, eqb-true}
use lib.ListN.{length, get_or-eq_default}
use Rattle.std.specs.Prelude.{Ok}
use Rattle.outcome.proofs.OutcomeLaws.{came, ok_is, passed}
use Rattle.parse_buffer.specs.Bytes.{byte_at, bytes_of}
use Rattle.paged.specs.PageSize.{PageSize}
use Rattle.paged.proofs.SizeLaws.{passes, need_least}
use Rattle.header.specs.Header.{header_block}
use Rattle.container_layout.specs.Place.{rank}
use Rattle.container_layout.specs.Layout.{bytes_up_to, stream_pages, directory_size, directory_pages, location_page, pages_used}
use Rattle.container_layout.specs.Container.{number_bytes, location_numbers, data_byte, container}
use Rattle.container_layout.specs.Planning.{layout_of, planning}
use Rattle.container_layout.specs.declared.layout.Layout.{Layout}
use Rattle.container_layout.proofs.PlaceLaws.{times_up, data_least, data_rank, rank_from, pages_length}
use Rattle.container_layout.proofs.ContainerLaws.{with_page, data_location, container_pages}

-- ---- each line of planning passed
pub record Plan (p : ℕ) (sizes : List ℕ) (given : ℕ) : Type 0 where
  pub size : PageSize p
  pub sum : bytes_up_to sizes (length sizes) ≡ given
  pub list : 4 * directory_pages p sizes ≤ p
  pub small : directory_size p sizes < 2 ^ 32

pub plan_of : (p : ℕ) (sizes : List ℕ) (given : ℕ) {l : Layout} → planning p sizes given ≡ Ok l → Plan p sizes given × (l ≡ layout_of p sizes)
unfolding planning
plan_of p sizes given e =
    came _ _ e λ _ size e₁.
    came _ _ e₁ λ _ sum e₂.
    came _ _ e₂ λ _ list e₃.
    came _ _ e₃ λ _ small e₄.
    came _ _ e₄ λ _ used e₅. (
      record {
        size = passes p (passed _ _ size);
        sum = eqb-true _ _ (passed _ _ sum);
        list = leb-true _ _ (passed _ _ list);
        small = let l : directory_size p sizes ≤ 0xffffffff = leb-true _ _ (passed _ _ small) in omega arith;
      },
      sym (ok_is e₅),
    )

-- ---- numbers end to end, and zeros after them
zero_byte : (j : ℕ) → byte_at (bytes_of 0) j ≡ 0
zero_byte zero = refl
zero_byte (suc zero) = refl
zero_byte (suc (suc zero)) = refl
zero_byte (suc (suc (suc zero))) = refl
zero_byte (suc (suc (suc (suc j)))) = refl

pub number_past : (numbers : List ℕ) (i : ℕ) → 4 * length numbers ≤ i → number_bytes numbers i ≡ 0
number_past numbers i l = rw (get_or-eq_default numbers 0 {n = i / 4} (omega arith)) (zero_byte (i % 4))

-- ---- padding pages: there are some only up to 4,096 bytes, so they have numbers below 16, and none is a map page
module _ {p : ℕ} (sizes bytes : List ℕ) (s : PageSize p) (n : ℕ) (after : location_page p sizes < n) (below : n < pages_used p sizes) where
  big : 3 ≤ p
  big = let l = s.least in omega arith

  few : n < 16
  few =
      let l = s.least in
      let m = need_least p header_block (omega arith) 16 (omega arith) in
      omega arith

  rest : n % p ≡ n
  rest = let l = s.least in mod-eq_of_lt (omega (arith, few))

  pub padding_least : 3 < n
  padding_least = omega (arith, data_least p big (stream_pages p sizes + directory_pages p sizes))

  pub padding_one : n % p ≡ 1 → ⊥
  padding_one e = omega (arith, rest, padding_least)

  pub padding_two : n % p ≡ 2 → ⊥
  padding_two e = omega (arith, rest, padding_least)

  -- it comes after the location page
  pub padding_rank : stream_pages p sizes + directory_pages p sizes < rank p n
  padding_rank =
      let is = data_rank p big n (omega (arith, padding_least)) padding_one padding_two in
      rank_from p big (suc (stream_pages p sizes + directory_pages p sizes)) (rank p n) (omega arith)

  pub padding_zero : 4 * directory_pages p sizes ≤ p → (x : ℕ) → x < p → container p sizes bytes (n * p + x) ≡ 0
  padding_zero one x l =
      let T : ℕ = stream_pages p sizes + directory_pages p sizes in
      let j : ℕ = rank p n - T in
      let r = padding_rank in
      let e : rank p n ≡ T + j = omega arith in
      let at : rank p n * p + x ≡ T * p + (j * p + x) = omega (arith, ap (λ m. m * p) e, add-mul T j p) in
      let first : p ≤ j * p = (let k = times_up p {a = 0} {b = j} (omega arith) in omega arith) in
      let page : p ≤ n * p = (let k = times_up p {a = 0} {b = n} (omega (arith, padding_least)) in omega arith) in
      container_pages p big sizes bytes (n * p + x) (omega arith)
      ∙ with_page p big _ _ x l n padding_one padding_two
      ∙ ap (data_byte p sizes bytes) at
      ∙ data_location p big sizes bytes (j * p + x)
      ∙ number_past (location_numbers p sizes) (j * p + x) (omega (arith, pages_length p (stream_pages p sizes) (directory_pages p sizes)))
