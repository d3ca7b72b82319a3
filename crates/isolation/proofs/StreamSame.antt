-- Mapping and extraction, stage by stage, in the way of `Same`.
use mathlib.Core.Path.{◌≡◌, refl, ◌∙◌, ap}
use Prim.Native.Nat.{ℕ, zero, suc, ◌+◌, ◌/◌, ◌≤◌, ◌<◌}
use native.Mathlib.Omega.{arith}
use native.Mathlib.Nat.{le_refl}
use borrow.Author.Tests.{leb-true, ltb-true, le-leb}
use Rattle.std.specs.Prelude.{Ok, Option}
use Rattle.outcome.proofs.OutcomeLaws.{passed, came, came_by, ok_is, bind_same, then_same}
use Rattle.parse_buffer.specs.Bytes.{File}
use Rattle.paged.specs.Pages.{through, directory_word}
use Rattle.paged.proofs.SizeLaws.{need_index}
use Rattle.header.specs.declared.Header.{Header}
use Rattle.header.specs.Header.{words}
use Rattle.directory.specs.Directory.{reached}
use Rattle.stream.specs.Stream.{size_at, pages_before, own_page, own_pages, present, skipped_to, found}
use Rattle.stream.specs.declared.Present.{Present}
use Rattle.stream.specs.declared.Found.{Found}
use Rattle.stream.proofs.FindLaws.{skipped_at, found_at}
use Rattle.slices.specs.Slices.{continues, slices_of}
use Rattle.extent.specs.Extent.{Asked, asked, readable}
use Rattle.mapping.specs.Mapping.{slices_in, mapping}
use Rattle.msf.specs.Extraction.{bytes_through, bytes_in, extraction}
use Rattle.extent.proofs.ExtentLaws.{asked_at, readable_at}
use Rattle.mapping.proofs.MappingLaws.{mapping_at}
use Rattle.container_statements.proofs.Statements.{large}
use Rattle.isolation.specs.Listed.{ListedCount, ListedMap, ListedBytes, Agree}
use Rattle.isolation.proofs.NamedExactly.{is_named, few}
use Rattle.isolation.proofs.Same.{check_same, lies_same, reached_same, held_same, count_same}

-- ---- the slices of equal pages
continues_same : {p q : ℕ → ℕ} (n : ℕ) → ((j : ℕ) → j < suc n → p j ≡ q j) → continues p n ≡ continues q n
continues_same zero h = refl
continues_same (suc n) h = rw (h n (omega arith), h (suc n) (omega arith))

pub slices_same : (size : ℕ) {p q : ℕ → ℕ} (n : ℕ) → ((j : ℕ) → j < n → p j ≡ q j) → slices_of size p n ≡ slices_of size q n
unfolding slices_of
slices_same size zero h = refl
slices_same size (suc n) h = rw (slices_same size n (λ j l. h j (omega arith)), continues_same n h, h n (omega arith))

-- ---- mapping
module _ (f g : File) (len k : ℕ) (agree : Agree (ListedMap f len k) f g) where
  counts : Agree (ListedCount f len) f g
  counts i l = agree i (ListedMap.counting l)

  module _ {h : Header} (d : reached f len ≡ Ok h) (l : k < directory_word f h.pagesize 0) (t : 2 + k ≤ words h) where
    size_same : (j : ℕ) → j ≤ k → size_at f h.pagesize j ≡ size_at g h.pagesize j
    size_same j m =
        held_same f g len counts d (1 + j) (omega arith) (λ i w. agree i (ListedMap.sizes {j = j} d (omega arith) (omega arith) (omega (arith, le-leb)) w))

    before_same : (j : ℕ) → j ≤ k → pages_before f h.pagesize j ≡ pages_before g h.pagesize j
    unfolding pages_before
    before_same zero m = refl
    before_same (suc j) m = rw (before_same j (omega arith), size_same j (omega arith))

  sized_same : present f len k ≡ present g len k
  unfolding present
  sized_same =
      bind_same (reached_same f g len counts) λ h d.
      then_same refl λ _ t.
      rw (← count_same f g len counts d (passed _ _ t))
      (then_same refl λ _ l.
      then_same refl λ _ t'.
      rw (← size_same d (ltb-true _ _ (passed _ _ l)) (leb-true _ _ (passed _ _ t')) k (le_refl k))
      refl)

  sized_before : {x : Present} → present f len k ≡ Ok x → pages_before f x.header.pagesize k ≡ pages_before g x.header.pagesize k
  unfolding present
  sized_before {x} e =
      came_by _ _ e λ h d e₁.
      came _ _ e₁ λ _ _ e₂.
      came _ _ e₂ λ _ l e₃.
      came _ _ e₃ λ _ t e₄.
      came _ _ e₄ λ _ _ e₅.
      let same : h ≡ x.header = ap (λ (z : Present). z.header) (ok_is e₅) in
      rw (← same) (before_same d (ltb-true _ _ (passed _ _ l)) (leb-true _ _ (passed _ _ t)) k (le_refl k))

  listed_same : skipped_to f len k ≡ skipped_to g len k
  unfolding skipped_to
  listed_same = bind_same sized_same λ x s. rw (sized_before s)

  module _ {x : Found} (s : skipped_to f len k ≡ Ok x) where
    own_same : (j : ℕ) → j < own_pages x → x.first + j < words x.header → own_page f x j ≡ own_page g x j
    own_same j l t =
        held_same f g len counts (skipped_at f len k s).reached (x.first + j) t
        (λ i w. agree i (ListedMap.pages {j = j} s (omega arith) (omega (arith, le-leb)) w))

  found_same : found f len k ≡ found g len k
  unfolding found
  found_same =
      bind_same listed_same λ x s.
      then_same (check_same _ _ (λ j l. own_same s j (omega arith) (omega arith))) λ _ _.
      refl

  pub asked_same : (limit : Option ℕ) → asked f len k limit ≡ asked g len k limit
  unfolding asked
  asked_same limit = rw found_same

  module _ (limit : Option ℕ) {x : Asked} (p : asked f len k limit ≡ Ok x) where
    pub page_same : (j : ℕ) → j < own_pages x.found → own_page f x.found j ≡ own_page g x.found j
    page_same j l =
        let at = found_at f len k (asked_at f len k limit p).found in
        let inside = at.inside in
        own_same at.skipped j l (omega arith)

    pub slices_in_same : slices_in f x ≡ slices_in g x
    slices_in_same = rw (slices_same x.found.header.pagesize (own_pages x.found) page_same)

  pub mapping_same : (limit : Option ℕ) (room : ℕ) → mapping f len k limit room ≡ mapping g len k limit room
  unfolding mapping
  mapping_same limit room = bind_same (asked_same limit) λ x p. rw (slices_in_same limit p)

  pub mapped_slices : (limit : Option ℕ) (room : ℕ) {x : Asked} → mapping f len k limit room ≡ Ok x → slices_in f x ≡ slices_in g x
  mapped_slices limit room m = slices_in_same limit (mapping_at f len k limit room m).asked

-- ---- extraction
through_same : (f g : File) (p : ℕ) (a b : ℕ → ℕ) (n : ℕ) → ((i : ℕ) → i < n → f (through p a i) ≡ g (through p b i)) → bytes_through f p a n ≡ bytes_through g p b n
unfolding bytes_through
through_same f g p a b zero h = refl
through_same f g p a b (suc n) h = rw (through_same f g p a b n (λ i l. h i (omega arith)), h n (omega arith))

module _ (f g : File) (len k : ℕ) (limit : Option ℕ) (agree : Agree (ListedBytes f len k limit) f g) where
  maps : Agree (ListedMap f len k) f g
  maps i l = agree i (ListedBytes.mapping l)

  pub readable_same : readable f len k limit ≡ readable g len k limit
  unfolding readable
  readable_same =
      bind_same (asked_same f g len k maps limit) λ x p.
      then_same (lies_same _ _ _ _ (λ j l. let m = few f len k limit p in page_same f g len k maps limit p j (omega arith))) λ _ _.
      refl

  pub bytes_in_same : {x : Asked} → readable f len k limit ≡ Ok x → bytes_in f x ≡ bytes_in g x
  bytes_in_same {x} r =
      let p = (readable_at f len k limit r).asked in
      through_same f g x.found.header.pagesize (own_page f x.found) (own_page g x.found) x.length (λ i l.
      let m = few f len k limit p in
      let n = need_index x.found.header.pagesize x.length (large f len k limit p) i l in
      rw (← page_same f g len k maps limit p (i / x.found.header.pagesize) (omega arith))
      (agree _ (ListedBytes.bytes {x = x} (cc) (is_named f len k limit p i l))))

  pub extraction_same : (room : ℕ) → extraction f len k limit room ≡ extraction g len k limit room
  unfolding extraction
  extraction_same room = rw readable_same

  pub extracted_bytes : (room : ℕ) {x : Asked} → extraction f len k limit room ≡ Ok x → bytes_in f x ≡ bytes_in g x
  unfolding extraction
  extracted_bytes room e =
      came_by _ _ e λ y r e₁.
      came _ _ e₁ λ _ _ e₂.
      bytes_in_same (r ∙ e₂)
