-- Where what is listed stands, in file F and in F with a shorter directory: by F's words, computed once, and by what a stage
-- that passed says of the header and the stream.
use mathlib.Core.Path.{◌≡◌, refl, sym, ◌∙◌, ap}
use mathlib.Core.Bool.{true, false}
use mathlib.Core.Logic.{⊎_elim}
use Prim.Native.Nat.{ℕ, ◌+◌, ◌-◌, ◌*◌, ◌/◌, ◌%◌, ◌≤◌, ◌<◌}
use native.Mathlib.Omega.{arith}
use borrow.Author.Tests.{ltb-true, not-true}
use lib.Count
use lib.Dec.{eqb}
use Rattle.std.specs.Prelude.{Ok}
use Rattle.outcome.specs.Outcome.{and_next, and_then, require}
use Rattle.outcome.proofs.OutcomeLaws.{below_or, came, came_by, ok_is, passed}
use Rattle.parse_buffer.specs.Bytes.{File, word}
use Rattle.paged.specs.PageSize.{size_is_fit, need}
use Rattle.paged.specs.Pages.{through, location, directory_page, directory_word}
use Rattle.paged.proofs.SizeLaws.{need_least}
use Rattle.header.specs.Header.{big_magic, stands_at, sized, headed, located, directory_pages, location_pages, words}
use Rattle.header.specs.declared.Header.{Header}
use Rattle.header.proofs.OpenLaws.{is_located}
use Rattle.directory.proofs.DirectoryLaws.{reached_at}
use Rattle.stream.specs.Stream as stream
use Rattle.stream.specs.Stream.{absent, size_at, pages_of, pages_before, first_of, own_page, skipped_to}
use Rattle.stream.specs.declared.Found.{Found}
use Rattle.container_statements.specs.FileF.{file_f, F}
use Rattle.isolation.specs.Listed.{entry_place, word_place}
use Rattle.isolation.specs.Tight.{changed}

abbrev pub header_f : ℕ → Header
header_f n = record { pagesize = 256; used = 24; directory = n }

-- F, but for a directory of n bytes
pub record Like (g : File) (n : ℕ) : Type 0 where
  pub big : stands_at g 0 big_magic ≡ true
  pub headed : headed g 6144 ≡ Ok (header_f n)
  pub list : location g 0 ≡ 3
  pub directory : directory_page g 256 0 ≡ 4
  pub count : directory_word g 256 0 ≡ 3
  pub size_0 : size_at g 256 0 ≡ 300
  pub size_1 : size_at g 256 1 ≡ absent
  pub size_2 : size_at g 256 2 ≡ 600
  pub entries_0 : (directory_word g 256 4 ≡ 20) × (directory_word g 256 5 ≡ 21)
  pub entries_2 : (directory_word g 256 6 ≡ 10) × (directory_word g 256 7 ≡ 11) × (directory_word g 256 8 ≡ 5)

pub like_f : Like F 36
unfolding F file_f and_then and_next require word size_is_fit location directory_page directory_word stands_at sized headed Count.ones Count.ones_in
like_f =
    record {
      big = refl;
      headed = refl;
      list = refl;
      directory = refl;
      count = refl;
      size_0 = refl;
      size_1 = refl;
      size_2 = refl;
      entries_0 = (refl, refl);
      entries_2 = (refl, refl, refl);
    }

pub like_short : (n : ℕ) → Like (changed F 44 n) n
unfolding F file_f and_then and_next require word size_is_fit location directory_page directory_word stands_at sized headed Count.ones Count.ones_in
like_short n =
    let word : n + 0 + 0 + 0 ≡ n = omega arith in
    record {
      big = refl;
      headed = ap (λ (d : ℕ). Ok (header_f d)) word;
      list = refl;
      directory = refl;
      count = refl;
      size_0 = refl;
      size_1 = refl;
      size_2 = refl;
      entries_0 = (refl, refl);
      entries_2 = (refl, refl, refl);
    }

module _ {g : File} {n : ℕ} (like : Like g n) (small : n ≤ 36) where
  -- ---- the header, and one page of each list
  pub header_is : {h : Header} → located g 6144 ≡ Ok h → h ≡ header_f n
  header_is o = ok_is (sym (is_located g 6144 o).headed ∙ like.headed)

  pub one_page : directory_pages (header_f n) ≤ 1
  one_page = need_least 256 n (omega arith) 1 (omega arith)

  pub one_location : location_pages (header_f n) ≤ 1
  one_location = let d = one_page in need_least 256 (4 * directory_pages (header_f n)) (omega arith) 1 (omega arith)

  pub entry_at : (j : ℕ) → j < directory_pages (header_f n) → entry_place g (header_f n) j ≡ 768
  entry_at j l =
      let d = one_page in
      let z : j ≡ 0 = omega arith in
      rw (z, like.list)

  pub word_at : (w : ℕ) → w < words (header_f n) → word_place g (header_f n) w ≡ 1024 + 4 * w
  word_at w l =
      let z : 4 * w / 256 ≡ 0 = omega arith in
      let r : 4 * w % 256 ≡ 4 * w = omega arith in
      rw (z, r, like.directory)

  -- ---- the streams
  pub record Is (k : ℕ) (x : Found) : Type 0 where
    pub below : k < 3
    pub present : eqb (size_at g 256 k) absent ≡ false
    pub is : x ≡ record { header = header_f n; size = size_at g 256 k; first = first_of g 256 3 k }

  pub skipped_is : (k : ℕ) {x : Found} → skipped_to g 6144 k ≡ Ok x → Is k x
  unfolding skipped_to stream.present
  skipped_is k {x} e =
      came_by _ _ e λ y s e₁.
      came _ _ e₁ λ _ _ e₂.
      came _ _ e₂ λ _ _ e₃.
      came_by _ _ s λ h d s₁.
      came _ _ s₁ λ _ _ s₂.
      came _ _ s₂ λ _ l s₃.
      came _ _ s₃ λ _ _ s₄.
      came _ _ s₄ λ _ a s₅.
      let same = header_is (reached_at g 6144 d).located in
      let below : k < directory_word g h.pagesize 0 = ltb-true _ _ (passed _ _ l) in
      let present : eqb (size_at g h.pagesize k) absent ≡ false = not-true _ (passed _ _ a) in
      record {
        below = rw (same, like.count) at below;
        present = rw same at present;
        is = rw (← ok_is e₃, ← ok_is s₅, same, like.count) refl;
      }

  -- the two that are there, each with its entries and the places of its bytes
  abbrev pub stream_in : ℕ → ℕ → Found
  stream_in size first = record { header = header_f n; size = size; first = first }

  pub is_0 : {x : Found} → skipped_to g 6144 0 ≡ Ok x → x ≡ stream_in 300 4
  unfolding pages_before
  is_0 e = rw like.size_0 at (skipped_is 0 e).is

  pub is_2 : {x : Found} → skipped_to g 6144 2 ≡ Ok x → x ≡ stream_in 600 6
  unfolding pages_before pages_of need
  is_2 e = simp (like.size_0, like.size_1, like.size_2) at (skipped_is 2 e).is

  pub not_1 : {x : Found} → skipped_to g 6144 1 ≡ Ok x → ⊥
  not_1 e = let p = rw like.size_1 at (skipped_is 1 e).present in let z : ◌≡◌ {A = ℕ} 0 1 = cc in omega arith

  pub place_0 : (j : ℕ) → j < 300 → through 256 (own_page g (stream_in 300 4)) j ≡ 5120 + j
  place_0 j l =
      ⊎_elim
      (λ (m : j < 256). let q : j / 256 ≡ 0 = omega arith in rw (q, like.entries_0.0) (omega arith))
      (λ (m : 256 ≤ j). let q : j / 256 ≡ 1 = omega arith in rw (q, like.entries_0.1) (omega arith))
      (below_or j 256)

  pub place_2 : (j : ℕ) → j < 512 → through 256 (own_page g (stream_in 600 6)) j ≡ 2560 + j
  place_2 j l =
      ⊎_elim
      (λ (m : j < 256). let q : j / 256 ≡ 0 = omega arith in rw (q, like.entries_2.0) (omega arith))
      (λ (m : 256 ≤ j). let q : j / 256 ≡ 1 = omega arith in rw (q, like.entries_2.1) (omega arith))
      (below_or j 256)

  pub last_2 : (j : ℕ) → 512 ≤ j → j < 600 → through 256 (own_page g (stream_in 600 6)) j ≡ 1280 + (j - 512)
  last_2 j l m = let q : j / 256 ≡ 2 = omega arith in rw (q, like.entries_2.2) (omega arith)
