-- No line of a file of bytes is longer than 80: every number in it is below 2 ^ 32, so it has at most ten digits.
use mathlib.Core.Path.{◌≡◌, refl, ap}
use mathlib.Core.Logic.{⊎_elim}
use Prim.Native.Nat.{ℕ, zero, suc, ◌*◌, ◌/◌, ◌^◌, ◌≤◌, ◌<◌}
use native.Mathlib.Omega.{arith}
use native.Mathlib.Nat.{pow-suc}
use borrow.Author.Tests.{lt-ltb, le-ltb, leb-true}
use lib.Dec.{eqb}
use lib.ListN.{length, length-append}
use Rattle.std.specs.Prelude.{Result, Ok, Err}
use Rattle.outcome.specs.Outcome.{and_then}
use Rattle.outcome.specs.Refusal as paper
use Rattle.outcome.proofs.OutcomeLaws.{by_test, below_or, came, came_by, ok_is, passed, EachRefusal, refuses_none, refuses_by, refuses_then, refuses_require}
use Rattle.outcome.proofs.EachLaws.{refuses_each}
use Rattle.parse_buffer.specs.Bytes.{File, word}
use Rattle.parse_buffer.proofs.WordLaws.{word_small}
use Rattle.paged.specs.Pages.{directory_word}
use Rattle.header.specs.declared.Header.{Header}
use Rattle.header.proofs.OpenLaws.{is_located}
use Rattle.directory.specs.Directory.{reached, stream_count}
use Rattle.directory.proofs.DirectoryLaws.{reached_at}
use Rattle.stream.specs.Stream.{size_at, own_page, own_pages, present, skipped_to, found}
use Rattle.stream.specs.declared.Found.{Found}
use Rattle.stream.proofs.FindLaws.{found_at, present_at}
use Rattle.slices.specs.Slices.{slices_of, cut}
use Rattle.slices.proofs.SliceLaws.{slices_few, cut_few}
use Rattle.extent.specs.Extent.{asked}
use Rattle.mapping.specs.Mapping.{mapped}
use Rattle.listing_text.specs.Text.{spelled, decimal, refusal_text, size_text}
use Rattle.listing_whole.specs.Whole.{stream_limit, listable}
use Rattle.listing_line.specs.Line.{Shown, shown_of, shown, shown_text, line_at}

-- ---- numbers: below 10 ^ d they have at most d digits
spelled_short : (d fuel n : ℕ) → n < 10 ^ suc d → length (spelled fuel n) ≤ suc d
unfolding spelled
spelled_short d zero n l = omega arith
spelled_short zero (suc fuel) n l = rw (lt-ltb n 10 (omega arith)) (omega arith)
spelled_short (suc d) (suc fuel) n l =
    ⊎_elim
    (λ (m : n < 10). rw (lt-ltb n 10 m) (omega arith))
    (λ (m : 10 ≤ n).
    let less : n < 10 ^ suc d * 10 = rw pow-suc at l in
    let rest = spelled_short d fuel (n / 10) (omega arith) in
    rw (le-ltb n 10 m, length-append) (omega arith))
    (below_or n 10)

short : {n : ℕ} → n < 2 ^ 32 → length (decimal n) ≤ 10
short {n} l = spelled_short 9 (suc n) n (omega arith)

-- ---- texts
size_short : (a b : ℕ) → a < 2 ^ 32 → b < 2 ^ 32 → length (size_text a b) ≤ 30
size_short a b l m = let x = short l in let y = short m in simp length-append (omega arith)

abbrev Small : paper.Refusal → Type 0
Small why = (why.number < 2 ^ 32) × (why.value < 2 ^ 32)

refusal_short : (why : paper.Refusal) → Small why → length (refusal_text why) ≤ 30
refusal_short why s = let x = short s.0 in let y = short s.1 in simp length-append (omega arith)

-- ---- a stream has the size that the directory has for it
pub size_is : (f : File) (len k : ℕ) {x : Found} → skipped_to f len k ≡ Ok x → x.size ≡ size_at f x.header.pagesize k
unfolding skipped_to
size_is f len k e =
    came_by _ _ e λ y s e₁.
    came _ _ e₁ λ _ _ e₂.
    came _ _ e₂ λ _ _ e₃.
    rw (← ok_is e₃) (present_at f len k s).size

-- ---- a file of bytes
module _ (f : File) (bytes : (i : ℕ) → f i < 256) where
  directory_small : (p w : ℕ) → directory_word f p w < 2 ^ 32
  unfolding directory_word
  directory_small p w = word_small f bytes _

  -- where the directory is reached: the refusals of finding a stream, and what is found
  module _ (len : ℕ) {h : Header} (d : reached f len ≡ Ok h) (k : ℕ) (few : k < 2 ^ 32) where
    sized_small : EachRefusal Small (present f len k)
    unfolding present and_then
    sized_small =
        rw d
        (refuses_then Small _ _ (refuses_require Small _ _ (omega arith, omega arith))
        (refuses_then Small _ _ (refuses_require Small _ _ (omega arith, omega arith))
        (refuses_then Small _ _ (refuses_require Small _ _ (omega arith, omega arith))
        (refuses_then Small _ _ (refuses_require Small _ _ (omega arith, omega arith)) (refuses_none Small _)))))

    found_small : EachRefusal Small (found f len k)
    unfolding found skipped_to
    found_small =
        refuses_by Small _ _
        (refuses_by Small _ _ sized_small
        (λ y.
        refuses_then Small _ _ (refuses_require Small _ _ (omega arith, omega arith))
        (refuses_then Small _ _ (refuses_require Small _ _ (omega arith, omega arith)) (refuses_none Small _))))
        (λ y.
        refuses_then Small _ _ (refuses_each Small _ _ (λ j. (omega arith, directory_small _ _)) _)
        (refuses_then Small _ _ (refuses_require Small _ _ (omega arith, omega arith)) (refuses_none Small _)))

    size_small : {x : Found} → skipped_to f len k ≡ Ok x → x.size < 2 ^ 32
    size_small e = rw (size_is f len k e) (directory_small _ _)

    pages_small : {x : Found} → found f len k ≡ Ok x → own_pages x < 2 ^ 32
    pages_small {x} e =
        let at = found_at f len k e in
        let inside = at.inside in
        let is = (is_located f len (reached_at f len at.reached).located).is in
        let size : x.header.directory ≡ word f 44 = ap (λ (g : Header). g.directory) is in
        omega (arith, word_small f bytes 44)

    shown_short : (o : Result Found paper.Refusal) → found f len k ≡ o → length (shown_text (shown f len k)) ≤ 30
    unfolding shown_of shown_text mapped asked and_then
    shown_short (Ok x) e =
        let slices = cut_few x.size (slices_of x.header.pagesize (own_page f x) (own_pages x)) in
        let pages = slices_few x.header.pagesize (own_page f x) (own_pages x) in
        let most = pages_small e in
        let text = size_short x.size (length (cut x.size (slices_of x.header.pagesize (own_page f x) (own_pages x)))) (size_small (found_at f len k e).skipped) (omega arith) in
        rw e (omega arith)
    shown_short (Err why) e =
        rw e
        (by_test (λ (s : Shown). length (shown_text s) ≤ 30) (eqb why.number 5)
        (λ _. omega arith)
        (λ _. refusal_short why (found_small why e)))

  -- a file that is listed has its directory, and few streams
  pub line_short : (len n : ℕ) → listable f len ≡ Ok n → (i : ℕ) → i ≤ n → length (line_at f len n i) ≤ 80
  unfolding listable stream_count line_at
  line_short len n e zero l =
      came _ _ e λ _ _ e₁.
      came_by _ _ e₁ λ m _ e₂.
      came _ _ e₂ λ _ _ e₃.
      came _ _ e₃ λ _ few e₄.
      let most : m ≤ stream_limit = leb-true _ _ (passed _ _ few) in
      let same : m ≡ n = ok_is e₄ in
      let number = short {n = n} (omega arith) in
      simp length-append (omega arith)
  line_short len n e (suc k) l =
      came _ _ e λ _ _ e₁.
      came_by _ _ e₁ λ m c e₂.
      came _ _ e₂ λ _ _ e₃.
      came _ _ e₃ λ _ few e₄.
      came_by _ _ c λ h d _.
      let most : m ≤ stream_limit = leb-true _ _ (passed _ _ few) in
      let same : m ≡ n = ok_is e₄ in
      let small : k < 2 ^ 32 = omega arith in
      let number = short {n = k} small in
      let rest = shown_short len d k small (found f len k) refl in
      simp length-append (omega arith)
