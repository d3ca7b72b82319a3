-- Runs: where the entries of a list stand in one page, and what their words are.
use mathlib.Core.Path.{◌≡◌, refl, sym, ap, ◌∙◌}
use Prim.Native.Nat.{ℕ, ◌+◌, ◌-◌, ◌*◌, ◌/◌, ◌%◌, ◌^◌, ◌≤◌, ◌<◌}
use native.Mathlib.Omega.{arith}
use native.Mathlib.Nat.{div-add-mod', add_assoc}
use lib.Arith.{digits_div, digits_mod}
use Rattle.parse_buffer.specs.Bytes.{File, word}
use Rattle.paged.specs.PageSize.{PageSize}
use Rattle.paged.specs.Pages.{first_entry, through, location, directory_page, directory_word, page_of, entry_of}
use Rattle.paged.specs.Inner.{words_left}
use Rattle.paged.proofs.SizeLaws.{word_in_page}
use Rattle.paged.specs.declared.pages.Pages.{Pages}
use Rattle.paged.specs.declared.pages.Pages.TheVariants.{Location, Directory, Stream}
use Rattle.runs.specs.Inner.{entry_place, Lying, Running, in_page}
use Rattle.runs.specs.declared.Run.{Run}

-- ---- indices stay small
pub index_most : (pages : Pages) {n : ℕ} → entry_of pages n ≤ 2 ^ 32 → n ≤ 2 ^ 32
index_most Location l = omega arith
index_most Directory l = omega arith
index_most (Stream first) l = omega arith

-- ---- the page number of an entry is the word at its place
pub entry_is : (f : File) (p : ℕ) (pages : Pages) (i : ℕ) → word f (entry_place f p pages i) ≡ page_of f p pages i
unfolding entry_place location directory_page directory_word
entry_is f p Location i = refl
entry_is f p Directory i = refl
entry_is f p (Stream first) i = refl

-- ---- words of one page stand one after the other
through_more : (p : ℕ) (page : ℕ → ℕ) (x d : ℕ) → x % p + d < p → through p page x + d ≡ through p page (x + d)
through_more p page x d l =
    let same : x / p * p + (x % p + d) ≡ x + d = omega (arith, div-add-mod' x p) in
    let q : (x + d) / p ≡ x / p = ap (λ (y : ℕ). y / p) (sym same) ∙ digits_div (x / p) l in
    let r : (x + d) % p ≡ x % p + d = ap (λ (y : ℕ). y % p) (sym same) ∙ digits_mod (x / p) l in
    rw (q, r) (add_assoc _ _ _)

words_more : (p : ℕ) (page : ℕ → ℕ) (w j : ℕ) → j < words_left p w → through p page (4 * w) + 4 * j ≡ through p page (4 * (w + j))
unfolding words_left
words_more p page w j l =
    let four : 4 * w + 4 * j ≡ 4 * (w + j) = omega arith in
    through_more p page (4 * w) (4 * j) (omega arith) ∙ ap (through p page) four

pub run_some : (w n : ℕ) {p at : ℕ} {r : Run} → PageSize p → 0 < n → r ≡ in_page p at w n → 0 < r.words
unfolding words_left
run_some w n {p} s l is = let in_page_lem = word_in_page p w s in rw is (omega arith)

-- ---- the ways out of `run_of`
module _ (f : File) (p i n : ℕ) {pages : Pages} where
  pub run_location : pages ≡ Location → Running f p pages i n (record { at = first_entry + 4 * i; words = n })
  unfolding entry_place
  run_location e = rw e (record { places = λ j _. omega arith; few = omega arith })

  pub run_directory : {at : ℕ} {r : Run} → pages ≡ Directory → at ≡ through p (location f) (4 * i) → r ≡ in_page p at i n → Running f p pages i n r
  unfolding entry_place
  run_directory e a is =
      rw (e, is, a) (record { places = λ j l. words_more p (location f) i j (omega arith); few = omega arith })

  pub run_stream : {first w at : ℕ} {r : Run} → pages ≡ Stream first → w ≡ first + i → at ≡ through p (directory_page f p) (4 * w) → r ≡ in_page p at w n → Running f p pages i n r
  unfolding entry_place
  run_stream {first} e u a is =
      rw (e, is, a, u)
      (record {
        places = λ j l. words_more p (directory_page f p) (first + i) j (omega arith) ∙ rw add_assoc;
        few = omega arith;
      })

pub ruleset run_cases = (run_location, run_directory, run_stream)

-- ---- a run that lies in the file: its words can be read, and are the list's page numbers
module _ {f : File} {len p n i : ℕ} {pages : Pages} {r : Run} (lying : Lying f len p pages n) (run : Running f p pages i (n - i) r) (l : i < n) (some : 0 < r.words) where
  pub run_lies : r.at + 4 * r.words ≤ len
  run_lies =
      let few = run.few in
      let last = run.places (r.words - 1) (omega arith) in
      let in_file = lying.lies (i + (r.words - 1)) (omega arith) in
      omega arith

pub run_page : {f : File} {p n i : ℕ} {pages : Pages} {r : Run} → Running f p pages i n r → (g : ℕ) → g < r.words → word f (r.at + 4 * g) ≡ page_of f p pages (i + g)
run_page {f} {p} {i = i} {pages = pages} run g h = ap (word f) (run.places g h) ∙ entry_is f p pages (i + g)
