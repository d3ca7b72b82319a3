-- What reading page numbers in runs promises. None of it is part of an operation's own promise.
use Rattle.std.specs.Prelude.{◌≡◌, false, ℕ, ◌+◌, ◌-◌, ◌*◌, ◌^◌, min, ◌≤◌, ◌<◌, Ok}
use Rattle.parse_buffer.specs.Bytes.{File, word}
use Rattle.paged.specs.Pages.{first_entry, through, location, directory_page, page_of}
use Rattle.paged.specs.Inner.{words_left}
use Rattle.paged.specs.Checks.{page_fits, check_pages}
use Rattle.paged.specs.declared.pages.Pages.{Pages}
use Rattle.paged.specs.declared.pages.Pages.TheVariants.{Location, Directory, Stream}
use Rattle.runs.specs.declared.Run.{Run}
use Rattle.runs.specs.declared.stretch.Stretch.{Stretch}

-- ---- where entry i of a list stands in the file: its page number is the word there
unfoldable pub entry_place : File → ℕ → Pages → ℕ → ℕ
entry_place f p Location i = first_entry + 4 * i
entry_place f p Directory i = through p (location f) (4 * i)
entry_place f p (Stream first) i = through p (directory_page f p) (4 * (first + i))

-- n entries of a list lie in a file of `len` bytes
pub record Lying (f : File) (len p : ℕ) (pages : Pages) (n : ℕ) : Type 0 where
  pub lies : (j : ℕ) → j < n → entry_place f p pages j + 4 ≤ len

-- ---- a run: entries from entry i on, n at most, stand one after the other
pub record Running (f : File) (p : ℕ) (pages : Pages) (i n : ℕ) (r : Run) : Type 0 where
  pub places : (j : ℕ) → j < r.words → r.at + 4 * j ≡ entry_place f p pages (i + j)
  pub few : r.words ≤ n

-- the words of one page, from word w on
abbrev pub in_page : ℕ → ℕ → ℕ → ℕ → Run
in_page p at w n = record { at = at; words = min (words_left p w) n }

-- r of the n words at a place pass, and the next, if there is one, does not
pub record Fitting (f : File) (at n used r : ℕ) : Type 0 where
  pub few : r ≤ n
  pub fit : check_pages used (λ j. word f (at + 4 * j)) r ≡ Ok tt
  pub stop : r < n → page_fits used (word f (at + 4 * r)) ≡ false

-- ---- m of the n words at a place go up by one
pub record Rising (f : File) (at n m : ℕ) : Type 0 where
  pub some : 0 < m
  pub few : m ≤ n
  pub up : (j : ℕ) → j < m → word f (at + 4 * j) ≡ word f at + j
  pub small : word f at + m ≤ 2 ^ 32

abbrev pub before_first : Stretch
before_first = record { page = record { 0 = 0 }; pages = 0; next = 0; rest = record { at = 0; words = 0 } }

-- ---- where the reading of a list of n entries stands: after this stretch, with the rest of a run
pub record Standing (f : File) (p : ℕ) (pages : Pages) (n : ℕ) (s : Stretch) : Type 0 where
  pub within : s.next ≤ n
  pub rest : Running f p pages s.next (n - s.next) s.rest

-- a stretch from entry i on: its page numbers go up by one, and the reading stands after it
pub record Stretching (f : File) (p : ℕ) (pages : Pages) (n i : ℕ) (r : Stretch) : Type 0 where
  pub some : 0 < r.pages
  pub next : r.next ≡ i + r.pages
  pub up : (j : ℕ) → j < r.pages → page_of f p pages (i + j) ≡ r.page.0 + j
  pub small : r.page.0 + r.pages ≤ 2 ^ 32
  pub stands : Standing f p pages n r
