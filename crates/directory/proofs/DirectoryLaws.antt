-- The ways out of steps 4 and 5 and of the stream count; what is known of a list that was read and of a directory that was
-- reached.
use mathlib.Core.Path.{◌≡◌, sym, ◌∙◌, ap}
use Prim.Native.Nat.{ℕ, ◌+◌, ◌*◌, ◌^◌, ◌≤◌}
use native.Mathlib.Omega.{arith}
use Rattle.outcome.specs.Refusal as paper
use Rattle.std.specs.Prelude.{Ok, Err}
use Rattle.outcome.specs.Outcome.{and_next, and_then}
use Rattle.outcome.proofs.OutcomeLaws.{came, came_by, ok_is}
use Rattle.parse_buffer.specs.Bytes.{File}
use Rattle.paged.specs.PageSize.{PageSize, need}
use Rattle.paged.specs.Pages.{location, directory_page}
use Rattle.paged.specs.Checks.{check_pages, lies_in_file}
use Rattle.runs.specs.Inner.{Lying}
use Rattle.runs.proofs.LyingLaws.{location_lies, list_lies_lem, directory_lies}
use Rattle.paged.proofs.SizeLaws.{need_le}
use Rattle.paged.specs.declared.refusal.Refusal.{Refusal}
use Rattle.paged.specs.declared.pages.Pages.TheVariants.{Location, Directory, Stream}
use Rattle.header.specs.Header.{entries_in_block, words, directory_pages, location_pages, located}
use Rattle.header.proofs.OpenLaws.{Located, is_located}
use Rattle.header.specs.Inner.{Locating}
use Rattle.paged.specs.Refusal.{told}
use Rattle.paged.specs.declared.refusal.Refusal.{Refusal}
use Rattle.outcome.specs.Outcome.{raise}
use Rattle.std.specs.Prelude.{Result}
use Rattle.header.specs.declared.Header.{Header}
use Rattle.directory.specs.Directory.{listed, reached}
use Rattle.directory.specs.Inner.{Listing}

-- ---- step 4: a located container has few location pages, and they lie in the file
module _ {f : File} {len : ℕ} {r : Result Header Refusal} {h : Header} (p : Locating f len r) (e : r ≡ Ok h) {d m : ℕ} (pd : d ≡ directory_pages h) (pm : m ≡ need h.pagesize (4 * d)) where
  at_located : Located f len h
  unfolding raise
  at_located = is_located f len (sym p.answer ∙ ap told e)

  few_entries : m ≤ entries_in_block
  few_entries = rw (pm, pd) at_located.few

  pub entries_fit : m ≤ 2 ^ 32
  entries_fit = let few = few_entries in omega arith

  pub locations_lie : Lying f len h.pagesize Location m
  locations_lie =
      let few = few_entries in
      location_lies f len h.pagesize (let long = at_located.long in omega arith)

  -- so where the list lies in the file too, it can be read
  pub list_lies : {c : Result (Unit {0}) Refusal} {u : Unit {0}} → told c ≡ lies_in_file len h.pagesize (location f) (4 * d) m → c ≡ Ok u → Lying f len h.pagesize Directory d
  unfolding raise
  list_lies g w = list_lies_lem f len h.pagesize at_located.size (rw (← pm) (sym g ∙ ap told w))

pub ruleset list_laws = (need_le, entries_fit, locations_lie)

-- ---- what is known once the list is read: it lies in the file, and the pages that it names passed
pub record ListedAt (f : File) (len : ℕ) (h : Header) : Type 0 where
  pub located : located f len ≡ Ok h
  pub size : PageSize h.pagesize
  pub list : lies_in_file len h.pagesize (location f) (4 * directory_pages h) (location_pages h) ≡ Ok tt
  pub checked : check_pages h.used (directory_page f h.pagesize) (directory_pages h) ≡ Ok tt
  pub lie : Lying f len h.pagesize Directory (directory_pages h)

pub listed_at : (f : File) (len : ℕ) {h : Header} → listed f len ≡ Ok h → ListedAt f len h
unfolding listed
listed_at f len {h} e =
    came_by _ _ e λ y o e₁.
    came _ _ e₁ λ _ l e₂.
    came _ _ e₂ λ _ c e₃.
    let same : y ≡ h = ok_is e₃ in
    let size = (is_located f len (o ∙ e₃)).size in
    record {
      located = o ∙ e₃;
      size = size;
      list = rw (← same) l;
      checked = rw (← same) c;
      lie = list_lies_lem f len h.pagesize size (rw (← same) l);
    }

-- ---- step 4, where a page number of the list does not pass
pub page_bad : {f : File} {len : ℕ} {h : Header} {d m : ℕ} {u : Unit {0}} {v : paper.Refusal} (r : Result Header Refusal) → Ok h ≡ located f len → d ≡ directory_pages h → m ≡ need h.pagesize (4 * d) → Ok u ≡ lies_in_file len h.pagesize (location f) (4 * d) m → Err v ≡ check_pages h.used (directory_page f h.pagesize) d → told r ≡ Err v → Listing f len r
unfolding listed and_then and_next
page_bad r e pd pm w x t =
    record { answer = t ∙ rw (← e, ← pd, ← pm, ← w, ← x) }

-- ---- step 5
pub listed_lie : {f : File} {len : ℕ} {r : Result Header Refusal} {h : Header} {d : ℕ} → Listing f len r → r ≡ Ok h → d ≡ directory_pages h → Lying f len h.pagesize Directory d
unfolding raise
listed_lie {f} {len} p e pd = rw pd (listed_at f len (sym p.answer ∙ ap told e)).lie

pub ruleset reach_laws = (need_le, listed_lie)

-- ---- what a reached directory is known to be: besides, it lies in the file
pub record ReachedAt (f : File) (len : ℕ) (h : Header) : Type 0 where
  pub listed : listed f len ≡ Ok h
  pub located : located f len ≡ Ok h
  pub size : PageSize h.pagesize
  pub list : lies_in_file len h.pagesize (location f) (4 * directory_pages h) (location_pages h) ≡ Ok tt
  pub checked : check_pages h.used (directory_page f h.pagesize) (directory_pages h) ≡ Ok tt
  pub held : lies_in_file len h.pagesize (directory_page f h.pagesize) h.directory (directory_pages h) ≡ Ok tt

pub reached_at : (f : File) (len : ℕ) {h : Header} → reached f len ≡ Ok h → ReachedAt f len h
unfolding reached
reached_at f len {h} e =
    came_by _ _ e λ y o e₁.
    came _ _ e₁ λ _ d e₂.
    let same : y ≡ h = ok_is e₂ in
    let at = listed_at f len (o ∙ e₂) in
    record {
      listed = o ∙ e₂;
      located = at.located;
      size = at.size;
      list = at.list;
      checked = at.checked;
      held = rw (← same) d;
    }

-- so do its words
pub reached_lies : (f : File) (len first n : ℕ) {h : Header} → reached f len ≡ Ok h → first + n ≤ words h → Lying f len h.pagesize (Stream first) n
reached_lies f len first n {h} e l =
    let at = reached_at f len e in
    directory_lies f len h.pagesize at.size at.held (omega arith)
