-- The ways out of the rest of step 7: the sizes, the pages before the stream's own, and its own; what a stream that was
-- found is known to be.
use mathlib.Core.Path.{◌≡◌, refl, sym, ◌∙◌, ap}
use mathlib.Core.Bool.{false}
use Prim.Native.Nat.{ℕ, ◌+◌, ◌-◌, min, ◌≤◌, ◌<◌}
use native.Mathlib.Omega.{arith}
use borrow.Author.Tests.{le-leb, lt-leb, leb-true}
use lib.Dec.{eqb}
use Rattle.std.specs.Prelude.{Result, Ok, Err}
use Rattle.outcome.specs.Outcome.{and_next, and_then, require, raise}
use Rattle.outcome.specs.Refusal as paper
use Rattle.outcome.proofs.OutcomeLaws.{came, came_by, ok_is, passed, EachRefusal, refuses_none, refuses_by, refuses_then, refuses_require}
use Rattle.outcome.proofs.EachLaws.{refuses_each}
use Rattle.parse_buffer.specs.Bytes.{File}
use Rattle.paged.specs.PageSize.{PageSize, need}
use Rattle.paged.specs.Pages.{directory_word}
use Rattle.paged.specs.Checks.{check_pages}
use Rattle.paged.specs.Refusal.{told}
use Rattle.runs.specs.Inner.{Lying}
use Rattle.paged.specs.declared.refusal.Refusal.{Refusal}
use Rattle.paged.specs.declared.refusal.Refusal.TheVariants.{ShortData}
use Rattle.paged.specs.declared.pages.Pages.TheVariants.{Stream}
use Rattle.header.specs.Header.{words}
use Rattle.directory.specs.Directory.{reached}
use Rattle.directory.proofs.DirectoryLaws.{reached_at, reached_lies}
use Rattle.stream.specs.Stream.{absent, size_at, pages_of, first_of, own_page, own_pages, present, skipped_to, found}
use Rattle.stream.specs.Inner.{Before, Sizing, Skipped, Finding}
use Rattle.stream.proofs.StreamLaws.{present_reached}
use Rattle.stream.specs.declared.Found.{Found}
use Rattle.stream.specs.declared.Present.{Present}

-- ---- what a stream that is present is known to be
module _ (f : File) (len k : ℕ) where
  pub record PresentAt (x : Present) : Type 0 where
    pub count : x.count ≡ directory_word f x.header.pagesize 0
    pub below : k < x.count
    pub size : x.size ≡ size_at f x.header.pagesize k
    pub present : eqb x.size absent ≡ false

  pub present_at : {x : Present} → present f len k ≡ Ok x → PresentAt x
  unfolding present and_then and_next require
  present_at {x} e = record { count = grind arith; below = grind arith; size = grind arith; present = grind arith }

-- ---- the sizes
module _ {f : File} {len k : ℕ} {r : Result Present Refusal} (p : Sizing f len k r) {x : Present} (e : r ≡ Ok x) where
  present_is : present f len k ≡ Ok x
  unfolding raise
  present_is = sym p.answer ∙ ap told e

  module _ {w : ℕ} (words_are : w ≡ words x.header) (l : 1 + x.count ≤ w) where
    pub sizes_lie : Lying f len x.header.pagesize (Stream 1) k
    sizes_lie =
        let below = (present_at f len k present_is).below in
        reached_lies f len 1 k (present_reached f len k present_is) (rw (← words_are) (omega arith))

    pub skipped : {b : ℕ} → Before f x.header.pagesize k b → Skipped f len k x b
    skipped before = record { is = present_is; sizes = rw (← words_are) l; pages = before }

pub ruleset find_laws = (sizes_lie, skipped)

-- ---- the pages before the stream's own, and its own
module _ {f : File} {len k : ℕ} {x : Present} {b : ℕ} (s : Skipped f len k x b) where
  pub after_size : PageSize x.header.pagesize
  after_size = (reached_at f len (present_reached f len k s.is)).size

  module _ {w : ℕ} (words_are : w ≡ words x.header) where
    pub no_first : w < 1 + x.count + b → Finding f len k (Err ShortData)
    unfolding found skipped_to require and_then and_next raise
    no_first l =
        record {
          answer = rw (s.is, le-leb (1 + x.count) (words x.header) s.sizes, ← s.pages.is, ← words_are, lt-leb (1 + x.count + b) w l);
        }

    module _ (l : 1 + x.count + b ≤ w) where
      abbrev here : Found
      here = record { header = x.header; size = x.size; first = 1 + x.count + b }

      skipped_is : skipped_to f len k ≡ Ok here
      unfolding skipped_to require and_then and_next
      skipped_is =
          rw (s.is, le-leb (1 + x.count) (words x.header) s.sizes, ← s.pages.is, ← words_are, le-leb (1 + x.count + b) w l)

      module _ {n : ℕ} (pages : n ≡ need x.header.pagesize x.size) {m : ℕ} (entries : m ≡ min n (w - (1 + x.count + b))) where
        pub entries_lie : Lying f len x.header.pagesize (Stream (1 + x.count + b)) m
        entries_lie =
            reached_lies f len (1 + x.count + b) m (present_reached f len k s.is) (rw (← words_are) (omega arith))

        module _ {v : Result (Unit {0}) paper.Refusal} (c : v ≡ check_pages x.header.used (own_page f here) m) where
          checked_is : check_pages x.header.used (own_page f here) (min (own_pages here) (words x.header - here.first)) ≡ v
          checked_is = rw (← pages, ← words_are, ← entries) (sym c)

        pub after_bad : {v : paper.Refusal} {r : Result Found Refusal} → Err v ≡ check_pages x.header.used (own_page f here) m → told r ≡ Err v → Finding f len k r
        unfolding found and_then and_next
        after_bad c t = record { answer = t ∙ rw (skipped_is, checked_is c) }

        module _ {u : Unit {0}} (c : Ok u ≡ check_pages x.header.used (own_page f here) m) where
          pub after_short : w - (1 + x.count + b) < n → Finding f len k (Err ShortData)
          unfolding found require and_then and_next raise
          after_short q =
              record {
                answer = rw (skipped_is, checked_is c, ← pages, ← words_are, lt-leb (1 + x.count + b + n) w (omega arith));
              }

          pub after_fine : n ≤ w - (1 + x.count + b) → Finding f len k (Ok here)
          unfolding found require and_then and_next raise
          after_fine q =
              record {
                answer = rw (skipped_is, checked_is c, ← pages, ← words_are, le-leb (1 + x.count + b + n) w (omega arith));
              }

  -- no refusal here is 5
  abbrev Not5 : paper.Refusal → Type 0
  Not5 why = eqb why.number 5 ≡ false

  skipped_not_5 : EachRefusal Not5 (skipped_to f len k)
  unfolding skipped_to and_then
  skipped_not_5 =
      rw s.is
      (refuses_then Not5 _ _ (refuses_require Not5 _ _ refl)
      (refuses_then Not5 _ _ (refuses_require Not5 _ _ refl) (refuses_none Not5 _)))

  pub found_not_5 : EachRefusal Not5 (found f len k)
  unfolding found
  found_not_5 =
      refuses_by Not5 _ _ skipped_not_5
      (λ y.
      refuses_then Not5 _ _ (refuses_each Not5 _ _ (λ j. refl) _)
      (refuses_then Not5 _ _ (refuses_require Not5 _ _ refl) (refuses_none Not5 _)))

pub ruleset after_laws = (no_first, entries_lie)

-- ---- what a stream whose entries begin in the directory is known to be: its header is the one reached, and its first entry is in the directory
pub record SkippedAt (f : File) (len k : ℕ) (x : Found) : Type 0 where
  pub reached : reached f len ≡ Ok x.header
  pub inside : x.first ≤ words x.header

pub skipped_at : (f : File) (len k : ℕ) {x : Found} → skipped_to f len k ≡ Ok x → SkippedAt f len k x
unfolding skipped_to
skipped_at f len k {x} e =
    came_by _ _ e λ y s e₁.
    came _ _ e₁ λ _ _ e₂.
    came _ _ e₂ λ _ l e₃.
    record {
      reached = present_reached f len k s ∙ ap (λ (z : Found). Ok z.header) (ok_is e₃);
      inside = rw (← ok_is e₃) (leb-true _ _ (passed _ _ l));
    }

-- ---- what a stream that was found is known to be: its header is the one reached, all its page numbers stand in the
-- directory, and each of them passed
pub record FoundAt (f : File) (len k : ℕ) (x : Found) : Type 0 where
  pub skipped : skipped_to f len k ≡ Ok x
  pub reached : reached f len ≡ Ok x.header
  pub inside : x.first + own_pages x ≤ words x.header
  pub checked : check_pages x.header.used (own_page f x) (own_pages x) ≡ Ok tt

pub found_at : (f : File) (len k : ℕ) {x : Found} → found f len k ≡ Ok x → FoundAt f len k x
unfolding found
found_at f len k {x} e =
    came_by _ _ e λ y l e₁.
    came _ _ e₁ λ _ c e₂.
    came _ _ e₂ λ _ i e₃.
    let same : y ≡ x = ok_is e₃ in
    let fits : y.first + own_pages y ≤ words y.header = leb-true _ _ (passed _ _ i) in
    let all : min (own_pages y) (words y.header - y.first) ≡ own_pages y = omega arith in
    record {
      skipped = l ∙ e₃;
      reached = (skipped_at f len k (l ∙ e₃)).reached;
      inside = rw (← same) fits;
      checked = rw (← same) (rw all at c);
    }

-- so they lie in the file
pub found_lies : (f : File) (len k : ℕ) {x : Found} → found f len k ≡ Ok x → Lying f len x.header.pagesize (Stream x.first) (own_pages x)
found_lies f len k {x} e =
    let at = found_at f len k e in
    reached_lies f len x.first (own_pages x) at.reached at.inside

-- its entries begin where the count, the sizes and the pages of the streams before it end, and are as many as its size says
module _ (f : File) (len k : ℕ) where
  pub record FirstAt (x : Found) : Type 0 where
    pub first : x.first ≡ first_of f x.header.pagesize (directory_word f x.header.pagesize 0) k
    pub pages : own_pages x ≡ pages_of x.header.pagesize (size_at f x.header.pagesize k)

  pub first_at : {x : Found} → skipped_to f len k ≡ Ok x → FirstAt x
  unfolding skipped_to pages_of
  first_at e =
      came_by _ _ e λ y s e₁.
      came _ _ e₁ λ _ _ e₂.
      came _ _ e₂ λ _ _ e₃.
      let z = present_at f len k s in
      rw (← ok_is e₃)
      (record {
        first = rw z.count refl;
        pages = rw (← z.size, z.present);
      })
