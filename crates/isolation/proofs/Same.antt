-- Stage by stage, each over the smallest list: two files that agree on the listed bytes give the same outcome. Each proof
-- follows its stage's `do` block line by line: `then_same` and `bind_same` hand on that the line is reached, which is what a
-- list asks. That a byte is listed is shown afresh each time (`omega`, `cc`), so a list that is too long passes here as it
-- should: `NamedExactly`, `Stages`, `Corollaries` and `NotTooMuch` refuse it.
use mathlib.Core.Path.{◌≡◌, refl}
use mathlib.Core.Bool.{Bool, true, false, cond}
use mathlib.Core.Logic.{⊎_elim}
use Prim.Native.Nat.{ℕ, ◌*◌, ◌/◌, min, ◌<◌}
use native.Mathlib.Omega.{arith}
use borrow.Author.Tests.{leb-true, le-leb}
use Rattle.std.specs.Prelude.{Ok}
use Rattle.outcome.specs.Outcome.{require}
use Rattle.outcome.proofs.OutcomeLaws.{below_or, passed, bind_same, then_same}
use Rattle.outcome.proofs.EachLaws.{each_same}
use Rattle.parse_buffer.specs.Bytes.{File}
use Rattle.parse_buffer.proofs.WordLaws.{word_same}
use Rattle.paged.specs.Refusal.{refusal_in}
use Rattle.paged.specs.Pages.{location, directory_page, directory_word}
use Rattle.paged.specs.Checks.{check_pages, lies_in_file}
use Rattle.paged.specs.declared.refusal.Refusal.TheVariants.{UnimplementedFeature, UnrecognizedFileFormat}
use Rattle.paged.proofs.SizeLaws.{need_index}
use Rattle.header.specs.Header.{big_magic, small_magic, stands_at, entries_in_block, header_at, directory_pages, location_pages, headed, located, words}
use Rattle.header.specs.declared.Header.{Header}
use Rattle.header.proofs.BlockLaws.{stands_same}
use Rattle.header.proofs.OpenLaws.{is_located}
use Rattle.directory.specs.Directory.{holds, listed, reached, stream_count}
use Rattle.isolation.specs.Listed.{InWord, entry_place, word_place, list_lies, ListedOpen, ListedCount, Agree}
use Rattle.directory.proofs.DirectoryLaws.{listed_at, reached_at}

-- ---- what holds of any stage
pub check_same : (used : ℕ) {p q : ℕ → ℕ} (n : ℕ) → ((j : ℕ) → j < n → p j ≡ q j) → check_pages used p n ≡ check_pages used q n
check_same used n h = each_same n (λ j l. rw (h j l)) (λ j l. rw (h j l))

pub lies_same : (len p size : ℕ) {a b : ℕ → ℕ} (n : ℕ) → ((j : ℕ) → j < n → a j ≡ b j) → lies_in_file len p a size n ≡ lies_in_file len p b size n
lies_same len p size n h = each_same n (λ j l. rw (h j l)) (λ j l. refl)

-- ---- opening
module _ (f g : File) (len : ℕ) (agree : Agree (ListedOpen f len) f g) where
  header_same : header_at f ≡ header_at g
  header_same =
      rw (
        word_same {at = 32} (λ i l m. agree i (ListedOpen.start (omega arith))),
        word_same {at = 40} (λ i l m. agree i (ListedOpen.fields (omega arith) (omega arith))),
        word_same {at = 44} (λ i l m. agree i (ListedOpen.fields (omega arith) (omega arith))),
      )

  big_same : stands_at f 0 big_magic ≡ stands_at g 0 big_magic
  big_same = stands_same 0 big_magic (λ i l m. agree i (ListedOpen.start (omega arith)))

  small_listed : (i : ℕ) → stands_at f 0 big_magic ≡ false → i < 42 → ListedOpen f len i
  small_listed i e m =
      ⊎_elim (λ l. ListedOpen.start (omega arith))
      (λ l. ⊎_elim (λ l'. ListedOpen.small (cc) (omega arith) (omega arith)) (λ l'. ListedOpen.fields (omega arith) (omega arith)) (below_or i 40))
      (below_or i 36)

  -- where the big magic stands the small one is not asked; where it does not, bytes 36 to 39 are listed too
  magic_by : (b : Bool) → stands_at f 0 big_magic ≡ b → require b (refusal_in (cond (stands_at f 0 small_magic) UnimplementedFeature UnrecognizedFileFormat)) ≡ require b (refusal_in (cond (stands_at g 0 small_magic) UnimplementedFeature UnrecognizedFileFormat))
  unfolding require
  magic_by true e = refl
  magic_by false e = rw (stands_same 0 small_magic (λ i l m. agree i (small_listed i e m)))

  magic_same : require (stands_at f 0 big_magic) (refusal_in (cond (stands_at f 0 small_magic) UnimplementedFeature UnrecognizedFileFormat)) ≡ require (stands_at g 0 big_magic) (refusal_in (cond (stands_at g 0 small_magic) UnimplementedFeature UnrecognizedFileFormat))
  magic_same = rw (← big_same) (magic_by (stands_at f 0 big_magic) refl)

  headed_same : headed f len ≡ headed g len
  unfolding headed
  headed_same =
      rw (← header_same)
      (then_same refl λ _ _.
      then_same magic_same λ _ _.
      refl)

  location_listed : {h : Header} → headed f len ≡ Ok h → (j : ℕ) → j < min (location_pages h) entries_in_block → location f j ≡ location g j
  unfolding location
  location_listed o j l = word_same λ i a b. agree i (ListedOpen.locations {j = j} o (omega arith) (omega arith))

  pub located_same : located f len ≡ located g len
  unfolding located
  located_same =
      bind_same headed_same λ h o.
      then_same (check_same _ _ (location_listed o)) λ _ _.
      refl

  pub location_same : {h : Header} → located f len ≡ Ok h → (j : ℕ) → j < location_pages h → location f j ≡ location g j
  location_same o j l =
      let x = is_located f len o in
      let few = x.few in
      location_listed x.headed j (omega arith)

-- ---- the location list, where the files agree on its bytes
pub record AgreeOnList (f g : File) (len : ℕ) : Type 0 where
  pub is : {i j : ℕ} {h : Header} → located f len ≡ Ok h → list_lies f len h ≡ Ok tt → j < directory_pages h → InWord (entry_place f h j) i → f i ≡ g i

module _ (f g : File) (len : ℕ) (opens : Agree (ListedOpen f len) f g) (list : AgreeOnList f g len) where
  module _ {h : Header} (o : located f len ≡ Ok h) (inside : list_lies f len h ≡ Ok tt) where
    pub entry_same : (j : ℕ) → j < directory_pages h → directory_page f h.pagesize j ≡ directory_page g h.pagesize j
    unfolding directory_page
    entry_same j l =
        let at = is_located f len o in
        let s = at.size.least in
        rw (← location_same f g len opens o (4 * j / h.pagesize) (need_index h.pagesize (4 * directory_pages h) (omega arith) (4 * j) (omega arith)))
        (word_same λ i a b. list.is {j = j} {h = h} (cc) inside (omega arith) (omega arith))

  pub listed_same : listed f len ≡ listed g len
  unfolding listed
  listed_same =
      bind_same (located_same f g len opens) λ h o.
      then_same (lies_same _ _ _ _ (location_same f g len opens o)) λ _ inside.
      then_same (check_same _ _ (entry_same o inside)) λ _ _.
      refl

-- ---- the stream count
module _ (f g : File) (len : ℕ) (agree : Agree (ListedCount f len) f g) where
  pub opens : Agree (ListedOpen f len) f g
  opens i l = agree i (ListedCount.opening l)

  pub lists : AgreeOnList f g len
  lists =
      record {
        is = λ {i} {j} {h} o inside l w.
            let at = is_located f len o in
            agree i (ListedCount.list {j = j} {h = h} (cc) inside (omega arith) w);
      }

  pub reached_same : reached f len ≡ reached g len
  unfolding reached
  reached_same =
      bind_same (listed_same f g len opens lists) λ h o.
      let at = listed_at f len o in
      then_same (lies_same _ _ _ _ (entry_same f g len opens lists at.located at.list)) λ _ _.
      refl

  module _ {h : Header} (d : reached f len ≡ Ok h) where
    -- a word that the directory holds: its page number is the same, and so the word, where its own four bytes are listed
    pub held_same : (w : ℕ) → w < words h → ((i : ℕ) → InWord (word_place f h w) i → f i ≡ g i) → directory_word f h.pagesize w ≡ directory_word g h.pagesize w
    unfolding directory_word
    held_same w t same =
        let at = reached_at f len d in
        let s = at.size.least in
        rw (← entry_same f g len opens lists at.located at.list (4 * w / h.pagesize) (need_index h.pagesize h.directory (omega arith) (4 * w) (omega arith)))
        (word_same λ i a b. same i (omega arith))

    pub count_same : holds h 1 ≡ true → directory_word f h.pagesize 0 ≡ directory_word g h.pagesize 0
    count_same t = held_same 0 (leb-true _ _ t) (λ i w. agree i (ListedCount.count d (omega (arith, leb-true, le-leb)) w))

  pub stream_count_same : stream_count f len ≡ stream_count g len
  unfolding stream_count
  stream_count_same =
      bind_same reached_same λ h d.
      then_same refl λ _ t.
      rw (count_same d (passed _ _ t))
