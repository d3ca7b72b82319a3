-- The corollaries of demand 3. A list that leaves a byte out need not agree on it; and a listed byte is one that opening
-- reads, or stands in a page of the location list, of the directory or of the stream, which is not page 0.
use mathlib.Core.Path.{◌≡◌, sym, ◌∙◌}
use mathlib.Core.Bool.{true}
use Prim.Native.Nat.{ℕ, ◌+◌, ◌*◌, min, ◌≤◌, ◌<◌}
use native.Mathlib.Omega.{arith}
use Rattle.std.specs.Prelude.{Ok, Option}
use Rattle.outcome.proofs.OutcomeLaws.{ok_is}
use Rattle.parse_buffer.specs.Bytes.{File}
use Rattle.paged.specs.Pages.{first_entry, location, directory_page}
use Rattle.paged.proofs.SizeLaws.{need_index}
use Rattle.header.specs.Header.{big_magic, stands_at, entries_in_block, directory_pages, location_pages, headed, located}
use Rattle.header.specs.declared.Header.{Header}
use Rattle.header.proofs.HeaderLaws.{headed_size}
use Rattle.header.proofs.OpenLaws.{is_located}
use Rattle.directory.specs.Directory.{reached}
use Rattle.stream.specs.Stream.{own_page, own_pages}
use Rattle.stream.proofs.FindLaws.{found_at}
use Rattle.isolation.specs.Listed.{ListedOpen, ListedCount, ListedMap, ListedBytes, Agree}
use Rattle.isolation.specs.NamedExactly.{InPages}
use Rattle.isolation.specs.Corollaries.{Alike, DifferOnlyAt, OffTheLists, Elsewhere, Corollaries}
use Rattle.directory.proofs.DirectoryLaws.{reached_at}
use Rattle.isolation.proofs.InPagesLaws.{word_in_pages, past_page_zero}
use Rattle.isolation.proofs.NamedExactly.{named_in_pages}
use Rattle.extent.proofs.ExtentLaws.{asked_at, readable_at}
use Rattle.isolation.proofs.Stages.{Stage, stage}
use Rattle.isolation.proofs.Isolation.{isolation}

pub alike : (f g : File) (len k : ℕ) (limit : Option ℕ) → Agree (ListedBytes f len k limit) f g → Alike f g len k limit
alike f g len k limit agree =
    let I = isolation f g len in
    record {
      opening = I.opening (λ i l. agree i (ListedBytes.mapping (ListedMap.counting (ListedCount.opening l))));
      of_stream_count = I.of_stream_count (λ i l. agree i (ListedBytes.mapping (ListedMap.counting l)));
      map = λ offsets sizes. I.map k limit offsets sizes (λ i l. agree i (ListedBytes.mapping l));
      extract = λ out. I.extract k limit out agree;
      map_into = λ store. I.map_into k limit store (λ i l. agree i (ListedBytes.mapping l));
    }

-- files that differ only where nothing is listed agree on the list
off_list : (f g : File) (len k : ℕ) (limit : Option ℕ) (Place : ℕ → Type 0) → ((i : ℕ) → ListedBytes f len k limit i → Place i → ⊥) → DifferOnlyAt Place f g → Alike f g len k limit
off_list f g len k limit Place off differ = alike f g len k limit (λ i l. differ i (off i l))

-- ---- where a byte stands that is listed for mapping
data Where (f : File) (len i : ℕ) : Type 0 where
  opening : ListedOpen f len i → Where f len i
  list : {h : Header} → located f len ≡ Ok h → InPages h.pagesize (location f) (location_pages h) i → Where f len i
  directory : {h : Header} → reached f len ≡ Ok h → InPages h.pagesize (directory_page f h.pagesize) (directory_pages h) i → Where f len i

standing : (f : File) (len i : ℕ) → Stage f len i → Where f len i
standing f len i (Stage.opening l) = Where.opening l
standing f len i (Stage.entry {j} {h} o _ l w) =
    let s = (is_located f len o).size in
    let least = s.least in
    let n = need_index h.pagesize (4 * directory_pages h) (omega arith) (4 * j) (omega arith) in
    Where.list o (word_in_pages h.pagesize (location f) (location_pages h) s j n i w)
standing f len i (Stage.word {w = j} {h} d l w) =
    let s = (reached_at f len d).size in
    let least = s.least in
    let n = need_index h.pagesize h.directory (omega arith) (4 * j) (omega arith) in
    Where.directory d (word_in_pages h.pagesize (directory_page f h.pagesize) (directory_pages h) s j n i w)

-- ---- page 0: no page that passed its check is page 0. (No header need pass: then opening alone is listed.)
abbrev InPageZero : File → ℕ → ℕ → Type 0
InPageZero f len i = (h : Header) → headed f len ≡ Ok h → i < h.pagesize

module _ (f : File) (len k i : ℕ) (zero : InPageZero f len i) where
  located_not_zero : {h : Header} → located f len ≡ Ok h → h.pagesize ≤ i → ⊥
  located_not_zero o past = omega (arith, zero _ (is_located f len o).headed)

  only_opening : Where f len i → ListedOpen f len i
  only_opening (Where.opening l) = l
  only_opening (Where.list {h} o x) =
      absurd (located_not_zero o (past_page_zero h.used h.pagesize (location f) (location_pages h) (is_located f len o).checked i x))
  only_opening (Where.directory {h} d x) =
      let at = reached_at f len d in
      absurd (located_not_zero at.located (past_page_zero h.used h.pagesize (directory_page f h.pagesize) (directory_pages h) at.checked i x))

  in_page_zero : (limit : Option ℕ) → ListedBytes f len k limit i → ListedOpen f len i
  in_page_zero limit (ListedBytes.mapping l) = only_opening (standing f len i (stage f len k i l))
  in_page_zero limit (ListedBytes.bytes {x} r n) =
      let p = (readable_at f len k limit r).asked in
      let at = found_at f len k (asked_at f len k limit p).found in
      absurd (located_not_zero (reached_at f len at.reached).located
      (past_page_zero x.found.header.used x.found.header.pagesize (own_page f x.found) (own_pages x.found) at.checked i (named_in_pages f len k limit p i n)))

-- the smallest page has 256 bytes
pub first_256 : (f : File) (len k : ℕ) (limit : Option ℕ) (i : ℕ) → i < 256 → ListedBytes f len k limit i → ListedOpen f len i
first_256 f len k limit i m = in_page_zero f len k i (λ h q. let s = (headed_size f len q).least in omega arith) limit

-- ---- a byte elsewhere
module _ (f : File) (len k : ℕ) {h : Header} (p : headed f len ≡ Ok h) (i : ℕ) where
  past_opening : first_entry + 4 * min (location_pages h) entries_in_block ≤ i → ListedOpen f len i → ⊥
  past_opening l (ListedOpen.start m) = omega arith
  past_opening l (ListedOpen.fields _ m) = omega arith
  past_opening l (ListedOpen.small _ _ m) = omega arith
  past_opening l (ListedOpen.locations o m w) = omega (arith, rw (ok_is (sym o ∙ p)) at m, w.1)

  not_standing : OffTheLists f len h i → Where f len i → ⊥
  not_standing off (Where.opening l) = past_opening off.past_entries l
  not_standing off (Where.list o x) =
      let same = ok_is (sym (is_located f len o).headed ∙ p) in off.no_list (rw same at o) (rw same at x)
  not_standing off (Where.directory d x) =
      let same = ok_is (sym (is_located f len (reached_at f len d).located).headed ∙ p) in off.no_directory (rw same at d) (rw same at x)

  off_the_lists : OffTheLists f len h i → ListedMap f len k i → ⊥
  off_the_lists off l = not_standing off (standing f len i (stage f len k i l))

  elsewhere : (limit : Option ℕ) → Elsewhere f len k h i → ListedBytes f len k limit i → ⊥
  elsewhere limit e (ListedBytes.mapping l) = off_the_lists e.off_the_lists l
  elsewhere limit e (ListedBytes.bytes r n) =
      let q = (readable_at f len k limit r).asked in e.no_own (asked_at f len k limit q).found (named_in_pages f len k limit q i n)

-- ---- of the header's words, neither is read in opening
pub no_free_map : (f : File) (len i : ℕ) → stands_at f 0 big_magic ≡ true → 36 ≤ i → i < 40 → ListedOpen f len i → ⊥
no_free_map f len i b l m (ListedOpen.start n) = omega arith
no_free_map f len i b l m (ListedOpen.fields n _) = omega arith
no_free_map f len i b l m (ListedOpen.small e _ _) = let z : ◌≡◌ {A = ℕ} 0 1 = cc in omega arith
no_free_map f len i b l m (ListedOpen.locations _ _ w) = omega (arith, w.0)

pub no_reserved : (f : File) (len i : ℕ) → 48 ≤ i → i < 52 → ListedOpen f len i → ⊥
no_reserved f len i l m (ListedOpen.start n) = omega arith
no_reserved f len i l m (ListedOpen.fields _ n) = omega arith
no_reserved f len i l m (ListedOpen.small _ _ n) = omega arith
no_reserved f len i l m (ListedOpen.locations _ _ w) = omega (arith, w.0)

pub corollaries : (f g : File) (len k : ℕ) (limit : Option ℕ) → Corollaries f g len k limit
corollaries f g len k limit =
    record {
      unlisted = λ at n. off_list f g len k limit (λ i. i ≡ at) (λ i l e. n (rw e at l));
      off_the_lists = off_the_lists f len k;
      elsewhere = λ p i. elsewhere f len k p i limit;
      other_stream = λ p. off_list f g len k limit _ (λ i l e. elsewhere f len k p i limit e l);
      page_zero = λ p i m. in_page_zero f len k i (λ h q. rw (ok_is (sym p ∙ q)) at m) limit;
      free_page_map = λ b.
          off_list f g len k limit _ (λ i l p. no_free_map f len i b p.0 (omega (arith, p.1)) (first_256 f len k limit i (omega (arith, p.1)) l));
      reserved =
          off_list f g len k limit _ (λ i l p. no_reserved f len i p.0 p.1 (first_256 f len k limit i (omega (arith, p.1)) l));
    }
