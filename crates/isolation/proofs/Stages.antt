-- What mapping a stream reads is of one of three kinds, each of a stage that passed: the header's, an entry of the
-- location list, a word of the directory. A stage that passed came of stages that passed, so that what it lists is not
-- listed where an earlier one refuses.
use mathlib.Core.Path.{◌≡◌, sym, ◌∙◌}
use mathlib.Core.Logic.{◌⊎◌, inl, inr}
use Prim.Native.Nat.{ℕ, ◌+◌, ◌<◌}
use native.Mathlib.Omega.{arith}
use borrow.Author.Tests.{leb-true}
use Rattle.std.specs.Prelude.{Result, Ok, Err, Option}
use Rattle.outcome.specs.Outcome.{and_then}
use Rattle.outcome.specs.Refusal as paper
use Rattle.outcome.proofs.OutcomeLaws.{ok_is, ok_refused}
use Rattle.parse_buffer.specs.Bytes.{File}
use Rattle.header.specs.Header.{header_block, directory_pages, headed, located, words}
use Rattle.header.specs.declared.Header.{Header}
use Rattle.directory.specs.Directory.{reached}
use Rattle.stream.proofs.FindLaws.{skipped_at, found_at}
use Rattle.extent.specs.Extent.{Asked, readable}
use Rattle.isolation.specs.Listed.{InWord, entry_place, word_place, list_lies, ListedOpen, ListedCount, ListedMap, ListedBytes}
use Rattle.isolation.specs.Stages.{OnList, Stages}
use Rattle.directory.proofs.DirectoryLaws.{reached_at}
use Rattle.extent.proofs.ExtentLaws.{asked_at, readable_at}

-- ---- opening
pub in_block : (f : File) (len i : ℕ) → ListedOpen f len i → i < header_block
in_block f len i (ListedOpen.start l) = omega arith
in_block f len i (ListedOpen.fields l m) = omega arith
in_block f len i (ListedOpen.small e l m) = omega arith
in_block f len i (ListedOpen.locations o l w) = omega (arith, w.1)

-- ---- mapping
pub data Stage (f : File) (len i : ℕ) : Type 0 where
  opening : ListedOpen f len i → Stage f len i
  entry : {j : ℕ} {h : Header} → located f len ≡ Ok h → list_lies f len h ≡ Ok tt → j < directory_pages h → InWord (entry_place f h j) i → Stage f len i
  word : {w : ℕ} {h : Header} → reached f len ≡ Ok h → w < words h → InWord (word_place f h w) i → Stage f len i

pub stage : (f : File) (len k i : ℕ) → ListedMap f len k i → Stage f len i
stage f len k i (ListedMap.counting (ListedCount.opening l)) = Stage.opening l
stage f len k i (ListedMap.counting (ListedCount.list {j} {h} o inside l w)) =
    Stage.entry {j = j} {h = h} (cc) inside (omega arith) w
stage f len k i (ListedMap.counting (ListedCount.count d t w)) = Stage.word {w = 0} d (omega (arith, leb-true)) w
stage f len k i (ListedMap.sizes {j} d _ _ t w) = Stage.word {w = 1 + j} d (omega (arith, leb-true)) w
stage f len k i (ListedMap.pages {j} {x} s l t w) =
    Stage.word {w = x.first + j} (skipped_at f len k s).reached (omega (arith, leb-true)) w

-- ---- where a stage refuses
clash : {A : Type 0} {o : Result A paper.Refusal} {a : A} {why : paper.Refusal} → o ≡ Ok a → o ≡ Err why → ⊥
clash p q = ok_refused (sym p ∙ q)

module _ (f : File) (len i : ℕ) where
  no_entries : {why : paper.Refusal} → headed f len ≡ Err why → ListedOpen f len i → i < 48
  no_entries e (ListedOpen.start l) = omega arith
  no_entries e (ListedOpen.fields l m) = omega arith
  no_entries e (ListedOpen.small _ l m) = omega arith
  no_entries e (ListedOpen.locations o l w) = absurd (clash o e)

  unheaded : {why : paper.Refusal} → headed f len ≡ Err why → located f len ≡ Err why
  unfolding located and_then
  unheaded e = rw e

  location_refused : {why : paper.Refusal} → located f len ≡ Err why → Stage f len i → ListedOpen f len i
  location_refused e (Stage.opening l) = l
  location_refused e (Stage.entry o _ _ _) = absurd (clash o e)
  location_refused e (Stage.word d _ _) = absurd (clash (reached_at f len d).located e)

  list_ends : {h : Header} {why : paper.Refusal} → located f len ≡ Ok h → list_lies f len h ≡ Err why → Stage f len i → ListedOpen f len i
  list_ends o e (Stage.opening l) = l
  list_ends o e (Stage.entry p inside _ _) = absurd (clash inside (rw (ok_is (sym o ∙ p)) at e))
  list_ends o e (Stage.word d _ _) =
      let r = reached_at f len d in absurd (clash r.list (rw (ok_is (sym o ∙ r.located)) at e))

  directory_refused : {why : paper.Refusal} → reached f len ≡ Err why → Stage f len i → ListedOpen f len i ⊎ OnList f len i
  directory_refused e (Stage.opening l) = inl l
  directory_refused e (Stage.entry {j} {h} o _ l w) =
      inr (record { header = h; is = o; entry = j; below = l; inside = w })
  directory_refused e (Stage.word d _ _) = absurd (clash d e)

-- ---- extraction: a stream that is read was found in a directory that was reached
module _ (f : File) (len k : ℕ) (limit : Option ℕ) (i : ℕ) where
  pub read_reached : {x : Asked} → readable f len k limit ≡ Ok x → reached f len ≡ Ok x.found.header
  read_reached r = (found_at f len k (asked_at f len k limit (readable_at f len k limit r).asked).found).reached

  bytes_refused : {why : paper.Refusal} → readable f len k limit ≡ Err why → ListedBytes f len k limit i → ListedMap f len k i
  bytes_refused e (ListedBytes.mapping l) = l
  bytes_refused e (ListedBytes.bytes r n) = absurd (clash r e)

  -- so where the directory is not reached no stream is read
  unread : {A : Type 0} → ((h : Header) → reached f len ≡ Ok h → ⊥) → (Stage f len i → A) → ListedBytes f len k limit i → A
  unread e g (ListedBytes.mapping l) = g (stage f len k i l)
  unread e g (ListedBytes.bytes r n) = absurd (e _ (read_reached r))

  not_located : {why : paper.Refusal} → located f len ≡ Err why → ListedBytes f len k limit i → ListedOpen f len i
  not_located e = unread (λ h d. clash (reached_at f len d).located e) (location_refused f len i e)

pub stages : (f : File) (len k : ℕ) (limit : Option ℕ) (i : ℕ) → Stages f len k limit i
stages f len k limit i =
    record {
      block = in_block f len i;
      header_refused = λ e l. no_entries f len i e (not_located f len k limit i (unheaded f len i e) l);
      location_refused = not_located f len k limit i;
      list_ends = λ o e.
          unread f len k limit i
          (λ h d. let r = reached_at f len d in clash r.list (rw (ok_is (sym o ∙ r.located)) at e))
          (list_ends f len i o e);
      directory_refused = λ e. unread f len k limit i (λ h d. clash d e) (directory_refused f len i e);
      bytes_refused = bytes_refused f len k limit i;
    }
