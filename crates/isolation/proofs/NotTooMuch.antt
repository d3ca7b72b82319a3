-- On file F: a listed byte is one of the header's, the location list's, of a word that is asked for in the directory, or of
-- the stream; that gives the ranges of each stream, and what lies beside them.
use mathlib.Core.Path.{◌≡◌, refl, sym, ◌∙◌}
use mathlib.Core.Bool.{Bool, true, false, cond}
use mathlib.Core.List.{List, [], ◌∷◌}
use mathlib.Core.Logic.{◌⊎◌, inl, inr, ⊎_elim}
use Prim.Native.Nat.{ℕ, zero, suc, ◌+◌, ◌*◌, ◌/◌, ◌≤◌, ◌<◌}
use native.Mathlib.Omega.{arith}
use native.Mathlib.Nat.{le_refl}
use borrow.Author.Tests.{leb-true}
use lib.Dec.{leb}
use Rattle.std.specs.Prelude.{Ok, None, Option, Some}
use Rattle.outcome.proofs.OutcomeLaws.{below_or, and_true, ok_is}
use Rattle.parse_buffer.specs.Bytes.{File}
use Rattle.paged.specs.PageSize.{need}
use Rattle.paged.specs.Pages.{through, directory_word}
use Rattle.header.specs.Header.{located, directory_pages, words}
use Rattle.header.specs.declared.Header.{Header}
use Rattle.directory.specs.Directory.{reached}
use Rattle.directory.proofs.DirectoryLaws.{reached_at}
use Rattle.stream.specs.Stream.{own_page, own_pages, skipped_to}
use Rattle.stream.specs.declared.Found.{Found}
use Rattle.stream.proofs.FindLaws.{skipped_at, found_at}
use Rattle.extent.specs.Extent.{length_of, asked}
use Rattle.extent.proofs.ExtentLaws.{length_most}
use Rattle.container_statements.specs.FileF.{F}
use Rattle.isolation.specs.Listed.{entry_place, word_place, ListedOpen, ListedCount, ListedMap, ListedBytes}
use Rattle.isolation.specs.Tight.{changed, Within, start_f, stream_zero, stream_two, NotListed, NotTooMuch}
use Rattle.isolation.proofs.NamedExactly.{stream_byte_lem}
use Rattle.extent.proofs.ExtentLaws.{asked_at, readable_at}
use Rattle.isolation.proofs.Corollaries.{first_256, no_free_map, no_reserved}
use Rattle.isolation.proofs.LikeF.{Like, like_f, like_short, header_is, one_location, entry_at, word_at, skipped_is, is_0, not_1, is_2, place_0, place_2, last_2}

-- ---- what a listed byte is, where the directory has n bytes
data Read (g : File) (k i : ℕ) : Type 0 where
  count : 1024 ≤ i → i < 1028 → Read g k i
  size : k < 3 → 1028 ≤ i → i < 1032 + 4 * k → Read g k i
  own : {x : Found} → skipped_to g 6144 k ≡ Ok x → 1024 + 4 * x.first ≤ i → i < 1024 + 4 * (x.first + own_pages x) → Read g k i

data Part (g : File) (n k : ℕ) (limit : Option ℕ) (i : ℕ) : Type 0 where
  start : Within start_f i → Part g n k limit i
  word : i < 1024 + 4 * (n / 4) → Read g k i → Part g n k limit i
  byte : {j : ℕ} {x : Found} → skipped_to g 6144 k ≡ Ok x → j < length_of limit x.size → i ≡ through x.header.pagesize (own_page g x) j → Part g n k limit i

module _ {g : File} {n : ℕ} (like : Like g n) (small : n ≤ 36) where
  entry_of : {h : Header} → located g 6144 ≡ Ok h → (j : ℕ) → j < directory_pages h → entry_place g h j ≡ 768
  entry_of o j l = let same = header_is like small o in rw same (entry_at like small j (rw same at l))

  record Directory (h : Header) : Type 0 where
    held : words h ≡ n / 4
    count : directory_word g h.pagesize 0 ≡ 3
    word : (w : ℕ) → w < words h → word_place g h w ≡ 1024 + 4 * w

  directory : {h : Header} → reached g 6144 ≡ Ok h → Directory h
  directory d =
      rw (header_is like small (reached_at g 6144 d).located) record { held = refl; count = like.count; word = word_at like small }

  part : (k : ℕ) (limit : Option ℕ) (i : ℕ) → ListedBytes g 6144 k limit i → Part g n k limit i
  part k limit i (ListedBytes.mapping (ListedMap.counting (ListedCount.opening (ListedOpen.start l)))) =
      Part.start (inl (omega arith))
  part k limit i (ListedBytes.mapping (ListedMap.counting (ListedCount.opening (ListedOpen.fields l m)))) =
      Part.start (inr (inl (omega arith)))
  part k limit i (ListedBytes.mapping (ListedMap.counting (ListedCount.opening (ListedOpen.small e _ _)))) =
      let big = like.big in absurd (let z : ◌≡◌ {A = ℕ} 0 1 = cc in omega arith)
  part k limit i (ListedBytes.mapping (ListedMap.counting (ListedCount.opening (ListedOpen.locations o l w)))) =
      let few = one_location like small in
      let m = rw (ok_is (sym o ∙ like.headed)) at l in
      Part.start (inr (inr (inl (omega (arith, w.0, w.1)))))
  part k limit i (ListedBytes.mapping (ListedMap.counting (ListedCount.list {j} o _ l w))) =
      let e = entry_of o j (omega arith) in
      Part.start (inr (inr (inr (inl (omega (arith, w.0, w.1))))))
  part k limit i (ListedBytes.mapping (ListedMap.counting (ListedCount.count d t w))) =
      let r = directory d in
      let e = r.word 0 (omega (arith, leb-true)) in
      Part.word (omega (arith, leb-true, w.1)) (Read.count (omega (arith, w.0)) (omega (arith, w.1)))
  part k limit i (ListedBytes.mapping (ListedMap.sizes {j} d l m t w)) =
      let r = directory d in
      let e = r.word (1 + j) (omega (arith, leb-true)) in
      Part.word (omega (arith, leb-true, w.1)) (Read.size (omega arith) (omega (arith, w.0)) (omega (arith, w.1)))
  part k limit i (ListedBytes.mapping (ListedMap.pages {j} {x} s l t w)) =
      let r = directory (skipped_at g 6144 k s).reached in
      let e = r.word (x.first + j) (omega (arith, leb-true)) in
      Part.word (omega (arith, leb-true, w.1)) (Read.own s (omega (arith, w.0)) (omega (arith, w.1)))
  part k limit i (ListedBytes.bytes {x} r m) =
      let p : asked g 6144 k limit ≡ Ok x = (readable_at g 6144 k limit r).asked in
      let b = stream_byte_lem g 6144 k limit p i m in
      let size = (asked_at g 6144 k limit p).length in
      Part.byte {j = b.index} (found_at g 6144 k (asked_at g 6144 k limit p).found).skipped (omega (arith, b.below)) b.at

-- ---- stream by stream
abbrev Parts : (k : ℕ) → Option ℕ → List (ℕ × ℕ) → Type 0
Parts k limit ranges = (i : ℕ) → Part F 36 k limit i → Within start_f i ⊎ Within ranges i

-- of the streams that are there, where at most n bytes are asked for
parts_0 : (limit : Option ℕ) (n : ℕ) → length_of limit 300 ≤ n → Parts 0 limit (stream_zero n)
unfolding need
parts_0 limit n f i (Part.start w) = inl w
parts_0 limit n f i (Part.word _ (Read.count a b)) = inr (inl (omega arith))
parts_0 limit n f i (Part.word _ (Read.size a b c)) = inr (inl (omega arith))
parts_0 limit n f i (Part.word _ (Read.own s a b)) =
    let same = is_0 like_f (omega arith) s in
    let from = rw same at a in
    let to = rw same at b in
    inr (inr (inl (omega arith)))
parts_0 limit n f i (Part.byte {j} s l e) =
    let same = is_0 like_f (omega arith) s in
    let below = rw same at l in
    let most = length_most limit 300 in
    let place = rw same at e ∙ place_0 like_f (omega arith) j (omega arith) in
    inr (inr (inr (inl (omega arith))))

parts_2 : (limit : Option ℕ) (n : ℕ) → length_of limit 600 ≤ n → Parts 2 limit (stream_two n)
unfolding need
parts_2 limit n f i (Part.start w) = inl w
parts_2 limit n f i (Part.word _ (Read.count a b)) = inr (inl (omega arith))
parts_2 limit n f i (Part.word _ (Read.size a b c)) = inr (inl (omega arith))
parts_2 limit n f i (Part.word _ (Read.own s a b)) =
    let same = is_2 like_f (omega arith) s in
    let from = rw same at a in
    let to = rw same at b in
    inr (inr (inl (omega arith)))
parts_2 limit n f i (Part.byte {j} s l e) =
    let same = is_2 like_f (omega arith) s in
    let below = rw same at l in
    let most = length_most limit 600 in
    let place = rw same at e in
    ⊎_elim
    (λ (m : j < 512). let at = place ∙ place_2 like_f (omega arith) j m in inr (inr (inr (inl (omega arith)))))
    (λ (m : 512 ≤ j). let at = place ∙ last_2 like_f (omega arith) j m (omega arith) in inr (inr (inr (inr (inl (omega arith))))))
    (below_or j 512)

parts_1 : (limit : Option ℕ) → Parts 1 limit ((1024, 1036) ∷ [])
parts_1 limit i (Part.start w) = inl w
parts_1 limit i (Part.word _ (Read.count a b)) = inr (inl (omega arith))
parts_1 limit i (Part.word _ (Read.size a b c)) = inr (inl (omega arith))
parts_1 limit i (Part.word _ (Read.own s a b)) = absurd (not_1 like_f (omega arith) s)
parts_1 limit i (Part.byte s l e) = absurd (not_1 like_f (omega arith) s)

parts_more : (k : ℕ) (limit : Option ℕ) → 3 ≤ k → Parts k limit ((1024, 1028) ∷ [])
parts_more k limit l i (Part.start w) = inl w
parts_more k limit l i (Part.word _ (Read.count a b)) = inr (inl (omega arith))
parts_more k limit l i (Part.word _ (Read.size a b c)) = absurd (omega arith)
parts_more k limit l i (Part.word _ (Read.own s a b)) = absurd (let x = (skipped_is like_f (omega arith) k s).below in omega arith)
parts_more k limit l i (Part.byte s m e) = absurd (let x = (skipped_is like_f (omega arith) k s).below in omega arith)

-- ---- beside the ranges
-- whether a range has no byte from a up to b, and whether none has
apart : ℕ × ℕ → ℕ → ℕ → Bool
apart range a b = cond (leb range.1 a) true (leb b range.0)

clear : List (ℕ × ℕ) → ℕ → ℕ → Bool
clear [] a b = true
clear (range ∷ rest) a b = cond (apart range a b) (clear rest a b) false

off_one : (range : ℕ × ℕ) {a b : ℕ} (i : ℕ) → a ≤ i → i < b → apart range a b ≡ true → range.0 ≤ i → i < range.1 → ⊥
unfolding apart
off_one range {a} {b} i l m c x y = go (leb range.1 a) refl c
  where
    go : (t : Bool) → leb range.1 a ≡ t → cond t true (leb b range.0) ≡ true → ⊥
    go true e d = omega (arith, leb-true)
    go false e d = omega (arith, leb-true)

off : (ranges : List (ℕ × ℕ)) {a b : ℕ} (i : ℕ) → a ≤ i → i < b → clear ranges a b ≡ true → Within ranges i → ⊥
unfolding clear
off [] {a = a} {b = b} i l m c x4 = elim x4 [ ]
off (range ∷ rest) {a} {b} i l m c (inl x) = off_one range i l m (and_true (apart range a b) (clear rest a b) c).0 x.0 x.1
off (range ∷ rest) {a} {b} i l m c (inr x) = off rest i l m (and_true (apart range a b) (clear rest a b) c).1 x

beside : (ranges : List (ℕ × ℕ)) {a b : ℕ} (i : ℕ) → a ≤ i → i < b → clear start_f a b ≡ true → clear ranges a b ≡ true → Within start_f i ⊎ Within ranges i → ⊥
beside ranges i l m c d = ⊎_elim (off start_f i l m c) (off ranges i l m d)

-- every stream's bytes stand past page 4
past_four : {g : File} {n : ℕ} → Like g n → n ≤ 36 → (k : ℕ) (limit : Option ℕ) {j : ℕ} {x : Found} → skipped_to g 6144 k ≡ Ok x → j < length_of limit x.size → 1280 ≤ through x.header.pagesize (own_page g x) j
past_four like small zero limit {j} s l =
    let same = is_0 like small s in
    let below = rw same at l in
    let most = length_most limit 300 in
    rw (same, place_0 like small j (omega arith)) (omega arith)
past_four like small (suc zero) limit s l = absurd (not_1 like small s)
past_four like small (suc (suc zero)) limit {j} s l =
    let same = is_2 like small s in
    let below = rw same at l in
    let most = length_most limit 600 in
    ⊎_elim
    (λ (m : j < 512). rw (same, place_2 like small j m) (omega arith))
    (λ (m : 512 ≤ j). rw (same, last_2 like small j m (omega arith)) (omega arith))
    (below_or j 512)
past_four like small (suc (suc (suc k))) limit s l = absurd (let below = (skipped_is like small (suc (suc (suc k))) s).below in omega arith)

not_held : (n k i : ℕ) → n ≤ 36 → 1024 + 4 * (n / 4) ≤ i → i < 1280 → NotListed (changed F 44 n) k i
unfolding apart clear
not_held n k i small l m limit x = go (part (like_short n) small k limit i x)
  where
    go : Part (changed F 44 n) n k limit i → ⊥
    go (Part.start w) = let past : 1024 ≤ i = omega arith in off start_f i past m refl w
    go (Part.word h _) = omega arith
    go (Part.byte s b e) = let past = past_four (like_short n) small k limit s b in omega arith

list : (k : ℕ) (limit : Option ℕ) (i : ℕ) → ListedBytes F 6144 k limit i → Part F 36 k limit i
list = part like_f (omega arith)

pub not_too_much : NotTooMuch
unfolding apart clear
not_too_much =
    record {
      stream_0 = λ limit i x. parts_0 limit _ (le_refl _) i (list 0 limit i x);
      stream_2 = λ limit i x. parts_2 limit _ (le_refl _) i (list 2 limit i x);
      stream_1 = λ limit i x. parts_1 limit i (list 1 limit i x);
      not_below = λ k limit l i x. parts_more k limit l i (list k limit i x);
      not_held = not_held;
      free_page_map = λ k i l m limit x. no_free_map F 6144 i like_f.big l m (first_256 F 6144 k limit i (omega arith) x);
      reserved = λ k i l m limit x. no_reserved F 6144 i l m (first_256 F 6144 k limit i (omega arith) x);
      sizes_after = λ i l m limit x. beside (stream_zero 300) i l m refl refl (parts_0 limit _ (length_most limit 300) i (list 0 limit i x));
      entries_of_0 = λ i l m limit x. beside (stream_two 600) i l m refl refl (parts_2 limit _ (length_most limit 600) i (list 2 limit i x));
      entries_of_2 = λ i l m limit x. beside (stream_zero 300) i l m refl refl (parts_0 limit _ (length_most limit 300) i (list 0 limit i x));
      pages_of_0 = λ i l m limit x. beside (stream_two 600) i l m refl refl (parts_2 limit _ (length_most limit 600) i (list 2 limit i x));
      slack = λ i l m x. beside (stream_two 600) i l m refl refl (parts_2 None 600 (omega arith) i (list 2 None i x));
      past_the_cut = λ i l m x. beside (stream_two 513) i l m refl refl (parts_2 (Some 513) 513 (omega arith) i (list 2 (Some 513) i x));
      page_four = λ k i l. not_held 0 k i (omega arith) (omega arith);
    }
