-- The file part by part: the header's page, the streams one after another, the directory, the location page and padding.
use mathlib.Core.Path.{◌≡◌, refl, sym, ◌∙◌, ap}
use mathlib.Core.Bool.{Bool, true, false, cond}
use mathlib.Core.Logic.{⊎_elim}
use mathlib.Core.List.{List}
use Prim.Native.Nat.{ℕ, ◌+◌, ◌-◌, ◌*◌, ◌/◌, ◌^◌, ◌≤◌, ◌<◌}
use native.Mathlib.Omega.{arith}
use native.Mathlib.Nat.{add-mul, le_antisymm}
use lib.Dec.{eqb}
use lib.ListN.{length, get_or, take, drop, length-take, length-drop, get_or-eq_default}
use lib.Seq.{get_or-take, get_or-drop}
use mir.Syntax.{w64}
use mir.Val.{Fits}
use Rattle.outcome.proofs.OutcomeLaws.{below_or}
use Rattle.parse_buffer.specs.Bytes.{byte_at}
use Rattle.paged.specs.PageSize.{need}
use Rattle.header.specs.Header.{big_magic}
use Rattle.stream.specs.Stream.{absent, pages_of}
use Rattle.store.specs.Putting.{Putting}
use Rattle.container_layout.specs.Place.{pages_with, after}
use Rattle.container_layout.specs.Layout.{present_bytes, bytes_up_to, pages_up_to}
use Rattle.container_layout.specs.Container.{number_bytes, header_numbers, header_byte, data_byte, container}
use Rattle.container_layout.specs.Inner.{Sized}
use Rattle.container_layout.specs.declared.layout.Layout.{Layout}
use Rattle.container_layout.proofs.PlaceLaws.{times_le, after_one, after_some, after_rises}
use Rattle.container_layout.proofs.LayoutLaws.{bytes_next, bytes_rise, pages_next, pages_rise, size_fours}
use Rattle.container_layout.proofs.ContainerLaws.{header_magic, header_number, stream_inside, stream_past, data_stream, container_pages}
use Rattle.container_layout.specs.Laid.{Laid}
use Rattle.container_pages.specs.Inner.{Filled, numbers_from, map_of}
use Rattle.container_pages.proofs.FillLaws.{filled_none, filled_more, filled_as, filled_put}
use Rattle.container_layout.proofs.LaidLaws.{laid_streams, laid_directory, laid_last, laid_used, laid_ranks, laid_bounds}
use Rattle.container_parts.specs.Inner.{Room, PartFilled, Streaming}
use Rattle.container_writer.specs.Inner.{Given, Streams}
use Rattle.container_parts.proofs.PartLaws.{size_three, same_pages}
use Rattle.container_parts.proofs.StreamLaws.{need_none}

-- ---- `write_header`
module _ {l : Layout} {sizes : List ℕ} (d : Laid l sizes) {o o₁ o₂ : List ℕ} {r : ℕ} (p : Putting big_magic o 0 o₁ r) (x : Filled (numbers_from (header_numbers l.pagesize sizes) 0 32) o₁ 32 (32 + 4 * ((l.pagesize - 32) / 4)) o₂) where
  is_magic : (i : ℕ) → 0 ≤ i → i < r → get_or big_magic (i - 0) 0 ≡ header_byte l.pagesize sizes i
  is_magic i _ h =
      let e : i - 0 ≡ i = omega arith in
      ap (byte_at big_magic) e ∙ sym (header_magic l.pagesize sizes i (omega (arith, p.place)))

  is_number : (i : ℕ) → 32 ≤ i → i < 32 + 4 * ((l.pagesize - 32) / 4) → numbers_from (header_numbers l.pagesize sizes) 0 32 i ≡ header_byte l.pagesize sizes i
  is_number i h _ =
      let e : 4 * 0 + (i - 32) ≡ i - 32 = omega arith in
      ap (number_bytes (header_numbers l.pagesize sizes)) e ∙ sym (header_number l.pagesize sizes i h)

  pub header_written : Filled (header_byte l.pagesize sizes) o 0 l.pagesize o₂
  header_written =
      let s = d.size.least in
      let all : 32 + 4 * ((l.pagesize - 32) / 4) ≡ l.pagesize = omega (arith, size_fours l.pagesize d.size) in
      let at : r ≡ 32 = p.place in
      to all (filled_more (omega arith) (omega arith) (to at (filled_as is_magic (filled_put p))) (filled_as is_number x))
    where
      to : {f : ℕ → ℕ} {a b c : ℕ} {u v : List ℕ} → b ≡ c → Filled f u a b v → Filled f u a c v
      to e y = rw (← e) y

-- ---- a part of the file, and the same part alone
module _ (l : Layout) (sizes bytes : List ℕ) (d : Laid l sizes) where
  file_pages : (i : ℕ) → l.pagesize ≤ i → container l.pagesize sizes bytes i ≡ pages_with l.pagesize (map_of l) (data_byte l.pagesize sizes bytes) i
  file_pages i h =
      container_pages l.pagesize (size_three d.size) sizes bytes i h ∙ rw (laid_last d, laid_used d)

  -- whose data is the file's
  pub filled_part : (first next : ℕ) {content : ℕ → ℕ} {o o' : List ℕ} → ((y : ℕ) → y < (next - first) * l.pagesize → content y ≡ data_byte l.pagesize sizes bytes (first * l.pagesize + y)) → first ≤ next → PartFilled l first next content o o' → Filled (container l.pagesize sizes bytes) o (after l.pagesize first * l.pagesize) (after l.pagesize next * l.pagesize) o'
  filled_part first next {content} same order x =
      let s = size_three d.size in
      filled_as (λ i u v. same_pages l.pagesize s (map_of l) first next in_data i u v ∙ sym (file_pages i (omega (arith, first_page u)))) x
    where
      first_page : {i : ℕ} → after l.pagesize first * l.pagesize ≤ i → l.pagesize ≤ i
      first_page u = omega (arith, times_le l.pagesize {a = 1} (after_some l.pagesize (size_three d.size) first))

      in_data : (j : ℕ) → first * l.pagesize ≤ j → j < next * l.pagesize → content (j - first * l.pagesize) ≡ data_byte l.pagesize sizes bytes j
      in_data j u v =
          let y : first * l.pagesize + (j - first * l.pagesize) ≡ j = omega arith in
          let e : first + (next - first) ≡ next = omega arith in
          same (j - first * l.pagesize) (omega (arith, add-mul first (next - first) l.pagesize, ap (λ n. n * l.pagesize) e)) ∙ ap (data_byte l.pagesize sizes bytes) y

-- ---- room for the data pages up to the location page
module _ {l : Layout} {sizes : List ℕ} (d : Laid l sizes) (o : List ℕ) (h : l.used * l.pagesize ≤ length o) where
  pub last_after : after l.pagesize (l.streams + l.directory + 1) ≡ l.last + 1
  last_after =
      let s = size_three d.size in
      after_one l.pagesize s (l.streams + l.directory) ∙ ap (λ n. n + 1) (rw (laid_streams d, laid_directory d) (sym (laid_last d)))

  pub file_room : {b : ℕ} → b ≤ l.streams + l.directory + 1 → Room l b (length o)
  file_room {b} m =
      let s = size_three d.size in
      let up = after_rises l.pagesize s b (l.streams + l.directory + 1) m in
      let under : after l.pagesize b ≤ l.used = omega (arith, last_after, (laid_bounds d).last) in
      record { few = omega (arith, laid_ranks d); fits = omega (arith, times_le l.pagesize under) }

-- ---- `write_streams`: the streams before k are written
pub record StreamsSoFar (l : Layout) (sizes bytes o o₁ : List ℕ) (k at r : ℕ) : Type 0 where
  pub filled : Filled (container l.pagesize sizes bytes) o l.pagesize (after l.pagesize r * l.pagesize) o₁
  pub bytes_are : at ≡ bytes_up_to sizes k
  pub pages_are : r ≡ pages_up_to l.pagesize sizes k
  pub within : k ≤ length sizes
  pub room : l.used * l.pagesize ≤ length o

pub streams_none : (l : Layout) (sizes bytes o : List ℕ) → l.used * l.pagesize ≤ length o → StreamsSoFar l sizes bytes o o 0 0 0
unfolding bytes_up_to pages_up_to
streams_none l sizes bytes o h =
    let e : 1 * l.pagesize ≡ l.pagesize = omega arith in
    record {
      filled = to e (filled_none _ o l.pagesize);
      bytes_are = refl;
      pages_are = refl;
      within = omega arith;
      room = h;
    }
  where
    to : {f : ℕ → ℕ} {a b : ℕ} {u v : List ℕ} → b ≡ a → Filled f u a a v → Filled f u a b v
    to e y = rw e y

-- the pages of a stream are those that its bytes take
pub present_pages : (p : ℕ) → 0 < p → (size : ℕ) → need p (present_bytes size) ≡ pages_of p size
unfolding present_bytes pages_of
present_pages p h size = go (eqb size absent)
  where
    go : (b : Bool) → need p (cond b 0 size) ≡ cond b 0 (need p size)
    go true = need_none p h
    go false = refl

module _ {l : Layout} {sizes bytes o o₁ : List ℕ} (d : Laid l sizes) (v : Given l.pagesize sizes bytes) {k at r : ℕ} (w : StreamsSoFar l sizes bytes o o₁ k at r) where
  pos : 0 < l.pagesize
  pos = let s = size_three d.size in omega arith

  module _ (m : k < length sizes) {n : ℕ} (e : Sized (get_or sizes k 0) n) where
    pub streams_part : at + n ≤ length bytes
    streams_part = omega (arith, w.bytes_are, e.is, v.all, bytes_next sizes k, bytes_rise sizes (k + 1) (length sizes) (omega arith))

    own : length (take (at + n - at) (drop at bytes)) ≡ n
    own = simp (length-take, length-drop) (omega (arith, streams_part))

    next_rank : r + need l.pagesize n ≡ pages_up_to l.pagesize sizes (k + 1)
    next_rank = omega (arith, w.pages_are, pages_next sizes l.pagesize k, ap (need l.pagesize) e.is, present_pages l.pagesize pos (get_or sizes k 0))

    pub streams_fits : Fits w64 (at + n)
    streams_fits = record { fits = omega (arith, streams_part, v.short) }

    pub streams_short : length (take (at + n - at) (drop at bytes)) < 2 ^ 32
    streams_short = rw own e.small

    pub streams_room : Room l (r + need l.pagesize (length (take (at + n - at) (drop at bytes)))) (length o₁)
    streams_room =
        rw (own, w.filled.same)
        (file_room d o w.room (omega (arith, next_rank, laid_streams d, pages_rise sizes l.pagesize (k + 1) (length sizes) (omega arith))))

    -- a byte of the stream, and zeros after it
    same : (y : ℕ) → y < pages_of l.pagesize (get_or sizes k 0) * l.pagesize → byte_at (take (at + n - at) (drop at bytes)) y ≡ data_byte l.pagesize sizes bytes (r * l.pagesize + y)
    same y h =
        let place : pages_up_to l.pagesize sizes k * l.pagesize + y ≡ r * l.pagesize + y = omega (arith, ap (λ q. q * l.pagesize) w.pages_are) in
        let there = data_stream l.pagesize (size_three d.size) sizes bytes k m y h in
        ⊎_elim
        (λ (z : y < n).
        get_or-take (at + n - at) (drop at bytes) y 0 (omega arith) ∙ get_or-drop at bytes y 0 ∙ ap (λ q. byte_at bytes (q + y)) w.bytes_are
        ∙ sym (sym (ap (data_byte l.pagesize sizes bytes) place) ∙ there ∙ stream_inside sizes bytes k y (omega (arith, e.is))))
        (λ (z : n ≤ y).
        get_or-eq_default (take (at + n - at) (drop at bytes)) 0 (rw own z)
        ∙ sym (sym (ap (data_byte l.pagesize sizes bytes) place) ∙ there ∙ stream_past sizes bytes k y (omega (arith, e.is))))
        (below_or y n)

    pub streams_more : {o₂ : List ℕ} {next : ℕ} → Streaming l r (take (at + n - at) (drop at bytes)) o₁ next o₂ → StreamsSoFar l sizes bytes o o₂ (k + 1) (at + n) next
    streams_more {o₂} {next} x =
        let s = size_three d.size in
        let is : next ≡ r + need l.pagesize n = x.next ∙ ap (λ (q : ℕ). r + need l.pagesize q) own in
        let pages : next - r ≡ pages_of l.pagesize (get_or sizes k 0) = omega (arith, ap (need l.pagesize) e.is, present_pages l.pagesize pos (get_or sizes k 0)) in
        let from : l.pagesize ≤ after l.pagesize r * l.pagesize = (let t = times_le l.pagesize {a = 1} (after_some l.pagesize s r) in omega arith) in
        record {
          filled = filled_more from (times_le l.pagesize (after_rises l.pagesize s r next (omega arith))) w.filled (filled_part l sizes bytes d r next (λ y h. same y (rw (← pages) h)) (omega arith) x.filled);
          bytes_are = omega (arith, w.bytes_are, e.is, bytes_next sizes k);
          pages_are = omega (arith, next_rank);
          within = omega arith;
          room = w.room;
        }

  pub streams_all : length sizes ≤ k → Streams l sizes bytes o o₁
  streams_all h =
      let e : r ≡ l.streams = w.pages_are ∙ ap (pages_up_to l.pagesize sizes) (le_antisymm w.within h) ∙ sym (laid_streams d) in
      record { filled = at_rank e w.filled }
    where
      at_rank : {a b : ℕ} → a ≡ b → Filled (container l.pagesize sizes bytes) o l.pagesize (after l.pagesize a * l.pagesize) o₁ → Filled (container l.pagesize sizes bytes) o l.pagesize (after l.pagesize b * l.pagesize) o₁
      at_rank e y = rw (← e) y

pub ruleset streaming = (streams_none, streams_fits, streams_short, streams_all)
