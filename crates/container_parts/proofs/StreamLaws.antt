-- A stream copied a run at a time: what stands in the store after i bytes, and that all of them fill its pages.
use mathlib.Core.Path.{◌≡◌, sym, ◌∙◌, ap}
use mathlib.Core.Logic.{⊎_elim}
use mathlib.Core.List.{List}
use Prim.Native.Nat.{ℕ, ◌+◌, ◌-◌, ◌*◌, ◌/◌, ◌%◌, ◌^◌, min, ◌≤◌, ◌<◌}
use native.Mathlib.Omega.{arith}
use native.Mathlib.Nat.{add-mul, mod-lt, mul-add-div_right, le_antisymm, div-eq_of_lt}
use lib.ListN.{length, get_or, take, drop, length-take, length-drop, get_or-eq_default}
use lib.Seq.{get_or-take, get_or-drop}
use mir.Syntax.{w64}
use mir.Val.{Fits}
use Rattle.outcome.proofs.OutcomeLaws.{below_or}
use Rattle.parse_buffer.specs.Bytes.{byte_at}
use Rattle.paged.specs.PageSize.{need}
use Rattle.paged.proofs.SizeLaws.{need_le, need_covers, need_least, need_rises, at_most_largest}
use Rattle.store.specs.Putting.{Putting}
use Rattle.container_layout.specs.Place.{data_page, after}
use Rattle.container_layout.specs.declared.layout.Layout.{Layout}
use Rattle.container_layout.proofs.PlaceLaws.{times_le, data_next, after_one, after_most, after_rises}
use Rattle.container_layout.proofs.LayoutLaws.{data_most}
use Rattle.container_layout.specs.Laid.{Bounds}
use Rattle.container_pages.specs.Inner.{Filled, Within, Beginning}
use Rattle.container_pages.proofs.FillLaws.{filled_none, filled_more, filled_as, filled_put}
use Rattle.container_parts.specs.Inner.{Room, InRun, part, PartFilled, Streaming}
use Rattle.container_parts.proofs.PartLaws.{size_three, same_pages, part_run, room_run}

-- ---- need(b) after whole pages
module _ (p : ℕ) (h : 0 < p) where
  pub need_none : need p 0 ≡ 0
  unfolding need
  need_none = div-eq_of_lt (omega arith)

  pub need_after : (a b : ℕ) → need p (a * p + b) ≡ a + need p b
  unfolding need
  need_after a b =
      let e : a * p + b + p - 1 ≡ a * p + (b + p - 1) = omega arith in
      ap (λ n. n / p) e ∙ mul-add-div_right h a (b + p - 1)

  pub need_whole : (a : ℕ) → need p (a * p) ≡ a
  need_whole a =
      let e : a * p ≡ a * p + 0 = omega arith in ap (need p) e ∙ need_after a 0 ∙ omega (arith, need_none)

  -- something takes a page
  pub need_some : (b : ℕ) → 0 < b → 0 < need p b
  need_some b l =
      ⊎_elim (λ (z : need p b < 1). absurd (let e : need p b ≡ 0 = omega arith in omega (arith, need_covers p b h, ap (λ n. n * p) e)))
      (λ (z : 1 ≤ need p b). z)
      (below_or (need p b) 1)

-- ---- `write_run`: pages with no map page between
module _ {l : Layout} (b : Bounds l) {r : ℕ} (run o : List ℕ) (q : InRun l r (length run)) (h : Room l (r + need l.pagesize (length run)) (length o)) where
  three : 3 ≤ l.pagesize
  three = size_three b.size

  pages_some : 0 < need l.pagesize (length run)
  pages_some = need_some l.pagesize (omega (arith, three)) (length run) q.some

  covers : length run ≤ need l.pagesize (length run) * l.pagesize
  covers = need_covers l.pagesize (length run) (omega (arith, three))

  room : data_page l.pagesize r * l.pagesize + need l.pagesize (length run) * l.pagesize ≤ length o
  room = room_run b.size h r (omega (arith, pages_some)) (need l.pagesize (length run)) pages_some q.fits (omega arith)

  pub run_rank : r < 2 ^ 32
  run_rank = omega (arith, h.few)

  pub run_begins : data_page l.pagesize r * l.pagesize ≤ length o
  run_begins = omega (arith, room)

  module _ {at : ℕ} {o₂ : List ℕ} (g : Beginning l r at o o₂) where
    ends : at + need l.pagesize (length run) * l.pagesize ≤ length o₂
    ends = omega (arith, room, g.place, (g.maps (λ j. j)).same)

    pub run_room : at + length run ≤ length o₂
    run_room = omega (arith, ends, covers)

    module _ {pages : ℕ} (f : pages ≡ need l.pagesize (length run)) where
      ends_at : at + pages * l.pagesize ≤ length o₂
      ends_at = rw f ends

      pages_fit : pages * l.pagesize ≤ 2 ^ 32 * 2 ^ 23
      pages_fit =
          omega (arith, at_most_largest pages b.size, need_le l.pagesize (length run) (omega (arith, three)), q.few)

      pub run_bytes : Fits w64 (pages * l.pagesize)
      run_bytes = record { fits = omega (arith, pages_fit) }

      pub run_end : Fits w64 (at + pages * l.pagesize)
      run_end =
          let d = data_most l.pagesize r (let s = b.size.least in omega arith) in
          record { fits = omega (arith, pages_fit, g.place, at_most_largest (data_page l.pagesize r) b.size, run_rank) }

      pub run_next : Fits w64 (r + pages)
      run_next = record { fits = omega (arith, h.few) }

      module _ {o₃ : List ℕ} {next : ℕ} (p : Putting run o₂ at o₃ next) where
        pub run_tail : Within next (at + pages * l.pagesize) (length o₃)
        run_tail =
            record {
              order = omega (arith, p.place, covers, ap (λ n. n * l.pagesize) f);
              fits = omega (arith, ends_at, (filled_put p).same);
            }

        byte : (y : ℕ) → y < pages * l.pagesize → part l r (byte_at run) (at + y) ≡ byte_at run y
        byte y m =
            let z : r + 0 ≡ r = omega arith in
            let u : at + y ≡ data_page l.pagesize (r + 0) * l.pagesize + y = rw z (omega (arith, g.place)) in
            let v : 0 * l.pagesize + y ≡ y = omega arith in
            ap (part l r (byte_at run)) u ∙ part_run l b.size r (byte_at run) 0 pages y (rw (z, f) q.fits) m ∙ ap (byte_at run) v

        copied : (j : ℕ) → at ≤ j → j < next → get_or run (j - at) 0 ≡ part l r (byte_at run) j
        copied j u v =
            let y : j ≡ at + (j - at) = omega arith in
            sym (ap (part l r (byte_at run)) y ∙ byte (j - at) (omega (arith, p.place, covers, ap (λ n. n * l.pagesize) f)))

        zeroed : (j : ℕ) → next ≤ j → j < at + pages * l.pagesize → 0 ≡ part l r (byte_at run) j
        zeroed j u v =
            let y : j ≡ at + (j - at) = omega (arith, p.place) in
            let z : length run ≤ j - at = omega (arith, p.place) in
            sym (ap (part l r (byte_at run)) y ∙ byte (j - at) (omega (arith, p.place)) ∙ get_or-eq_default run 0 z)

        to : after l.pagesize (r + pages) * l.pagesize ≡ at + pages * l.pagesize
        to =
            let j : ℕ = pages - 1 in
            let d : r + pages ≡ r + j + 1 = omega (arith, pages_some) in
            let n = data_next l.pagesize three r j (omega (arith, pages_some, q.fits)) in
            let a : after l.pagesize (r + pages) ≡ data_page l.pagesize r + pages = ap (after l.pagesize) d ∙ after_one l.pagesize three (r + j) ∙ omega (arith, pages_some) in
            omega (arith, g.place, ap (λ n. n * l.pagesize) a, add-mul (data_page l.pagesize r) pages l.pagesize)

        pub run_written : {o₄ : List ℕ} → Filled (λ _. 0) o₃ next (at + pages * l.pagesize) o₄ → Streaming l r run o (r + pages) o₄
        run_written z =
            let order = run_tail.order in
            record {
              next = ap (λ n. r + n) f;
              filled = rw to
                  (filled_more (omega (arith, g.place, times_le l.pagesize (after_most l.pagesize three r))) (omega (arith, p.place))
                  (g.maps (λ j. byte_at run (j - r * l.pagesize)))
                  (filled_more (omega (arith, p.place)) order (filled_as copied (filled_put p)) (filled_as zeroed z)));
            }

pub ruleset running = (run_rank, run_begins, run_room, run_bytes, run_end, run_next)

pub run_mul : {l : Layout} → Bounds l → {m : ℕ} (rest : ℕ) → m ≡ l.pagesize - 2 - rest → Fits w64 (m * l.pagesize)
run_mul {l} b {m} rest c = let s = b.size.most in record { fits = omega (arith, at_most_largest m b.size) }

-- ---- `write_stream`: i bytes of the stream are written, in whole pages but for its end
pub record StreamSoFar (l : Layout) (first : ℕ) (stream o o₁ : List ℕ) (i r : ℕ) : Type 0 where
  pub filled : PartFilled l first r (byte_at stream) o o₁
  pub rank : r ≡ first + need l.pagesize i
  pub whole : i < length stream → i ≡ need l.pagesize i * l.pagesize
  pub within : i ≤ length stream
  pub room : Room l (first + need l.pagesize (length stream)) (length o)

pub stream_none : {l : Layout} → Bounds l → (first : ℕ) (stream o : List ℕ) → Room l (first + need l.pagesize (length stream)) (length o) → StreamSoFar l first stream o o 0 first
stream_none {l} b first stream o h =
    let s = size_three b.size in
    let z = need_none l.pagesize (omega arith) in
    record {
      filled = filled_none _ o _;
      rank = omega arith;
      whole = λ _. omega (arith, ap (λ n. n * l.pagesize) z);
      within = omega arith;
      room = h;
    }

module _ {l : Layout} (b : Bounds l) {first : ℕ} {stream o o₁ : List ℕ} {i r : ℕ} (w : StreamSoFar l first stream o o₁ i r) where
  pos : 0 < l.pagesize
  pos = let s = size_three b.size in omega arith

  module _ (k : i < length stream) {m : ℕ} (c : m ≡ l.pagesize - 2 - r % (l.pagesize - 2)) where
    module _ {n : ℕ} (e : n ≡ min (m * l.pagesize) (length stream - i)) where
      run_some : 0 < m
      run_some =
          let s = size_three b.size in
          let t : r % (l.pagesize - 2) < l.pagesize - 2 = mod-lt r (omega arith) in
          omega arith

      some : 0 < n
      some = omega (arith, times_le l.pagesize {a = 1} {b = m} run_some, pos)

      inside : i + n ≤ length stream
      inside = omega arith

      pub stream_less : length stream - (i + n) < length stream - i
      stream_less = omega (arith, some)

      run_length : length (take (i + n - i) (drop i stream)) ≡ n
      run_length = simp (length-take, length-drop) (omega arith)

      -- what the stream takes with it
      after_run : need l.pagesize (i + n) ≡ need l.pagesize i + need l.pagesize n
      after_run =
          let sum : i + n ≡ need l.pagesize i * l.pagesize + n = omega (arith, w.whole k) in
          ap (need l.pagesize) sum ∙ need_after l.pagesize pos (need l.pagesize i) n

      pub stream_in_run : length stream < 2 ^ 32 → InRun l r (length (take (i + n - i) (drop i stream)))
      stream_in_run h =
          let t : r % (l.pagesize - 2) < l.pagesize - 2 = (let s = size_three b.size in mod-lt r (omega arith)) in
          rw run_length
          (record { some = some; few = omega arith; fits = omega (arith, need_least l.pagesize n pos m (omega arith)) })

      pub stream_room : Room l (r + need l.pagesize (length (take (i + n - i) (drop i stream)))) (length o₁)
      stream_room =
          let s = size_three b.size in
          let few : r + need l.pagesize n ≤ first + need l.pagesize (length stream) = omega (arith, w.rank, after_run, need_rises l.pagesize pos inside) in
          rw (run_length, w.filled.same)
          (record {
            few = omega (arith, w.room.few);
            fits = omega (arith, w.room.fits, times_le l.pagesize (after_rises l.pagesize s (r + need l.pagesize n) (first + need l.pagesize (length stream)) few));
          })

      -- only the last run leaves something of its last page
      tail : (y : ℕ) → n ≤ y → y < need l.pagesize n * l.pagesize → length stream ≤ i + y
      tail y h j =
          ⊎_elim (λ (z : length stream - i < m * l.pagesize). omega arith)
          (λ (z : m * l.pagesize ≤ length stream - i).
          absurd (let all : n ≡ m * l.pagesize = omega arith in omega (arith, ap (λ q. q * l.pagesize) (ap (need l.pagesize) all ∙ need_whole l.pagesize pos m))))
          (below_or (length stream - i) (m * l.pagesize))

      same : (j : ℕ) → r * l.pagesize ≤ j → j < (r + need l.pagesize n) * l.pagesize → byte_at (take (i + n - i) (drop i stream)) (j - r * l.pagesize) ≡ byte_at stream (j - first * l.pagesize)
      same j u v =
          let y : ℕ = j - r * l.pagesize in
          let d : r * l.pagesize ≡ first * l.pagesize + i = ap (λ q. q * l.pagesize) w.rank ∙ omega (arith, add-mul first (need l.pagesize i) l.pagesize, w.whole k) in
          let at : i + y ≡ j - first * l.pagesize = omega arith in
          ⊎_elim
          (λ (z : y < n). get_or-take (i + n - i) (drop i stream) y 0 (omega arith) ∙ get_or-drop i stream y 0 ∙ ap (byte_at stream) at)
          (λ (z : n ≤ y).
          let past : length stream ≤ i + y = tail y z (omega (arith, add-mul r (need l.pagesize n) l.pagesize)) in
          get_or-eq_default (take (i + n - i) (drop i stream)) 0 (rw run_length z) ∙ sym (get_or-eq_default stream 0 past) ∙ ap (byte_at stream) at)
          (below_or y n)

      pub stream_more : {o₂ : List ℕ} {next : ℕ} → Streaming l r (take (i + n - i) (drop i stream)) o₁ next o₂ → StreamSoFar l first stream o o₂ (i + n) next
      stream_more {o₂} {next} x =
          let s = size_three b.size in
          let on : next ≡ r + need l.pagesize n = x.next ∙ ap (λ (q : ℕ). r + need l.pagesize q) run_length in
          let up = times_le l.pagesize (after_rises l.pagesize s first r (omega (arith, w.rank))) in
          let over = times_le l.pagesize (after_rises l.pagesize s r next (omega arith)) in
          record {
            filled = filled_more up over w.filled (filled_as (same_pages l.pagesize s _ r next (λ j u v. same j u (rw (← on) v))) x.filled);
            rank = omega (arith, w.rank, after_run);
            whole = λ h.
                let all : n ≡ m * l.pagesize = omega arith in
                let each : need l.pagesize n ≡ m = ap (need l.pagesize) all ∙ need_whole l.pagesize pos m in
                let t : need l.pagesize (i + n) ≡ need l.pagesize i + m = omega (arith, after_run) in
                omega (arith, ap (λ q. q * l.pagesize) t, add-mul (need l.pagesize i) m l.pagesize, w.whole k);
            within = inside;
            room = w.room;
          }

  pub stream_all : length stream ≤ i → Streaming l first stream o r o₁
  stream_all h =
      record { next = w.rank ∙ ap (λ n. first + need l.pagesize n) (le_antisymm w.within h); filled = w.filled }

pub ruleset streaming = (stream_none, run_mul, stream_less, stream_all)
