-- What a line shows is the answer of mapping its stream afresh, and the carried count is the pages of the streams before it.
use mathlib.Core.Path.{◌≡◌, refl, sym, ◌∙◌}
use mathlib.Core.Bool.{not}
use mathlib.Core.List.{List, ◌++◌}
use Prim.Native.Nat.{ℕ, zero, suc, ◌+◌, ◌-◌, ◌*◌, ◌/◌, ◌^◌, ◌≤◌, ◌<◌}
use native.Mathlib.Omega.{arith}
use native.Mathlib.Nat.{mul-le-mul_left}
use borrow.Author.Tests.{le-leb, lt-ltb, eq-eqb, ne_eqb}
use lib.Dec.{eqb}
use lib.ListN.{length}
use mir.Syntax.{w64}
use mir.Val.{Fits}
use Rattle.std.specs.Prelude.{Option, Some, None, Result, Ok, Err}
use Rattle.outcome.specs.Outcome.{and_next, and_then, ◌>>◌, require, raise}
use Rattle.outcome.proofs.OutcomeLaws.{by_test}
use Rattle.store.specs.Putting.{Putting}
use Rattle.store.proofs.PutLaws.{puts_more}
use Rattle.parse_buffer.specs.Bytes.{File}
use Rattle.paged.specs.Refusal.{refusal_in}
use Rattle.paged.specs.PageSize.{need}
use Rattle.paged.specs.Pages.{directory_word}
use Rattle.paged.proofs.SizeLaws.{need_least}
use Rattle.paged.specs.declared.refusal.Refusal.{Refusal}
use Rattle.paged.specs.declared.pages.Pages.TheVariants.{Stream}
use Rattle.runs.specs.Inner.{Lying}
use Rattle.directory.proofs.DirectoryLaws.{reached_lies}
use Rattle.slices.specs.Inner.{slices_through}
use Rattle.stream.specs.Stream.{absent, size_at, present, pages_of, skipped_to, found}
use Rattle.stream.specs.Inner.{Before, Skipped, Finding}
use Rattle.stream.proofs.StreamLaws.{before_none, before_one}
use Rattle.stream.proofs.FindLaws.{found_not_5}
use Rattle.stream.specs.declared.Found.{Found}
use Rattle.extent.specs.Extent.{asked_of, asked, extent_of}
use Rattle.extent.specs.Inner.{EntriesLie}
use Rattle.extent.proofs.ExtentLaws.{first_lie}
use Rattle.extent.specs.declared.Extent.{Extent}
use Rattle.mapping.specs.Mapping.{mapped}
use Rattle.listing_text.specs.Text.{head_text, size_text, absent_text, refusal_text}
use Rattle.listing_whole.specs.Inner.{Whole}
use Rattle.listing_whole.proofs.WholeLaws.{whole_at, whole_size}
use Rattle.listing_whole.specs.declared.Listable.{Listable}
use Rattle.listing_line.specs.Line.{Shown, shown_of, shown, shown_text, line_text, line_at}
use Rattle.listing_line.specs.Inner.{shown_in}
use Rattle.listing_line.specs.declared.Shown as code

-- ---- `show`
module _ {f : File} {len k : ℕ} {s : Listable} (w : Whole f len s) (l : k < s.count) where
  pub own_size : 1 + k < 2 ^ 32
  own_size = let few = (whole_at f len w).few in omega arith

  -- of the tests before that of its size none fails
  pub size_decides : present f len k ≡ (require (not (eqb (size_at f s.header.pagesize k) absent)) (record { number = 5; value = k }) >> Ok (record { header = s.header; count = s.count; size = size_at f s.header.pagesize k }))
  unfolding present require and_then and_next
  size_decides =
      let at = whole_at f len w in
      let m = at.sizes in
      rw (at.reached, le-leb 1 (s.header.directory / 4) (omega arith), ← at.count, lt-ltb k s.count l, le-leb (2 + k) (s.header.directory / 4) (omega arith))

  module _ {bytes : ℕ} (b : bytes ≡ directory_word f s.header.pagesize (1 + k)) where
    pub show_absent : bytes ≡ absent → shown_in (Ok None) ≡ shown f len k
    unfolding shown_in shown_of mapped asked found skipped_to require and_then and_next
    show_absent a = rw (size_decides, ← b, eq-eqb bytes absent a)

    pub show_skipped : {before : ℕ} → (bytes ≡ absent → ⊥) → Before f s.header.pagesize k before → Skipped f len k (record { header = s.header; count = s.count; size = bytes }) before
    unfolding require and_next
    show_skipped a before =
        let m = (whole_at f len w).sizes in
        record { is = rw (size_decides, ← b, ne_eqb bytes absent a); sizes = omega arith; pages = before }

    pub show_refused : {before : ℕ} {why : Refusal} → (bytes ≡ absent → ⊥) → Before f s.header.pagesize k before → Finding f len k (Err why) → shown_in (Err why) ≡ shown f len k
    unfolding shown_in shown_of mapped asked raise and_then
    show_refused {why = why} a before p =
        let g : found f len k ≡ Err (refusal_in why) = sym p.answer in
        rw (g, found_not_5 (show_skipped a before) (refusal_in why) g)

module _ {f : File} {len k : ℕ} {x : Found} (p : Finding f len k (Ok x)) where
  found_is : found f len k ≡ Ok x
  unfolding raise
  found_is = sym p.answer

  pub show_lie : {y : Extent} → y ≡ extent_of (asked_of None x) → EntriesLie f len y
  show_lie is = rw is (first_lie f len k None found_is)

  pub show_stream : {y : Extent} {c : ℕ} → y ≡ extent_of (asked_of None x) → c ≡ length (slices_through f y) → shown_in (Ok (Some (record { size = x.size; slices = c }))) ≡ shown f len k
  unfolding shown_in shown_of mapped asked and_then
  show_stream is c = rw (found_is, c, is)

pub ruleset show_cases = (show_absent, show_refused, show_stream)

-- ---- its text
module _ {xs t t₁ t₂ : List ℕ} {r₁ r₂ : ℕ} {l : Result (Option code.Shown) Refusal} (p : Putting xs t 0 t₁ r₁) where
  pub text_stream : {s : code.Shown} → l ≡ Ok (Some s) → Putting (size_text s.size s.slices) t₁ r₁ t₂ r₂ → Putting (xs ++ shown_text (shown_in l)) t 0 t₂ r₂
  unfolding shown_in shown_text
  text_stream e q = rw e (puts_more p q)

  pub text_absent : l ≡ Ok None → Putting absent_text t₁ r₁ t₂ r₂ → Putting (xs ++ shown_text (shown_in l)) t 0 t₂ r₂
  unfolding shown_in shown_text
  text_absent e q = rw e (puts_more p q)

  pub text_refused : {why : Refusal} {number value : ℕ} → l ≡ Err why → number ≡ (refusal_in why).number → value ≡ (refusal_in why).value → Putting (refusal_text (record { number = number; value = value })) t₁ r₁ t₂ r₂ → Putting (xs ++ shown_text (shown_in l)) t 0 t₂ r₂
  unfolding shown_in shown_text
  text_refused e n v q = rw e (puts_more p (rw (n, v) at q))

pub ruleset text_cases = (text_stream, text_absent, text_refused)

-- ---- `write_line`
module _ (f : File) (len n : ℕ) {t t' : List ℕ} {r : ℕ} where
  pub line_head : (i : ℕ) → i ≡ 0 → Putting (head_text n) t 0 t' r → Putting (line_at f len n i) t 0 t' r
  unfolding line_at
  line_head i e p = rw e p

  pub line_shown : (i : ℕ) {y : Shown} → (i ≡ 0 → ⊥) → y ≡ shown f len (i - 1) → Putting (line_text (i - 1) y) t 0 t' r → Putting (line_at f len n i) t 0 t' r
  unfolding line_at
  line_shown zero z e p = absurd (z refl)
  line_shown (suc k) z e p =
      let m : suc k - 1 ≡ k = omega arith in
      rw (e, m) at p

pub ruleset line_cases = (line_head, line_shown)

-- ---- the sizes of the streams before a line's stream lie in the file
pub sizes_lie : {f : File} {len : ℕ} {s : Listable} → Whole f len s → (i : ℕ) → i ≤ 1 + s.count → Lying f len s.header.pagesize (Stream 1) (i - 1)
sizes_lie {f} {len} w i has =
    let at = whole_at f len w in
    let all = at.sizes in
    reached_lies f len 1 (i - 1) at.reached (omega arith)

-- ---- the carried count: at the head, past it, and past a stream
pub past_none : {f : File} {p : ℕ} (i : ℕ) → i ≡ 0 → Before f p (i - 1) 0
past_none {f} {p} i e = rw e (before_none f p)

pub past_head : {f : File} {p b : ℕ} (i : ℕ) → i ≡ 0 → Before f p (i - 1) b → Before f p (i + 1 - 1) b
past_head i e before = rw e (rw e at before)

module _ {f : File} {len : ℕ} {s : Listable} (w : Whole f len s) (i : ℕ) (has : i ≤ s.count) {b n : ℕ} (before : Before f s.header.pagesize (i - 1) b) (size : ℕ) (pages : n ≡ pages_of s.header.pagesize size) (fits : size < 2 ^ 32) where
  -- at most as many as bytes
  few : pages_of s.header.pagesize size ≤ 2 ^ 32
  unfolding pages_of
  few =
      let p = (whole_size w).least in
      let all : size ≤ size * s.header.pagesize = omega (arith, mul-le-mul_left size p) in
      let least : need s.header.pagesize size ≤ size = need_least s.header.pagesize size (omega arith) size all in
      by_test (λ (n : ℕ). n ≤ 2 ^ 32) (eqb size absent) (λ _. omega arith) (λ _. omega arith)

  pub past_fits : Fits w64 (b + n)
  past_fits = let streams = (whole_at f len w).few in record { fits = omega (arith, few, before.small) }

  pub past_stream : (i ≡ 0 → ⊥) → size ≡ directory_word f s.header.pagesize i → Before f s.header.pagesize (i + 1 - 1) (b + n)
  past_stream z is =
      let same : 1 + (i - 1) ≡ i = omega (arith, z) in
      let next : i - 1 + 1 ≡ i + 1 - 1 = omega (arith, z) in
      rw (← next) (before_one f s.header.pagesize before (is ∙ rw same) pages (whole_size w) fits)

pub ruleset past_cases = (past_none, past_head, past_stream)
