-- The whole file, part after part, and the ways out of writing.
use mathlib.Core.Path.{◌≡◌, refl, sym, ◌∙◌, ap}
use mathlib.Core.Logic.{⊎_elim}
use mathlib.Core.List.{List, []}
use Prim.Native.Nat.{ℕ, zero, suc, ◌+◌, ◌-◌, ◌*◌, ◌/◌, ◌%◌, ◌^◌, ◌≤◌, ◌<◌}
use native.Mathlib.Omega.{arith}
use native.Mathlib.Nat.{div-add-mod', div-mul-le_self, mod-lt, le-div_iff_mul-le, div-lt_iff_lt-mul, mul-le-mul, mul_left_comm}
use borrow.Author.Tests.{le-leb, lt-leb}
use lib.ListN.{length, get_or, length-append, get_or-append}
use lib.Seq.{sets, get_or_at}
use mir.Syntax.{w64}
use mir.Val.{Fits}
use Rattle.std.specs.Prelude.{Result, Ok, Err, IsErrAnd}
use Rattle.outcome.specs.Outcome.{and_next, require, raise}
use Rattle.outcome.specs.Store.{written}
use Rattle.outcome.proofs.OutcomeLaws.{below_or}
use Rattle.parse_buffer.specs.Bytes.{File}
use Rattle.paged.specs.PageSize.{need}
use Rattle.paged.proofs.SizeLaws.{at_most_largest}
use Rattle.store.proofs.SetsLaws.{sets_by_entries}
use Rattle.container_layout.specs.Place.{after}
use Rattle.container_layout.specs.Layout.{directory_size, directory_pages, file_length}
use Rattle.container_layout.specs.Container.{number_bytes, header_byte, directory_numbers, location_numbers, container}
use Rattle.container_layout.specs.Refusal.{refusal_in, told}
use Rattle.container_layout.specs.Planning.{layout_of, planning}
use Rattle.container_layout.specs.Laid.{Bounds, Laid}
use Rattle.container_layout.specs.Inner.{Planning}
use Rattle.container_layout.specs.declared.refusal.Refusal.{Refusal}
use Rattle.container_layout.specs.declared.refusal.Refusal.TheVariants.{NoRoom}
use Rattle.container_layout.specs.declared.layout.Layout.{Layout}
use Rattle.container_layout.proofs.PlaceLaws.{times_le, after_rises, after_some}
use Rattle.container_layout.proofs.LayoutLaws.{size_fours}
use Rattle.container_layout.proofs.ContainerLaws.{data_directory, data_location, container_header}
use Rattle.container_layout.proofs.PlannedLaws.{Plan, plan_of, padding_zero}
use Rattle.container_pages.specs.Inner.{Filled, Within}
use Rattle.container_pages.proofs.FillLaws.{filled_more, filled_as}
use Rattle.container_layout.proofs.LaidLaws.{laid_streams, laid_directory, laid_last, laid_used, laid_ranks, laid_bounds}
use Rattle.container_writer.specs.Writing.{first_bytes, writing}
use Rattle.container_writer.specs.Promises.{Writing}
use Rattle.container_parts.specs.Inner.{Room, Numbering}
use Rattle.container_writer.specs.Inner.{Given, Streams, Data}
use Rattle.container_parts.proofs.PartLaws.{size_three}
use Rattle.container_writer.proofs.FileLaws.{filled_part, last_after, file_room}

-- ---- the first bytes of a file
module _ (f : File) where
  pub first_length : (n : ℕ) → length (first_bytes f n) ≡ n
  unfolding first_bytes
  first_length zero = refl
  first_length (suc n) = rw length-append (omega (arith, first_length n))

  pub first_at : (n i : ℕ) → i < n → get_or (first_bytes f n) i 0 ≡ f i
  unfolding first_bytes
  first_at zero i h = absurd (omega arith)
  first_at (suc n) i h =
      ⊎_elim (λ (l : i < n). get_or-append (first_bytes f n) _ 0 i (rw first_length l) ∙ first_at n i l)
      (λ (l : n ≤ i). let e : i ≡ n = omega arith in rw e (get_or_at (first_bytes f n) _ [] 0 n (first_length n)))
      (below_or i n)

  pub first_filled : {o o' : List ℕ} (n : ℕ) → n ≤ length o → Filled f o 0 n o' → o' ≡ sets o 0 (first_bytes f n)
  first_filled {o} n h x =
      sets_by_entries 0 o (first_bytes f n) (omega (arith, first_length n)) x.same
      (λ i l. x.inside i (omega arith) (omega (arith, first_length n)) ∙ sym (first_at n i (omega (arith, first_length n))))
      (λ i l. x.after i (omega (arith, first_length n)))

-- ---- `write_file`: what each part asks for
module _ {l : Layout} {sizes : List ℕ} (d : Laid l sizes) where
  pub used_fits : Fits w64 (l.used * l.pagesize)
  used_fits = record { fits = omega (arith, at_most_largest l.used d.size, (laid_bounds d).used) }

  pub last_fits : Fits w64 (l.last + 1)
  last_fits = record { fits = omega (arith, (laid_bounds d).last, (laid_bounds d).used) }

  last_up : (l.last + 1) * l.pagesize ≤ l.used * l.pagesize
  last_up = times_le l.pagesize (omega (arith, (laid_bounds d).last))

  pub padding_fits : Fits w64 ((l.last + 1) * l.pagesize)
  padding_fits = record { fits = omega (arith, last_up, at_most_largest l.used d.size, (laid_bounds d).used) }

  pub ranks_fit : Fits w64 (l.streams + l.directory)
  ranks_fit = record { fits = omega (arith, laid_ranks d) }

  fours : l.pagesize ≡ 4 * (l.pagesize / 4)
  fours = size_fours l.pagesize d.size

  pub directory_few : l.directory * (l.pagesize / 4) < 2 ^ 32
  unfolding need
  directory_few =
      let b = d.size.least in
      let m = d.size.most in
      let e : l.directory * l.pagesize ≡ 4 * (l.directory * (l.pagesize / 4)) = ap (λ n. l.directory * n) fours ∙ mul_left_comm l.directory 4 (l.pagesize / 4) in
      omega (arith, d.small, ap (λ n. n * l.pagesize) (laid_directory d), div-mul-le_self (directory_size l.pagesize sizes + l.pagesize - 1) l.pagesize)

  pub location_few : (n : ℕ) → n ≤ 2 ^ 8 → n * (l.pagesize / 4) < 2 ^ 32
  location_few n h =
      let m = d.size.most in
      let q : l.pagesize / 4 ≤ 2 ^ 21 = omega arith in
      omega (arith, mul-le-mul h q)

-- ---- `write_data`
module _ {l : Layout} {sizes : List ℕ} (d : Laid l sizes) {o : List ℕ} (h : l.used * l.pagesize ≤ length o) {bytes o₂ : List ℕ} (s : Streams l sizes bytes o o₂) where
  pub directory_room : Room l (l.streams + l.directory) (length o₂)
  directory_room = rw s.filled.same (file_room d o h (omega arith))

  module _ {o₃ : List ℕ} (y : Numbering l l.streams l.directory (directory_numbers l.pagesize sizes) o₂ o₃) where
    pub location_room : Room l (l.streams + l.directory + 1) (length o₃)
    location_room = rw (y.filled.same, s.filled.same) (file_room d o h (omega arith))

    module _ {o₄ : List ℕ} (z : Numbering l (l.streams + l.directory) 1 (location_numbers l.pagesize sizes) o₃ o₄) where
      three : 3 ≤ l.pagesize
      three = size_three d.size

      pub data_length : length o₄ ≡ length o
      data_length = z.filled.same ∙ y.filled.same ∙ s.filled.same

      directory_part : Filled (container l.pagesize sizes bytes) o₂ (after l.pagesize l.streams * l.pagesize) (after l.pagesize (l.streams + l.directory) * l.pagesize) o₃
      directory_part =
          filled_part l sizes bytes d l.streams (l.streams + l.directory) {content = number_bytes (directory_numbers l.pagesize sizes)}
          (λ i m.
          let back : l.streams + l.directory - l.streams ≡ directory_pages l.pagesize sizes = omega (arith, laid_directory d) in
          sym (rw (laid_streams d) (data_directory l.pagesize three sizes bytes i (rw (← back) m))))
          (omega arith) y.filled

      location_part : Filled (container l.pagesize sizes bytes) o₃ (after l.pagesize (l.streams + l.directory) * l.pagesize) (after l.pagesize (l.streams + l.directory + 1) * l.pagesize) o₄
      location_part =
          filled_part l sizes bytes d (l.streams + l.directory) (l.streams + l.directory + 1) {content = number_bytes (location_numbers l.pagesize sizes)}
          (λ i m. sym (rw (laid_streams d, laid_directory d) (data_location l.pagesize three sizes bytes i)))
          (omega arith) z.filled

      pub data_written : Data l sizes bytes o o₄
      data_written =
          let first : l.pagesize ≤ after l.pagesize l.streams * l.pagesize = (let t = times_le l.pagesize {a = 1} (after_some l.pagesize three l.streams) in omega arith) in
          let second = times_le l.pagesize (after_rises l.pagesize three l.streams (l.streams + l.directory) (omega arith)) in
          let third = times_le l.pagesize (after_rises l.pagesize three (l.streams + l.directory) (l.streams + l.directory + 1) (omega arith)) in
          record {
            filled = rw (← last_after d o h)
                (filled_more first (omega arith) s.filled (filled_more second third directory_part location_part));
          }

-- ---- `write_file`
module _ {l : Layout} {sizes : List ℕ} (d : Laid l sizes) (o : List ℕ) (h : l.used * l.pagesize ≤ length o) where
  pub header_room : l.pagesize ≤ length o
  header_room = omega (arith, times_le l.pagesize {a = 1} {b = l.used} (omega (arith, (laid_bounds d).last)))

  module _ {o₁ : List ℕ} (x : Filled (header_byte l.pagesize sizes) o 0 l.pagesize o₁) where
    pub data_room : l.used * l.pagesize ≤ length o₁
    data_room = rw x.same h

    module _ {bytes o₂ : List ℕ} (y : Data l sizes bytes o₁ o₂) where
      pub padding_within : Within ((l.last + 1) * l.pagesize) (l.used * l.pagesize) (length o₂)
      padding_within = record { order = last_up d; fits = rw (y.filled.same, x.same) h }

      module _ {o₃ : List ℕ} (e : Filled (λ _. 0) o₂ ((l.last + 1) * l.pagesize) (l.used * l.pagesize) o₃) where
        pub file_length_lem : length o₃ ≡ length o
        file_length_lem = e.same ∙ y.filled.same ∙ x.same

        is_padding_lem : Given l.pagesize sizes bytes → (i : ℕ) → (l.last + 1) * l.pagesize ≤ i → i < l.used * l.pagesize → 0 ≡ container l.pagesize sizes bytes i
        is_padding_lem v i a b =
            let three = size_three d.size in
            let from : l.last + 1 ≤ i / l.pagesize = (le-div_iff_mul-le {k = l.pagesize} (omega arith)).1 a in
            let to : i / l.pagesize < l.used = (div-lt_iff_lt-mul {k = l.pagesize} (omega arith)).1 b in
            let rest : i % l.pagesize < l.pagesize = mod-lt i (omega arith) in
            let zero_there = padding_zero sizes bytes d.size (i / l.pagesize) (omega (arith, laid_last d)) (omega (arith, laid_used d)) v.one (i % l.pagesize) rest in
            sym (ap (container l.pagesize sizes bytes) (sym (div-add-mod' i l.pagesize)) ∙ zero_there)

        pub file_written : Given l.pagesize sizes bytes → o₃ ≡ sets o 0 (first_bytes (container l.pagesize sizes bytes) (l.used * l.pagesize))
        file_written v =
            let head = filled_as (λ i _ m. sym (container_header l.pagesize (size_three d.size) sizes bytes i m)) x in
            let some : l.pagesize ≤ (l.last + 1) * l.pagesize = (let t = times_le l.pagesize {a = 1} {b = l.last + 1} (omega arith) in omega arith) in
            first_filled (container l.pagesize sizes bytes) (l.used * l.pagesize) h
            (filled_more (omega arith) (omega (arith, last_up d)) head (filled_more some (last_up d) y.filled (filled_as (is_padding_lem v) e)))

pub ruleset file_parts = (used_fits, last_fits, padding_fits, header_room, data_room, padding_within, file_length_lem, file_written)

pub ruleset data_parts = (ranks_fit, directory_few, location_few, location_room, data_length)

-- ---- `write_container`
module _ {p : ℕ} {sizes : List ℕ} {given : ℕ} {r : Result Layout Refusal} (a : Planning p sizes given r) where
  plan_refused : {why : Refusal} → r ≡ Err why → planning p sizes given ≡ Err (refusal_in why)
  unfolding raise
  plan_refused e = sym a.answer ∙ ap told e

  module _ {l : Layout} (e : r ≡ Ok l) where
    plan_ok : planning p sizes given ≡ Ok l
    unfolding raise
    plan_ok = sym a.answer ∙ ap told e

    plan : Plan p sizes given
    plan = (plan_of p sizes given plan_ok).0

    is : l ≡ layout_of p sizes
    is = (plan_of p sizes given plan_ok).1

    size_is : l.pagesize ≡ p
    size_is = ap (λ (x : Layout). x.pagesize) is

    needed_is : l.used * l.pagesize ≡ file_length p sizes
    needed_is = ap (λ (x : Layout). x.used * x.pagesize) is

    pub plan_laid : Laid l sizes
    plan_laid = record { size = rw size_is plan.size; is = is ∙ ap (λ q. layout_of q sizes) (sym size_is); small = rw size_is plan.small }

    pub plan_bounds : Bounds l
    plan_bounds = laid_bounds plan_laid

    pub plan_fits : Fits w64 (l.used * l.pagesize)
    plan_fits = used_fits plan_laid

pub plan_given : {p : ℕ} {sizes bytes : List ℕ} {r : Result Layout Refusal} → Planning p sizes (length bytes) r → length bytes < 2 ^ 63 → {l : Layout} → r ≡ Ok l → Given l.pagesize sizes bytes
plan_given a s e =
    record { all = (plan a e).sum; short = s; one = rw (size_is a e) (plan a e).list }

module _ {p : ℕ} {sizes : List ℕ} (bytes o : List ℕ) {r : Result Layout Refusal} (a : Planning p sizes (length bytes) r) where
  pub write_refused : {why : Refusal} → r ≡ Err why → {r' : Result ℕ Refusal} → IsErrAnd r' (λ e. e ≡ why) → Writing p sizes bytes o r' o
  unfolding writing written and_next raise
  write_refused e {r' = Ok n} h = absurd h
  write_refused e {r' = Err v} h = let no = plan_refused a e in record { answer = rw (no, h); after = rw no }

  module _ {l : Layout} (e : r ≡ Ok l) where
    pub write_no_room : length o < l.used * l.pagesize → Writing p sizes bytes o (Err (NoRoom (l.used * l.pagesize))) o
    unfolding writing written require and_next raise
    write_no_room h =
        let n = needed_is a e in
        let short = lt-leb (file_length p sizes) (length o) (rw (← n) h) in
        record { answer = rw (plan_ok a e, short, n); after = rw (plan_ok a e, short) }

    pub write_fine : l.used * l.pagesize ≤ length o → {o' : List ℕ} → o' ≡ sets o 0 (first_bytes (container l.pagesize sizes bytes) (l.used * l.pagesize)) → Writing p sizes bytes o (Ok (l.used * l.pagesize)) o'
    unfolding writing written require and_next raise
    write_fine h w =
        let n = needed_is a e in
        let room = le-leb (file_length p sizes) (length o) (rw (← n) h) in
        record {
          answer = rw (plan_ok a e, room, n);
          after = w
              ∙ ap (λ q. sets o 0 (first_bytes (container q sizes bytes) (l.used * l.pagesize))) (size_is a e)
              ∙ ap (λ m. sets o 0 (first_bytes (container p sizes bytes) m)) n
              ∙ rw (plan_ok a e, room);
        }
