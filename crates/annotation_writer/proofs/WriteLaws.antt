-- The two passes over a list, and what `writing` answers at each return. Each loop has passed the first k records.
use mathlib.Core.Path.{◌≡◌, refl, sym, ◌∙◌, ap}
use mathlib.Core.Bool.{Bool, true, false, cond}
use mathlib.Core.List.{List, [], ◌∷◌, ◌++◌, append-nil, append_assoc}
use Prim.Native.Nat.{ℕ, zero, suc, ◌+◌, ◌-◌, ◌*◌, ◌%◌, ◌^◌, ◌≤◌, ◌<◌}
use native.Mathlib.Omega.{arith}
use native.Mathlib.Nat.{add-zero, add-suc}
use native.Mathlib.Numerals.{add-one}
use borrow.Author.Tests.{eq-eqb, ne_eqb, eqb-true}
use lib.Dec.{eqb}
use lib.ListN.{length, length-append}
use lib.Seq.{sets}
use lib.IntN.{ℤ}
use mir.Syntax.{w64}
use mir.Val.{Fits}
use Rattle.std.specs.Prelude.{Ok, Err, Some, None}
use Rattle.outcome.specs.Outcome.{and_next, require}
use Rattle.outcome.proofs.OutcomeLaws.{came, ok_is, passed}
use Rattle.outcome.proofs.EachLaws.{each_none, each_more, each_stops, each_passed}
use Rattle.store.specs.Putting.{Putting}
use Rattle.store.proofs.PutLaws.{put_length, puts_more}
use Rattle.annotations.specs.declared.annotation.Triple.{Triple}
use Rattle.annotation_records.specs.Records.{entries_each, count, record_at, annotation_in}
use Rattle.annotation_records.specs.Ranges.{writable}
use Rattle.annotation_records.specs.Operands.{shorts, annotation_bytes}
use Rattle.annotation_records.specs.Inner.{numbers_in, NumbersOf}
use Rattle.annotation_records.proofs.OperandLaws.{numbers_few}
use Rattle.annotation_records.specs.declared.record.Record.{Record}
use Rattle.annotation_records.specs.declared.operands.Numbers.{Numbers}
use Rattle.annotation_writer.specs.Refusal.{refusal_in}
use Rattle.annotation_writer.specs.Writing.{annotations_in, bytes_of, list_bytes, judging, measuring}
use Rattle.annotation_writer.specs.Inner.{Width, AllWritable}
use Rattle.annotation_writer.specs.declared.refusal.Refusal.TheVariants.{BadRecord, RaggedList}

-- ---- the bytes of annotations, one after another
pub bytes_append : (xs ys : List Triple) → bytes_of (xs ++ ys) ≡ bytes_of xs ++ bytes_of ys
unfolding bytes_of
bytes_append [] ys = refl
bytes_append (x ∷ xs) ys = rw (bytes_append xs ys) (sym (append_assoc (annotation_bytes x) (bytes_of xs) (bytes_of ys)))

pub bytes_more : (list : List ℤ) (k : ℕ) → bytes_of (annotations_in list (k + 1)) ≡ bytes_of (annotations_in list k) ++ annotation_bytes (annotation_in (record_at list k))
unfolding annotations_in bytes_of
bytes_more list k = rw (add-one k, bytes_append, append-nil)

-- ---- `width_at`
module _ {q r : Record} (e : r ≡ q) {t : Bool} (i : t ≡ writable r) where
  pub width_good : t ≡ true → {n : Numbers} → NumbersOf r n → {x : ℕ} → x ≡ length (shorts (numbers_in n)) → Width q (Some x)
  width_good y {n} o j = record { is = rw (← e, ← i, y, j, o.are); small = rw j (numbers_few n) }

  pub width_bad : t ≡ false → Width q None
  width_bad y = record { is = rw (← e, ← i, y); small = tt }

pub ruleset width_cases = (width_good, width_bad)

-- ---- `measure`: the first k records can be written, and take `total` bytes
pub record MeasuredSoFar (list : List ℤ) (k total : ℕ) : Type 0 where
  pub whole : length list % entries_each ≡ 0
  pub within : k ≤ count list
  pub passed : judging list k ≡ Ok tt
  pub sum : total ≡ length (bytes_of (annotations_in list k))
  pub few : total ≤ 12 * k

pub measure_ragged : (list : List ℤ) → (length list % entries_each ≡ 0 → ⊥) → Err (refusal_in RaggedList) ≡ measuring list
unfolding measuring require and_next
measure_ragged list h = rw (ne_eqb (length list % entries_each) 0 h)

pub measure_none : (list : List ℤ) → length list % entries_each ≡ 0 → MeasuredSoFar list 0 0
unfolding annotations_in bytes_of
measure_none list h =
    record { whole = h; within = omega arith; passed = each_none _ _; sum = refl; few = omega arith }

module _ {list : List ℤ} {k total : ℕ} (m : MeasuredSoFar list k total) where
  module _ (l : k < count list) where
    module _ {width : ℕ} (w : Width (record_at list k) (Some width)) where
      -- the bytes fit, since the entries do, which are larger
      pub measure_fits : length list * 8 < 2 ^ 63 → Fits w64 (total + width)
      measure_fits h = record { fits = omega (arith, m.few, w.small) }

      is_good : (writable (record_at list k) ≡ true) × (width ≡ length (annotation_bytes (annotation_in (record_at list k))))
      is_good = go (writable (record_at list k)) w.is
        where
          go : (b : Bool) → Some width ≡ cond b (Some (length (annotation_bytes (annotation_in (record_at list k))))) None → (b ≡ true) × (width ≡ length (annotation_bytes (annotation_in (record_at list k))))
          go true e = (refl, cc)
          go false e = cc

      pub measure_more : MeasuredSoFar list (k + 1) (total + width)
      measure_more =
          record {
            whole = m.whole;
            within = omega arith;
            passed = each_more _ _ m.passed is_good.0;
            sum = rw (bytes_more, length-append, ← m.sum, ← is_good.1);
            few = omega (arith, m.few, w.small);
          }

    is_bad : Width (record_at list k) None → writable (record_at list k) ≡ false
    is_bad w = go (writable (record_at list k)) w.is
      where
        go : (b : Bool) → None ≡ cond b (Some (length (annotation_bytes (annotation_in (record_at list k))))) None → b ≡ false
        go true e = cc
        go false e = refl

    pub measure_bad : Width (record_at list k) None → Err (refusal_in (BadRecord k)) ≡ measuring list
    unfolding measuring require and_next
    measure_bad w =
        rw (eq-eqb (length list % entries_each) 0 m.whole, each_stops _ _ m.passed (is_bad w) (count list) l)

  pub measure_end : count list ≤ k → Ok total ≡ measuring list
  unfolding measuring require and_next
  measure_end l =
      let same : k ≡ count list = omega (arith, m.within) in
      rw (eq-eqb (length list % entries_each) 0 m.whole, ← same, m.passed, m.sum)

pub ruleset measure_cases = (measure_ragged, measure_none, measure_fits, measure_more, measure_bad, measure_end)

-- ---- `write_all`: the bytes of the first k records are put
module _ (list : List ℤ) where
  -- those of more records are no fewer
  bytes_rise : (k d : ℕ) → length (bytes_of (annotations_in list k)) ≤ length (bytes_of (annotations_in list (k + d)))
  bytes_rise k zero = rw add-zero (omega arith)
  bytes_rise k (suc d) =
      let h = bytes_rise k d in
      rw (add-suc, ← add-one (k + d), bytes_more, length-append) (omega arith)

  bytes_in_lem : (k : ℕ) → k < count list → length (bytes_of (annotations_in list k)) + length (annotation_bytes (annotation_in (record_at list k))) ≤ length (list_bytes list)
  bytes_in_lem k l =
      let e : k + 1 + (count list - (k + 1)) ≡ count list = omega arith in
      let h = rw e at (bytes_rise (k + 1) (count list - (k + 1))) in
      omega (arith, rw (bytes_more, length-append) at h)

pub record WrittenSoFar (list : List ℤ) (out₀ out : List ℕ) (k at : ℕ) : Type 0 where
  pub within : k ≤ count list
  pub put : Putting (bytes_of (annotations_in list k)) out₀ 0 out at

module _ {list : List ℤ} {out₀ : List ℕ} (room : length (list_bytes list) ≤ length out₀) where
  pub write_none : WrittenSoFar list out₀ out₀ 0 0
  unfolding annotations_in bytes_of
  write_none = record { within = omega arith; put = record { store = refl; place = refl; within = omega arith } }

  module _ {out : List ℕ} {k at : ℕ} (w : WrittenSoFar list out₀ out k at) where
    module _ (l : k < count list) {r : Record} (e : r ≡ record_at list k) where
      pub write_good : AllWritable list → writable r ≡ true
      write_good a = rw e (a.each k l)

      module _ {n : Numbers} (o : NumbersOf r n) where
        bytes_are : shorts (numbers_in n) ≡ annotation_bytes (annotation_in (record_at list k))
        bytes_are = ap shorts o.are ∙ ap (λ (q : Record). annotation_bytes (annotation_in q)) e

        pub write_room : at + length (shorts (numbers_in n)) ≤ length out
        write_room =
            let p = w.put in
            omega (arith, bytes_in_lem list k l, p.place, put_length p, ap length bytes_are)

        pub write_more : {out' : List ℕ} {at' : ℕ} → Putting (shorts (numbers_in n)) out at out' at' → WrittenSoFar list out₀ out' (k + 1) at'
        write_more p = record { within = omega arith; put = rw (bytes_more, ← bytes_are) (puts_more w.put p) }

    pub write_end : count list ≤ k → out ≡ sets out₀ 0 (list_bytes list)
    write_end l = let same : k ≡ count list = omega (arith, w.within) in rw (← same) w.put.store

pub ruleset write_cases = (write_none, write_good, write_room, write_more, write_end)

-- ---- a list that is measured is whole, and each of its records can be written
pub record Measured (list : List ℤ) (n : ℕ) : Type 0 where
  pub whole : length list % entries_each ≡ 0
  pub all : AllWritable list
  pub is : n ≡ length (list_bytes list)

pub measured : (list : List ℤ) {n : ℕ} → measuring list ≡ Ok n → Measured list n
unfolding measuring
measured list e =
    came (require (eqb (length list % entries_each) 0) (refusal_in RaggedList)) _ e λ _ first rest.
    came (judging list (count list)) _ rest λ _ each_fine last.
    record {
      whole = eqb-true (length list % entries_each) 0 (passed _ _ first);
      all = record { each = each_passed _ _ (count list) each_fine };
      is = sym (ok_is last);
    }

-- ---- the returns of `write_annotations`
module _ (list : List ℤ) {n : ℕ} (e : Ok n ≡ measuring list) where
  pub measured_all : AllWritable list
  measured_all = (measured list (sym e)).all

  pub listed_room : (m : ℕ) → n ≤ m → length (list_bytes list) ≤ m
  listed_room m l = rw (← (measured list (sym e)).is) l

pub ruleset returns_cases = (measured_all, listed_room)
