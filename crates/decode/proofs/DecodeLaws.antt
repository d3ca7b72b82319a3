-- The two loops of decoding all, and what `decoding` answers at each return. Each loop's invariant says what is left in
-- terms of what is wanted, so the loop's end gives the promise.
use mathlib.Core.Path.{◌≡◌, refl, sym, ◌∙◌, ap}
use mathlib.Core.List.{List, [], ◌∷◌, ◌++◌}
use Prim.Native.Nat.{ℕ, ◌+◌, ◌-◌, ◌*◌, ◌≤◌, ◌<◌}
use native.Mathlib.Omega.{arith}
use borrow.Author.Tests.{le-leb, lt-leb}
use lib.ListN.{length, length-append}
use lib.Seq.{sets, length-sets}
use lib.IntN.{ℤ}
use Rattle.std.specs.Prelude.{Result, Ok, Err}
use Rattle.outcome.specs.Outcome.{and_next, and_then, ◌>>◌, require, raise}
use Rattle.outcome.specs.Store.{written}
use Rattle.numbers.specs.Refusal.{Stop, stop_in}
use Rattle.outcome.proofs.OutcomeLaws.{ok_refused}
use Rattle.store.proofs.SetsLaws.{sets_append}
use Rattle.annotations.specs.Annotation.{annotation_of}
use Rattle.annotations.specs.Step.{PlacedTriple, annotation, end, step_at}
use Rattle.decode.specs.Decode.{Run, rest, decode_all, entries_each, entries_of, entries, decoded_entries, counted, decoding}
use Rattle.decode.specs.Inner.{CountingAll}
use Rattle.annotations.specs.Inner.{made_of, read_in, Reading}
use Rattle.decode.specs.Promises.{Decoding}
use Rattle.annotations.proofs.MoveLaws.{advanced}
use Rattle.decode.proofs.RunLaws.{rest_on, rest_end, rest_refused, half}
use Rattle.numbers.specs.declared.refusal.PlacedRefusal.{PlacedRefusal}
use Rattle.annotations.specs.declared.annotation.Triple.{Triple}
use Rattle.annotations.specs.declared.operands.Operands.{Operands}
use Rattle.annotations.specs.declared.step.Step.{Step}
use Rattle.annotations.specs.declared.step.Step.TheVariants as read
use Rattle.decode.specs.declared.refusal.Refusal.TheVariants.{NoRoom}

-- ---- what was read at a place
module _ {s : List ℕ} {at : ℕ} {r : Step Operands} (p : Reading s at r) where
  stepped : {a : Operands} → r ≡ read.Annotation a → step_at s at ≡ Ok (annotation (made_of a))
  unfolding read_in
  stepped e = sym p.is.answer ∙ ap read_in e

  ended : {place : ℕ} → r ≡ read.End place → step_at s at ≡ Ok (end place)
  unfolding read_in
  ended e = sym p.is.answer ∙ ap read_in e

  stopped_by : {why : PlacedRefusal} → r ≡ read.Refused why → step_at s at ≡ Err (stop_in why)
  unfolding read_in
  stopped_by e = sym p.is.answer ∙ ap read_in e

  -- fewer bytes are left after an annotation
  pub fewer : {a : Operands} → r ≡ read.Annotation a → length s - a.next < length s - at
  fewer e = let m = advanced s at (stepped e) in omega arith

-- ---- counting: n annotations are counted, and the rest follow from `at`
pub record CountedSoFar (s : List ℕ) (at n : ℕ) : Type 0 where
  pub few : 2 * n ≤ at
  pub within : at ≤ length s
  pub many : length (decode_all s).found ≡ n + length (rest s at).found
  pub last : (decode_all s).last ≡ (rest s at).last

pub count_none : (s : List ℕ) → CountedSoFar s 0 0
unfolding decode_all
count_none s = record { few = omega arith; within = omega arith; many = omega arith; last = refl }

module _ {s : List ℕ} {at n : ℕ} {r : Step Operands} (p : Reading s at r) (c : CountedSoFar s at n) where
  pub count_more : {a : Operands} → r ≡ read.Annotation a → CountedSoFar s a.next (n + 1)
  count_more e =
      let m = advanced s at (stepped p e) in
      let on = rest_on s at (stepped p e) in
      record {
        few = omega (arith, c.few);
        within = m.within;
        many = omega (arith, c.many ∙ ap (λ (q : Run). n + length q.found) on);
        last = c.last ∙ ap (λ (q : Run). q.last) on;
      }

  pub count_end : {place : ℕ} → r ≡ read.End place → CountingAll s (Ok n)
  unfolding raise and_next
  count_end e =
      let on = rest_end s at (ended p e) in
      let k : length (decode_all s).found ≡ n = omega (arith, c.many ∙ ap (λ (q : Run). n + length q.found) on) in
      record { answer = rw (k, c.last, on) }

  pub count_refused : {why : PlacedRefusal} → r ≡ read.Refused why → CountingAll s (Err why)
  unfolding raise and_next
  count_refused e = record { answer = rw (c.last, rest_refused s at (stopped_by p e)) }

pub ruleset count_cases = (fewer, count_none, count_more, count_end, count_refused)

-- ---- writing: i entries are written, and writing the rest gives what is wanted
pub record WrittenSoFar (s : List ℕ) (st₀ st : List ℤ) (at i : ℕ) : Type 0 where
  pub wanted : sets st i (entries (rest s at).found) ≡ sets st₀ 0 (decoded_entries s)
  pub room : i + length (entries (rest s at).found) ≤ length st

pub write_none : (s : List ℕ) (st : List ℤ) → length (decoded_entries s) ≤ length st → WrittenSoFar s st st 0 0
unfolding decode_all
write_none s st h = record { wanted = refl; room = omega arith }

module _ {s : List ℕ} {st₀ st : List ℤ} {at i : ℕ} (w : WrittenSoFar s st₀ st at i) {r : Step Operands} (p : Reading s at r) where
  module _ {a : Operands} (e : r ≡ read.Annotation a) {t : Triple} (g : t ≡ annotation_of a.opcode a.first a.second) where
    next : entries (rest s at).found ≡ entries_of t a.shortest ++ entries (rest s a.next).found
    unfolding entries
    next = rw (rest_on s at (stepped p e), g)

    pub write_room : i + entries_each ≤ length st
    write_room = let h = w.room in omega (arith, rw next at h)

    pub write_more : {st' : List ℤ} → st' ≡ sets st i (entries_of t a.shortest) → WrittenSoFar s st₀ st' a.next (i + entries_each)
    write_more k =
        record {
          wanted = rw k (sets_append (entries_of t a.shortest) (entries (rest s a.next).found) st i ∙ rw next at w.wanted);
          room = rw (k, length-sets) (let h = w.room in omega (arith, rw next at h));
        }

  pub write_end : ((a : Operands) → r ≡ read.Annotation a → ⊥) → st ≡ sets st₀ 0 (decoded_entries s)
  unfolding entries
  write_end n = go r refl
    where
      go : (r' : Step Operands) → r ≡ r' → st ≡ sets st₀ 0 (decoded_entries s)
      go (read.Annotation a) e = absurd (n a e)
      go (read.End place) e = rw (rest_end s at (ended p e)) at w.wanted
      go (read.Refused why) e = rw (rest_refused s at (stopped_by p e)) at w.wanted

pub ruleset write_cases = (fewer, write_none, write_room, write_more, write_end)

-- ---- the returns of `decode_all`
length_entries : (l : List PlacedTriple) → length (entries l) ≡ entries_each * length l
unfolding entries
length_entries [] = refl
length_entries (x ∷ l) = rw length-append (omega (arith, length_entries l))

all_is : (last : Result ℕ Stop) (m n : ℕ) → Ok n ≡ (last >> Ok m) → n ≡ m
unfolding and_next
all_is (Ok place) m n e = cc
all_is (Err why) m n e = absurd (ok_refused e)

module _ (s : List ℕ) (store : List ℤ) {n : ℕ} (p : CountingAll s (Ok n)) where
  counts : counted (decode_all s) ≡ Ok n
  unfolding raise
  counts = sym p.answer

  is_count : n ≡ length (decode_all s).found
  is_count = all_is (decode_all s).last _ n (sym counts)

  pub few : 2 * n ≤ length s
  few = rw is_count (half s)

  pub no_room : length store < entries_each * n → Decoding s store (Err (NoRoom (entries_each * n))) store
  unfolding decoding raise written require and_then and_next
  no_room l =
      record { answer = rw (counts, lt-leb (entries_each * n) (length store) l); after = rw (counts, lt-leb (entries_each * n) (length store) l) }

  module _ (l : entries_each * n ≤ length store) where
    -- the entries that there are have room
    pub all_room : length (decoded_entries s) ≤ length store
    all_room = rw (length_entries, ← is_count) l

    pub decoded : {store' : List ℤ} → store' ≡ sets store 0 (decoded_entries s) → Decoding s store (Ok n) store'
    unfolding decoding raise written require and_then and_next
    decoded f =
        record { answer = rw (counts, le-leb (entries_each * n) (length store) l); after = f ∙ rw (counts, le-leb (entries_each * n) (length store) l) }

pub ruleset decode_cases = (no_room, all_room, decoded)
