-- The statements on the reader, each proved under the name of its record.
use mathlib.Core.Path.{◌≡◌, refl, sym, ◌∙◌, ap}
use mathlib.Core.List.{List, ◌∷◌, map}
use Prim.Native.Nat.{ℕ, ◌≤◌}
use native.Mathlib.Omega.{arith}
use lib.ListN.{length}
use denote.Ref.{Bor}
use Rattle.std.specs.Prelude.{Ok}
use Rattle.annotations.specs.Step.{end, step_at}
use Rattle.annotations.specs.Promises.{step_in}
use Rattle.annotations.specs.declared.step.Annotated.{Annotated}
use Rattle.annotations.specs.declared.step.Step.{Step}
use Rattle.annotations.specs.declared.step.Step.TheVariants.{End}
use Rattle.outcome.specs.Only.{Only₂}
use Rattle.annotations_statements.proofs.Told.{told}
use Rattle.reader.specs.Place.{place_after}
use Rattle.reader.specs.Promises.{Moving, Giving, item_of}
use Rattle.reader.specs.Statements.{SingleValued, StaysAtTheEnd, Called, none, more, steps_from, place_from, Calling}
use Rattle.reader.specs.declared.BinaryAnnotationsIter.{BinaryAnnotationsIter}
use Rattle.reader.specs.declared.Moved.{Moved}
use Rattle.reader.proofs.EndLaws.{end_place, step_past}

-- a reader is its bytes and its place, and an answer of `next_at` its step and its place
same_reader : (a b : BinaryAnnotationsIter) → a.bytes ≡ b.bytes → a.at ≡ b.at → a ≡ b
same_reader a b e f i = record { bytes = e i; at = f i }

same_moved : (a b : Moved) → a.step ≡ b.step → a.place ≡ b.place → a ≡ b
same_moved a b e f i = record { step = e i; place = f i }

pub same_step : (a b : Step Annotated) → step_in a ≡ step_in b → a ≡ b
same_step = told.step

same_next : (r : BinaryAnnotationsIter) → Only₂ (Moving r)
same_next r a b x y p q =
    (same_step a b (p.answer ∙ sym q.answer), same_reader x y (p.bytes ∙ sym q.bytes) (p.place ∙ sym q.place))

-- an item is told by its step
same_item : (r : BinaryAnnotationsIter) → Only₂ (Giving r)
same_item r a b x y p q =
    let n = same_next r p.step q.step x y p.moving q.moving in
    (p.gives ∙ ap item_of n.0 ∙ sym q.gives, n.1)

pub single_valued : SingleValued
single_valued =
    record {
      new = λ lent a b p q. same_reader a b (p.bytes ∙ sym q.bytes) (p.place ∙ sym q.place);
      next = same_next;
      item = same_item;
      next_at = λ s at a b p q.
          same_moved a b (same_step a.step b.step (p.answer ∙ sym q.answer)) (p.place ∙ sym q.place);
    }

-- ---- n calls are n steps
-- from any place on: what the statement says at 0
record From (s : List ℕ) (at : ℕ) (bytes : Bor (List ℕ)) (steps : List (Step Annotated)) (last : BinaryAnnotationsIter) : Type 0 where
  answers : map step_in steps ≡ steps_from s at (length steps)
  place : last.at ≡ place_from s at (length steps)
  same : last.bytes ≡ bytes

calls : (s : List ℕ) (at : ℕ) {r last : BinaryAnnotationsIter} {steps : List (Step Annotated)} → r.bytes.now ≡ s → r.at ≡ at → Called r steps last → From s at r.bytes steps last
unfolding steps_from place_from
calls s at e f none = record { answers = refl; place = f; same = refl }
calls s at {r} e f (more {r' = r'} m rest) =
    let here : step_at r.bytes.now r.at ≡ step_at s at = rw (e, f) in
    let later = calls s (place_after (step_at s at)) (ap (λ x. x.now) m.bytes ∙ e) (m.place ∙ ap place_after here) rest in
    record { answers = λ i. (m.answer ∙ here) i ∷ later.answers i; place = later.place; same = later.same ∙ m.bytes }

pub calling : Calling
calling =
    record {
      is = λ lent r last steps p c.
          let all = calls lent.now 0 (ap (λ x. x.now) p.bytes) p.place c in
          record { answers = all.answers; place = all.place; bytes = all.same ∙ p.bytes };
    }

-- ---- the end
pub end_in : (place : ℕ) → step_in (End place) ≡ Ok (end place)
unfolding step_in
end_in place = refl

place_of_end : (place : ℕ) → place_after (Ok (end place)) ≡ place
unfolding place_after
place_of_end place = refl

at_end : (r r' : BinaryAnnotationsIter) (step : Step Annotated) → length r.bytes.now ≤ r.at → Moving r step r' → (step ≡ End (length r.bytes.now)) × (r'.at ≡ length r.bytes.now)
at_end r r' step h m =
    let n = length r.bytes.now in
    let e : step_at r.bytes.now r.at ≡ Ok (end n) = step_past r.bytes.now r.at h in
    (same_step step (End n) (m.answer ∙ e ∙ sym (end_in n)), m.place ∙ ap place_after e ∙ place_of_end n)

-- after an end the reader is at the length, so the next step is that end, and its place the one where it stands
after_end : (r r' r'' : BinaryAnnotationsIter) (place : ℕ) (step : Step Annotated) → Moving r (End place) r' → Moving r' step r'' → (step ≡ End place) × (r'' ≡ r')
after_end r r' r'' place step m k =
    let e : step_at r.bytes.now r.at ≡ Ok (end place) = sym m.answer ∙ end_in place in
    let at_length : place ≡ length r.bytes.now = end_place r.bytes.now r.at e in
    let stands : r'.at ≡ place = m.place ∙ ap place_after e ∙ place_of_end place in
    let same : length r'.bytes.now ≡ place = ap (λ (y : Bor (List ℕ)). length y.now) m.bytes ∙ sym at_length in
    let again = at_end r' r'' step (omega arith) k in
    (again.0 ∙ ap End same, same_reader r'' r' k.bytes (again.1 ∙ same ∙ sym stands))

pub stays_at_the_end : StaysAtTheEnd
stays_at_the_end = record { at_the_end = at_end; after_an_end = after_end }
