-- Each answer can be read back from what it says on paper, so no two answers say the same.
use mathlib.Core.Path.{◌≡◌, refl, ap}
use mathlib.Core.Bool.{cond}
use mathlib.Core.List.{[], ◌∷◌}
use mathlib.Core.Option.{some, none}
use Prim.Native.Nat.{ℕ, ◌-◌}
use lib.Dec.{eqb}
use lib.ListN.{get_or}
use lib.IntN.{nat_abs}
use Rattle.std.specs.Prelude.{Result, Ok, Err}
use Rattle.outcome.specs.Outcome.{raise}
use Rattle.outcome.specs.Refusal as paper
use Rattle.outcome.proofs.OnlyLaws.{read_back}
use Rattle.numbers.specs.Refusal.{Stop, refusal_in, stop_in}
use Rattle.annotations.specs.Annotation.{triple_in}
use Rattle.annotations.specs.Step.{Stepped, annotation, end}
use Rattle.decode.specs.Decode.{DecodeStop}
use Rattle.annotations.specs.Promises.{step_in}
use Rattle.decode.specs.Refusal as decoded_refusal
use Rattle.annotations_statements.specs.Statements.{Told}
use Rattle.numbers.specs.declared.refusal.Refusal.{Refusal}
use Rattle.numbers.specs.declared.refusal.Refusal.TheVariants.{ShortData, InvalidCompressedAnnotation, UnknownBinaryAnnotation}
use Rattle.numbers.specs.declared.refusal.PlacedRefusal.{PlacedRefusal}
use Rattle.annotations.specs.declared.annotation.Triple.{Triple}
use Rattle.annotations.specs.declared.annotation.BinaryAnnotation.{BinaryAnnotation}
use Rattle.annotations.specs.declared.annotation.BinaryAnnotation.TheVariants.{CodeOffset, ChangeCodeOffsetBase, ChangeCodeOffset, ChangeCodeLength, ChangeFile, ChangeLineOffset, ChangeLineEndDelta, ChangeRangeKind, ChangeColumnStart, ChangeColumnEndDelta, ChangeCodeOffsetAndLineOffset, ChangeCodeLengthAndCodeOffset, ChangeColumnEnd}
use Rattle.annotations.specs.declared.step.Annotated.{Annotated}
use Rattle.annotations.specs.declared.step.Step.{Step}
use Rattle.annotations.specs.declared.step.Step.TheVariants as step
use Rattle.decode.specs.declared.refusal.Refusal as decoded
use Rattle.decode.specs.declared.refusal.Refusal.TheVariants.{Annotation, NoRoom}

-- ---- refusals
abbrev refusal_back : paper.Refusal → Refusal
refusal_back r =
    cond (eqb r.number 7) ShortData
    (cond (eqb r.number 8) InvalidCompressedAnnotation (UnknownBinaryAnnotation r.value))

refusal_is : (why : Refusal) → refusal_back (refusal_in why) ≡ why
refusal_is ShortData = refl
refusal_is InvalidCompressedAnnotation = refl
refusal_is (UnknownBinaryAnnotation op) = refl

-- with its place
abbrev stop_back : Stop → PlacedRefusal
stop_back x = record { refusal = refusal_back x.refusal; place = x.place }

stop_is : (why : PlacedRefusal) → stop_back (stop_in why) ≡ why
stop_is why i = record { refusal = refusal_is why.refusal i; place = why.place }

-- ---- annotations
abbrev triple_back : Triple → BinaryAnnotation
triple_back t =
    let v : ℕ = nat_abs t.first in
    get_or
    (CodeOffset v
    ∷ ChangeCodeOffsetBase v
    ∷ ChangeCodeOffset v
    ∷ ChangeCodeLength v
    ∷ ChangeFile (record { 0 = v })
    ∷ ChangeLineOffset t.first
    ∷ ChangeLineEndDelta v
    ∷ ChangeRangeKind v
    ∷ ChangeColumnStart v
    ∷ ChangeColumnEndDelta t.first
    ∷ ChangeCodeOffsetAndLineOffset v t.second
    ∷ ChangeCodeLengthAndCodeOffset v (nat_abs t.second)
    ∷ ChangeColumnEnd v
    ∷ [])
    (t.opcode - 1) (CodeOffset v)

triple_is : (a : BinaryAnnotation) → triple_back (triple_in a) ≡ a
triple_is (CodeOffset v) = refl
triple_is (ChangeCodeOffsetBase v) = refl
triple_is (ChangeCodeOffset v) = refl
triple_is (ChangeCodeLength v) = refl
triple_is (ChangeFile f) = refl
triple_is (ChangeLineOffset z) = refl
triple_is (ChangeLineEndDelta v) = refl
triple_is (ChangeRangeKind v) = refl
triple_is (ChangeColumnStart v) = refl
triple_is (ChangeColumnEndDelta z) = refl
triple_is (ChangeCodeOffsetAndLineOffset v z) = refl
triple_is (ChangeCodeLengthAndCodeOffset v w) = refl
triple_is (ChangeColumnEnd v) = refl

-- ---- the answers of the three operations. One that is a value or a refusal is read back as the refusal is
abbrev raised_back : {A E F : Type 0} → (F → E) → Result A F → Result A E
raised_back back (Ok a) = Ok a
raised_back back (Err why) = Err (back why)

raised_is : {A E F : Type 0} (up : E → F) (back : F → E) → ((why : E) → back (up why) ≡ why) → (r : Result A E) → raised_back back (raise up r) ≡ r
unfolding raise
raised_is up back h (Ok a) = refl
raised_is up back h (Err why) = ap Err (h why)

abbrev step_back : Result Stepped Stop → Step Annotated
step_back (Ok (annotation x)) = step.Annotation (record { annotation = triple_back x.triple; shortest = x.shortest; next = x.next })
step_back (Ok (end place)) = step.End place
step_back (Err why) = step.Refused (stop_back why)

step_is : (r : Step Annotated) → step_back (step_in r) ≡ r
unfolding step_in
step_is (step.Annotation a) = rw (triple_is a.annotation)
step_is (step.End place) = refl
step_is (step.Refused why) = ap step.Refused (stop_is why)

-- (10 is the refusal without a place)
abbrev decode_back : DecodeStop → decoded.Refusal
decode_back why = elim why.place [ none ↦ NoRoom why.refusal.value | some place ↦ Annotation (stop_back (record { refusal = why.refusal; place = place })) ]

decode_is : (why : decoded.Refusal) → decode_back (decoded_refusal.stop_in why) ≡ why
decode_is (Annotation why) = ap Annotation (stop_is why)
decode_is (NoRoom needed) = refl

pub told : Told
told =
    record {
      refusal = read_back refusal_in refusal_back refusal_is;
      triple = read_back triple_in triple_back triple_is;
      uncompressed = read_back (raise stop_in) (raised_back stop_back) (raised_is stop_in stop_back stop_is);
      step = read_back step_in step_back step_is;
      decoded = read_back (raise decoded_refusal.stop_in) (raised_back decode_back) (raised_is decoded_refusal.stop_in decode_back decode_is);
    }
