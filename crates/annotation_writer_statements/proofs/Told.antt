-- Each answer can be read back from what it says on paper, so no two answers say the same, and the promise has one answer.
use mathlib.Core.Path.{◌≡◌, refl, ap}
use mathlib.Core.Bool.{cond}
use Prim.Native.Nat.{ℕ}
use lib.Dec.{eqb}
use lib.ListN.{length}
use Rattle.std.specs.Prelude.{Result, Ok, Err}
use Rattle.outcome.specs.Outcome.{raise}
use Rattle.outcome.specs.Refusal as paper
use Rattle.outcome.proofs.OnlyLaws.{read_back, only₂}
use Rattle.annotation_writer.specs.Refusal.{refusal_in}
use Rattle.annotation_writer.specs.Writing.{writing}
use Rattle.annotation_writer.specs.declared.refusal.Refusal.{Refusal}
use Rattle.annotation_writer.specs.declared.refusal.Refusal.TheVariants.{BadRecord, RaggedList, NoRoom}
use Rattle.annotation_writer_statements.specs.Statements.{Told, SingleValued}

abbrev refusal_back : paper.Refusal → Refusal
refusal_back r = cond (eqb r.number 20) (BadRecord r.value) (cond (eqb r.number 21) RaggedList (NoRoom r.value))

refusal_is : (why : Refusal) → refusal_back (refusal_in why) ≡ why
refusal_is (BadRecord index) = refl
refusal_is RaggedList = refl
refusal_is (NoRoom needed) = refl

abbrev told_back : Result ℕ paper.Refusal → Result ℕ Refusal
told_back (Ok n) = Ok n
told_back (Err why) = Err (refusal_back why)

told_is : (r : Result ℕ Refusal) → told_back (raise refusal_in r) ≡ r
unfolding raise
told_is (Ok n) = refl
told_is (Err why) = ap Err (refusal_is why)

pub told : Told
told =
    record {
      refusal = read_back refusal_in refusal_back refusal_is;
      written = read_back (raise refusal_in) told_back told_is;
    }

pub single_valued : SingleValued
single_valued =
    record {
      write_annotations = λ list out a b x y p q.
          only₂ (raise refusal_in) told.written (writing list (length out)) _ a b x y (p.answer, p.after) (q.answer, q.after);
    }
