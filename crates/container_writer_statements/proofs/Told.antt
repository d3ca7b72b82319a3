-- Each answer can be read back from what it says on paper, so no two answers say the same, and the promise has one answer.
use mathlib.Core.Path.{◌≡◌, refl, ap}
use mathlib.Core.Bool.{cond}
use Prim.Native.Nat.{ℕ}
use lib.Dec.{eqb}
use lib.ListN.{length}
use Rattle.std.specs.Prelude.{Result, Ok, Err}
use Rattle.outcome.specs.Outcome.{raise}
use Rattle.outcome.specs.Refusal as paper
use Rattle.outcome.proofs.OnlyLaws.{read_back, only₂}
use Rattle.container_layout.specs.Refusal as on_paper
use Rattle.container_layout.specs.Refusal.{refusal_in}
use Rattle.container_layout.specs.declared.refusal.Refusal.{Refusal}
use Rattle.container_layout.specs.declared.refusal.Refusal.TheVariants.{InvalidPageSize, SizesDiffer, DirectoryTooLarge, Over32Bits, NoRoom}
use Rattle.container_writer.specs.Writing.{writing}
use Rattle.container_writer_statements.specs.Stored.{Told, SingleValued}

abbrev refusal_back : paper.Refusal → Refusal
refusal_back r =
    let n = r.number in
    cond (eqb n 3) (InvalidPageSize r.value)
    (cond (eqb n 22) SizesDiffer
    (cond (eqb n 23) DirectoryTooLarge
    (cond (eqb n 24) Over32Bits (NoRoom r.value))))

refusal_is : (why : Refusal) → refusal_back (refusal_in why) ≡ why
refusal_is (InvalidPageSize size) = refl
refusal_is SizesDiffer = refl
refusal_is DirectoryTooLarge = refl
refusal_is Over32Bits = refl
refusal_is (NoRoom needed) = refl

abbrev answer_back : Result ℕ paper.Refusal → Result ℕ Refusal
answer_back r = raise refusal_back r

answer_is : (r : Result ℕ Refusal) → answer_back (on_paper.told r) ≡ r
unfolding raise
answer_is (Ok n) = refl
answer_is (Err why) = ap Err (refusal_is why)

pub told : Told
told =
    record {
      refusal = read_back refusal_in refusal_back refusal_is;
      written = read_back on_paper.told answer_back answer_is;
    }

pub single_valued : SingleValued
single_valued =
    record {
      write_container = λ p sizes bytes out a b x y f g.
          only₂ on_paper.told told.written (writing p sizes (length bytes) (length out)) _ a b x y (f.answer, f.after) (g.answer, g.after);
    }
