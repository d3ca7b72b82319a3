-- Each answer can be read back from what it says on paper, so no two answers say the same.
use mathlib.Core.Path.{◌≡◌, refl, sym, ap}
use mathlib.Core.Bool.{cond}
use lib.Dec.{eqb}
use Rattle.std.specs.Prelude.{Result, Ok, Err}
use Rattle.outcome.specs.Only.{Injective}
use Rattle.outcome.specs.Outcome.{raise}
use Rattle.outcome.specs.Refusal as paper
use Rattle.outcome.proofs.OnlyLaws.{read_back}
use Rattle.outcome.proofs.OutcomeLaws.{ok_is, ok_refused}
use Rattle.parse_buffer.specs.Parse as parse
use Rattle.parse_buffer.specs.declared.Word.{Word}
use Rattle.paged.specs.Refusal as paged
use Rattle.paged.specs.Refusal.{refusal_in}
use Rattle.paged.specs.declared.refusal.Refusal.{Refusal}
use Rattle.paged.specs.declared.refusal.Refusal.TheVariants.{UnrecognizedFileFormat, UnimplementedFeature, InvalidPageSize, PageReferenceOutOfRange, StreamNotFound, FileEnds, ShortData, NoRoom}
use Rattle.container_statements.specs.Statements.{Told}

-- ---- refusals
abbrev pub refusal_back : paper.Refusal → Refusal
refusal_back r =
    let n = r.number in
    let v = r.value in
    cond (eqb n 1) UnrecognizedFileFormat
    (cond (eqb n 2) UnimplementedFeature
    (cond (eqb n 3) (InvalidPageSize v)
    (cond (eqb n 4) (PageReferenceOutOfRange (record { 0 = v }))
    (cond (eqb n 5) (StreamNotFound (record { 0 = v }))
    (cond (eqb n 6) FileEnds
    (cond (eqb n 7) ShortData (NoRoom v)))))))

refusal_is : (why : Refusal) → refusal_back (refusal_in why) ≡ why
refusal_is UnrecognizedFileFormat = refl
refusal_is UnimplementedFeature = refl
refusal_is (InvalidPageSize size) = refl
refusal_is (PageReferenceOutOfRange page) = refl
refusal_is (StreamNotFound stream) = refl
refusal_is FileEnds = refl
refusal_is ShortData = refl
refusal_is (NoRoom needed) = refl

-- ---- answers: a value, or a refusal that can be read back
raised_back : {A E F : Type 0} (up : E → F) (back : F → E) → ((why : E) → back (up why) ≡ why) → (r : Result A E) → raise back (raise up r) ≡ r
unfolding raise
raised_back up back is (Ok a) = refl
raised_back up back is (Err why) = rw (is why)

pub told_is : {A : Type 0} → Injective (paged.told {A = A})
told_is {A} = read_back (paged.told {A = A}) (raise refusal_back) (raised_back refusal_in refusal_back refusal_is)

parsed_is : Injective (parse.told {A = Word})
unfolding raise
parsed_is (Ok a) (Ok b) e = ap Ok (ok_is e)
parsed_is (Ok a) (Err w) e = absurd (ok_refused e)
parsed_is (Err v) (Ok b) e = absurd (ok_refused (sym e))
parsed_is (Err v) (Err w) e = refl

pub told : Told
told =
    record {
      refusal = read_back refusal_in refusal_back refusal_is;
      parsed = parsed_is;
      opened = told_is;
      counted = told_is;
      mapped = told_is;
      extracted = told_is;
      checked = told_is;
      headed = told_is;
      presence = told_is;
      sought = told_is;
      measured = told_is;
    }
