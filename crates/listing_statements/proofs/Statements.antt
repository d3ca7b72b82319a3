-- No second answer: each can be read back from what it says on paper.
use mathlib.Core.Path.{◌≡◌, refl}
use mathlib.Core.Bool.{cond}
use lib.Dec.{eqb}
use Rattle.std.specs.Prelude.{Result, Ok, Err}
use Rattle.outcome.specs.Only.{Injective}
use Rattle.outcome.specs.Outcome.{raise}
use Rattle.outcome.specs.Refusal as paper
use Rattle.outcome.proofs.OnlyLaws.{read_back, only, only₂}
use Rattle.paged.specs.declared.refusal.Refusal.TheVariants.{UnrecognizedFileFormat, UnimplementedFeature, InvalidPageSize, PageReferenceOutOfRange, StreamNotFound, FileEnds, ShortData, NoRoom}
use Rattle.container_statements.proofs.Told.{refusal_back}
use Rattle.listing_whole.specs.Whole as whole
use Rattle.listing_whole.specs.Whole.{list_refusal_in}
use Rattle.listing_whole.specs.declared.refusal.ListRefusal.{ListRefusal}
use Rattle.listing_whole.specs.declared.refusal.ListRefusal.TheVariants.{Container, OverLimit}
use Rattle.listing_statements.specs.Statements.{Told, SingleValued}

abbrev list_refusal_back : paper.Refusal → ListRefusal
list_refusal_back r = cond (eqb r.number 11) (OverLimit r.value) (Container (refusal_back r))

list_refusal_is : (why : ListRefusal) → list_refusal_back (list_refusal_in why) ≡ why
list_refusal_is (OverLimit limit) = refl
list_refusal_is (Container UnrecognizedFileFormat) = refl
list_refusal_is (Container UnimplementedFeature) = refl
list_refusal_is (Container (InvalidPageSize size)) = refl
list_refusal_is (Container (PageReferenceOutOfRange page)) = refl
list_refusal_is (Container (StreamNotFound stream)) = refl
list_refusal_is (Container FileEnds) = refl
list_refusal_is (Container ShortData) = refl
list_refusal_is (Container (NoRoom needed)) = refl

raised_back : {A : Type 0} (r : Result A ListRefusal) → raise list_refusal_back (whole.told r) ≡ r
unfolding raise
raised_back (Ok a) = refl
raised_back (Err why) = rw (list_refusal_is why)

told_is : {A : Type 0} → Injective (whole.told {A = A})
told_is {A} = read_back (whole.told {A = A}) (raise list_refusal_back) raised_back

pub told : Told
told =
    record {
      refusal = read_back list_refusal_in list_refusal_back list_refusal_is;
      listed = told_is;
      judged = told_is;
    }

pub single_valued : SingleValued
single_valued =
    record {
      list = λ f len place out a b x y p q.
          only₂ whole.told told.listed _ _ a b x y (p.answer, p.after) (q.answer, q.after);
      list_refusal = λ why out a b x y p q.
          only₂ (λ (n : _). n) (λ a b e. e) _ _ a b x y (p.answer, p.after) (q.answer, q.after);
      judge = λ f len a b p q. only whole.told told.judged _ a b p.answer q.answer;
    }
