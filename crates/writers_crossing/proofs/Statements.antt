-- No second answer: each number and each store is given by an equation.
use Rattle.crossing.proofs.CrossingLaws.{same}
use Rattle.writers_crossing.specs.Statements.{SingleValued}

pub single_valued : SingleValued
single_valued =
    record {
      write_annotations = λ list out a b p q i.
          (same p.answer.number q.answer.number i, same p.answer.value q.answer.value i, same p.after q.after i);
      write_container = λ size sizes bytes out a b p q i.
          (same p.answer.number q.answer.number i, same p.answer.value q.answer.value i, same p.after q.after i);
    }
