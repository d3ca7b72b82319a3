-- No second answer: each number and each store is given by an equation.
use Rattle.crossing.proofs.CrossingLaws.{same}
use Rattle.annotations_crossing.specs.Statements.{SingleValued}

pub single_valued : SingleValued
single_valued =
    record {
      number = λ s at a b p q i.
          (same p.answer.number q.answer.number i, same p.answer.value q.answer.value i, same p.taken_told q.taken_told i, same p.shortest_told q.shortest_told i, same p.next_told q.next_told i);
      step = λ s at a b p q i.
          (same p.answer.number q.answer.number i, same p.answer.value q.answer.value i, same p.first_told q.first_told i, same p.second_told q.second_told i, same p.shortest_told q.shortest_told i, same p.next_told q.next_told i);
      decode = λ s store a b p q i.
          (same p.answer.number q.answer.number i, same p.answer.value q.answer.value i, same p.place_told q.place_told i, same p.after q.after i);
      run_lines = λ s store a b p q i.
          (same p.answer.number q.answer.number i, same p.answer.value q.answer.value i, same p.place_told q.place_told i, same p.after q.after i);
    }
