-- No second answer: each number and each store is given by an equation.
use Rattle.crossing.proofs.CrossingLaws.{same}
use Rattle.container_crossing.specs.Statements.{SingleValued}

pub single_valued : SingleValued
single_valued =
    record {
      opening = λ f len a b p q i.
          (same p.answer.number q.answer.number i, same p.answer.value q.answer.value i, same p.used_told q.used_told i);
      of_stream_count = λ f len a b p q i.
          (same p.answer.number q.answer.number i, same p.answer.value q.answer.value i);
      map = λ f len k limit os ss a b p q i.
          (same p.tells.answer.number q.tells.answer.number i, same p.tells.answer.value q.tells.answer.value i, same p.tells.length_told q.tells.length_told i, same p.offsets_after q.offsets_after i, same p.sizes_after q.sizes_after i);
      needed_to_map = λ f len stage os ss a b p q i.
          (same p.tells.answer.number q.tells.answer.number i, same p.tells.answer.value q.tells.answer.value i, same p.tells.length_told q.tells.length_told i, same p.offsets_after q.offsets_after i, same p.sizes_after q.sizes_after i);
      extract = λ f len k limit out a b p q i.
          (same p.answer.number q.answer.number i, same p.answer.value q.answer.value i, same p.after q.after i);
    }
