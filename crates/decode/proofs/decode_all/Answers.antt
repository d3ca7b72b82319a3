-- The count and the room are judged before anything is written, in the order of `decoding`, so a refusal leaves the
-- store. The entries needed fit a usize, since there are at most half as many annotations as bytes. Assumes nothing.
use native.Mathlib.Omega.{arith}
use Rattle.decode.proofs.DecodeLaws.{decode_cases, few}
use Rattle.decode.proofs.decode_all.Goals as goal

pub overflow_mul-needed : goal.overflow_mul-needed
overflow_mul-needed c = omega (arith, few _ c.args.store.now c.in_ok-n.ensures)

pub returns-then-store-needed : goal.returns-then-store-needed
returns-then-store-needed c = search (decode_cases, c.in_ok-n.ensures)

pub write_all-requires : goal.write_all-requires
write_all-requires c = search (decode_cases, c.in_ok-n.ensures)

pub returns : goal.returns
returns c = search (decode_cases, c.in_ok-n.ensures)
