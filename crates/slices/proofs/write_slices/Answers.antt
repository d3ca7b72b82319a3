use Rattle.parse_buffer.specs.Bytes.{byte_at}
use Rattle.slices.proofs.WalkLaws.{onward_some, write_none, write_more, write_all, room_offsets, room_sizes}
use Rattle.slices.proofs.StretchesLaws.{of_stretch, of_onward, of_within, of_past, by_start, by_near, by_more}
use Rattle.slices.proofs.write_slices.Goals as goal

pub loop-s-init : goal.loop-s-init
loop-s-init c =
    rw c.into_iter-s-iterator.ensures.into_iter_gives
    (record {
      walk = by_start c.args.file c.args.x c.new-s-items.ensures.file c.new-s-items.ensures.extent c.new-s-items.ensures.last c.begin-walk.ensures;
      written = rw c.new-s-items.ensures.last (write_none (byte_at c.args.file.now) c.args.x c.args.offsets.now c.args.sizes.now);
    })

pub extend-walk-requires-clause-near : goal.extend-walk-requires-clause-near
extend-walk-requires-clause-near c = by_near c.loop-s.invariant.walk c.in-Some.ensures.steps

pub put-requires-clause-count_nonzero : goal.put-requires-clause-count_nonzero
put-requires-clause-count_nonzero c = onward_some c.args.x _ c.in-Some.s c.loop-s.walk c.extend-walk.ensures

pub put-requires-clause-in_offsets : goal.put-requires-clause-in_offsets
put-requires-clause-in_offsets c =
    let inv = c.loop-s.invariant in
    let gives = c.in-Some.ensures.steps in
    room_offsets inv.written inv.walk.walk (of_stretch inv.walk.of gives) (of_onward inv.walk.of gives c.loop-s.walk c.extend-walk.ensures) c.requires.extends c.requires.offsets_room

pub put-requires-clause-in_sizes : goal.put-requires-clause-in_sizes
put-requires-clause-in_sizes c =
    let inv = c.loop-s.invariant in
    let gives = c.in-Some.ensures.steps in
    room_sizes inv.written inv.walk.walk (of_stretch inv.walk.of gives) (of_onward inv.walk.of gives c.loop-s.walk c.extend-walk.ensures) c.requires.extends c.requires.sizes_room

pub loop-s-preserved : goal.loop-s-preserved
loop-s-preserved c =
    let inv = c.loop-s.invariant in
    let gives = c.in-Some.ensures.steps in
    record {
      walk = by_more inv.walk gives c.extend-walk.ensures;
      written = rw gives.given.last (write_more inv.written inv.walk.walk (of_stretch inv.walk.of gives) (of_onward inv.walk.of gives c.loop-s.walk c.extend-walk.ensures) c.put.ensures.offsets_after c.put.ensures.sizes_after);
    }

pub returns : goal.returns
returns c =
    let inv = c.loop-s.invariant in
    let gives = c.in-None.ensures.steps in
    write_all inv.written inv.walk.walk c.requires.extends (of_within inv.walk.of gives) (of_past inv.walk.of gives)
