use Rattle.slices.proofs.StretchesLaws.{of_start, of_stretch, of_index, of_next, of_within, of_past}
use Rattle.msf.proofs.CopyLaws.{copy_none, run_in_file, run_in_store, copy_more, copy_all}
use Rattle.msf.proofs.to_bytes.copy_pages.Goals as goal

pub loop-s-init : goal.loop-s-init
loop-s-init c =
    rw c.into_iter-s-iterator.ensures.into_iter_gives
    (record {
      of = of_start c.args.file c.args.x c.new-s-items.ensures.file c.new-s-items.ensures.extent;
      copied = rw c.new-s-items.ensures.last (copy_none c.args.file.now c.args.x c.args.out.now);
    })

pub copy-requires-clause-in_file : goal.copy-requires-clause-in_file
copy-requires-clause-in_file c =
    let inv = c.loop-s.invariant in
    let gives = c.in-Some.ensures.steps in
    let n_is = rw (of_index inv.of gives) at c.span_of-n.ensures in
    run_in_file inv.copied c.requires.extends (of_stretch inv.of gives) n_is c.requires.lies_in

pub copy-requires-clause-room : goal.copy-requires-clause-room
copy-requires-clause-room c =
    let inv = c.loop-s.invariant in
    let gives = c.in-Some.ensures.steps in
    let n_is = rw (of_index inv.of gives) at c.span_of-n.ensures in
    rw (of_index inv.of gives) (run_in_store inv.copied c.requires.extends (of_stretch inv.of gives) n_is c.requires.room)

pub loop-s-preserved : goal.loop-s-preserved
loop-s-preserved c =
    let inv = c.loop-s.invariant in
    let gives = c.in-Some.ensures.steps in
    let n_is = rw (of_index inv.of gives) at c.span_of-n.ensures in
    let more = rw (of_index inv.of gives) at c.copy.ensures in
    record {
      of = of_next inv.of gives;
      copied = rw gives.given.last (copy_more inv.copied c.requires.extends (of_stretch inv.of gives) n_is more);
    }

pub returns : goal.returns
returns c =
    let inv = c.loop-s.invariant in
    let gives = c.in-None.ensures.steps in
    copy_all inv.copied c.requires.extends c.requires.room (of_within inv.of gives) (of_past inv.of gives)
