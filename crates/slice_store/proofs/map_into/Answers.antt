use Rattle.std.proofs.Common.{rules, ◌≡◌, ◌-◌, arith, ◌<◌, length}
use Rattle.parse_buffer.specs.Bytes.{byte_at}
use Rattle.extent.proofs.ExtentLaws.{handed_up}
use Rattle.slices.proofs.WalkLaws.{onward_some, store_more}
use Rattle.slices.proofs.StretchesLaws.{of_stretch, of_onward, of_within, of_past, by_start, by_near, by_more}
use Rattle.slice_store.proofs.StepLaws.{store_start, place_inside, maps_refused, maps_into}
use Rattle.slice_store.proofs.map_into.Goals as goal

pub returns-in_err-x : goal.returns-in_err-x
returns-in_err-x c = rw (handed_up c.from_residual.ensures.1) (maps_refused c.args.store.now c.in_err-x.ensures)

pub loop-s-init : goal.loop-s-init
loop-s-init c =
    rw c.into_iter-s-iterator.ensures.into_iter_gives
    (record {
      walk = by_start c.args.file c.in_ok-x.x c.new-s-items.ensures.file c.new-s-items.ensures.extent c.new-s-items.ensures.last c.begin-walk.ensures;
      store = rw c.new-s-items.ensures.last (store_start (byte_at c.args.file.now) c.in_ok-x.x c.args.store.now);
    })

pub extend-walk-requires-clause-near : goal.extend-walk-requires-clause-near
extend-walk-requires-clause-near c = by_near c.loop-s.invariant.walk c.in-Some.ensures.steps

pub overflow_sub-walk : goal.overflow_sub-walk
overflow_sub-walk c = search onward_some

pub bounds-store-walk : goal.bounds-store-walk
bounds-store-walk c =
    let inv = c.loop-s.invariant in
    let gives = c.in-Some.ensures.steps in
    let inside = place_inside c.in_ok-x.ensures.writable inv.walk.walk (of_stretch inv.walk.of gives) (of_onward inv.walk.of gives c.loop-s.walk c.extend-walk.ensures) in
    let same : length c.loop-s.store ≡ length c.args.store.now = c.loop-s.auto.store in
    omega arith

pub offset_bounds-store-walk : goal.offset_bounds-store-walk
offset_bounds-store-walk c =
    let inside : c.extend-walk.result.count - 1 < length c.loop-s.store = bounds-store-walk c in
    search rules

pub loop-s-preserved : goal.loop-s-preserved
loop-s-preserved c =
    let inv = c.loop-s.invariant in
    let gives = c.in-Some.ensures.steps in
    record {
      walk = by_more inv.walk gives c.extend-walk.ensures;
      store = rw (inv.store, gives.given.last) (store_more inv.walk.walk (of_stretch inv.walk.of gives) (of_onward inv.walk.of gives c.loop-s.walk c.extend-walk.ensures) c.args.store.now);
    }

pub returns : goal.returns
returns c =
    let inv = c.loop-s.invariant in
    let gives = c.in-None.ensures.steps in
    rw inv.store (maps_into c.args.store.now c.in_ok-x.ensures inv.walk.walk (of_within inv.walk.of gives) (of_past inv.walk.of gives))
