use Rattle.std.proofs.Common.{◌≡◌, refl, ◌∙◌, ap, rules, arith}
use Rattle.listing_whole.specs.declared.Listable.{Listable}
use Rattle.listing.proofs.ListLaws.{so_none, so_more, write_stops, write_ends}
use Rattle.listing.proofs.write_lines.Goals as goal

pub loop-cursor-init : goal.loop-cursor-init
loop-cursor-init c = record { same_file = refl; same_whole = refl; room = refl; so_far = so_none _ _ _ }

pub returns-then-out-at : goal.returns-then-out-at
returns-then-out-at c =
    let i = c.loop-cursor.invariant in
    write_stops _ _ _ _ i.so_far (rw (i.same_file, i.same_whole) at c.write_line-n.ensures) (grind arith) c.if-out-at.true
    (rw (c.count.ensures, c.line.ensures, i.same_whole) at c.place_of.ensures)

pub loop-cursor-preserved : goal.loop-cursor-preserved
loop-cursor-preserved c =
    let i = c.loop-cursor.invariant in
    record {
      same_file = c.advance.ensures.same_file ∙ i.same_file;
      same_whole = c.advance.ensures.same_whole ∙ i.same_whole;
      room = search rules;
      so_far = rw c.advance.ensures.next_line (so_more i.so_far (rw (i.same_file, i.same_whole) at c.write_line-n.ensures) c.if-out-at.false c.put-at.ensures);
    }

pub returns : goal.returns
returns c =
    let i = c.loop-cursor.invariant in
    let same : c.loop-cursor.cursor.whole.count ≡ c.args.cursor.whole.count = ap (λ (w : Listable). w.count) i.same_whole in
    write_ends _ _ _ _ i.so_far (grind arith) (omega arith)
