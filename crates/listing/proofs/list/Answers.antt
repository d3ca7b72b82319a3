-- `judge` answers as `listable` does, so a file that is not listed is refused with its refusal and the buffer stays;
-- else `write_lines` writes the lines that `fitting` has. Assumes nothing.
use Rattle.std.proofs.Common.{◌≡◌, Err, rules}
use Rattle.listing_whole.proofs.WholeLaws.{whole_is}
use Rattle.listing.proofs.ListLaws.{list_refused, list_fine}
use Rattle.listing.proofs.list.Goals as goal

pub returns-in_err-whole : goal.returns-in_err-whole
returns-in_err-whole c =
    let same : c.from_residual.result ≡ Err c.in_err-whole.field-0.0 = search rules in
    rw same (list_refused c.judge.ensures _ _ c.in_err-whole.was)

pub at-cursor-requires-clause-is_whole : goal.at-cursor-requires-clause-is_whole
at-cursor-requires-clause-is_whole c = whole_is c.judge.ensures c.in_ok-whole.was

pub returns : goal.returns
returns c =
    let at = c.at-cursor.ensures in
    list_fine c.judge.ensures c.args.from c.in_ok-whole.was c.line_of.ensures
    (rw (at.same_file, at.same_whole, at.at_line) at c.write_lines.ensures)
