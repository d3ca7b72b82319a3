-- What is shown begins where the stream's number ended, so together they are the line (`puts_more`), whichever of the
-- three it is. Assumes room for the longest line.
use Rattle.std.proofs.Common.{◌≡◌, Some, None, Ok, ◌∙◌, ap}
use Rattle.listing_line.proofs.LineLaws.{text_stream, text_absent, text_refused}
use Rattle.listing_line.proofs.write_shown.Goals as goal

pub returns-in-Ok-Some : goal.returns-in-Ok-Some
returns-in-Ok-Some c =
    let inner : c.in-Ok-Some.field-0 ≡ Some c.in-Ok-Some.shown = rw c.in-Ok-Some.is at c.in-Ok-Some.field-0-is in
    text_stream c.write_stream-at.ensures.putting (c.in-Ok-Some.is ∙ ap Ok inner) c.write_size.ensures

pub returns-in-Ok-None : goal.returns-in-Ok-None
returns-in-Ok-None c =
    let inner : c.in-Ok-None.field-0 ≡ None = rw c.in-Ok-None.is at c.in-Ok-None.field-0-is in
    text_absent c.write_stream-at.ensures.putting (c.in-Ok-None.is ∙ ap Ok inner) c.write_absent.ensures

pub returns-in-Err : goal.returns-in-Err
returns-in-Err c = search text_refused
