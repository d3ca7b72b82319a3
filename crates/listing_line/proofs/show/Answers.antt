-- The count and all sizes are there, so finding goes on from the carried count as it would afresh (`show_skipped`), and
-- no refusal after this is 5. Assumes a file that is listed, a stream below the count, and the carried count.
use Rattle.std.proofs.Common.{◌≡◌, Err, rules}
use Rattle.extent.proofs.ExtentLaws.{measure_held}
use Rattle.listing_line.proofs.LineLaws.{show_absent, show_refused, show_stream, show_skipped, own_size, show_lie}
use Rattle.listing_whole.proofs.WholeLaws.{whole_size}
use Rattle.listing_line.proofs.show.Goals as goal

pub directory_word-size-requires-clause-page_size : goal.directory_word-size-requires-clause-page_size
directory_word-size-requires-clause-page_size c = search whole_size

pub directory_word-size-requires-clause-w_bound : goal.directory_word-size-requires-clause-w_bound
directory_word-size-requires-clause-w_bound c = search (own_size, rules)

pub returns-then-size : goal.returns-then-size
returns-then-size c = search show_absent

pub find_after-requires : goal.find_after-requires
find_after-requires c = search show_skipped

pub returns-in_err-found : goal.returns-in_err-found
returns-in_err-found c =
    let same : c.from_residual.result ≡ Err c.in_err-found.field-0.0 = search rules in
    rw same
    (show_refused c.requires.whole c.requires.stream_lt_count c.directory_word-size.ensures c.if-size.false c.requires.pages_before c.in_err-found.ensures)

pub first_bytes-requires : goal.first_bytes-requires
first_bytes-requires c = measure_held c.in_ok-found.ensures (search rules)

pub count_slices-slices-requires-clause-entries_lie : goal.count_slices-slices-requires-clause-entries_lie
count_slices-slices-requires-clause-entries_lie c = show_lie c.in_ok-found.ensures c.first_bytes.ensures.value

pub returns : goal.returns
returns c = show_stream c.in_ok-found.ensures c.first_bytes.ensures.value c.count_slices-slices.ensures
