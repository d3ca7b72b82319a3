-- Each run begins where the one before ended, so the four together are one run (`puts_four`). Two numbers, a blank and
-- the newline are at most 42 bytes. Assumes room for 42 bytes.
use Rattle.store.proofs.PutLaws.{puts_four}
use Rattle.listing_text.proofs.put_numbers.Goals as goal

pub returns : goal.returns
returns c = search puts_four
