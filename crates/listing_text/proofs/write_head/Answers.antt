-- Word, number and newline each begin where the one before ended, so together they are one run (`puts_three`). Assumes
-- room for 80 bytes.
use Rattle.store.proofs.PutLaws.{puts_three}
use Rattle.listing_text.proofs.write_head.Goals as goal

pub returns : goal.returns
returns c = puts_three c.put-word.ensures (rw c.from.ensures at c.put_number-number.ensures.putting) c.put.ensures
