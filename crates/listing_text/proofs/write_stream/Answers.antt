-- The blank begins where the number ended, so together they are one run (`puts_more`). Assumes room for 80 bytes.
use Rattle.store.proofs.PutLaws.{puts_more}
use Rattle.listing_text.proofs.write_stream.Goals as goal

pub returns-clause-putting : goal.returns-clause-putting
returns-clause-putting c = rw (← c.from.ensures) (search puts_more)
