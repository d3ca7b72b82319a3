-- `Buffer::format` gives the digits that std spells, and those are what `decimal` spells (`TextLaws`). Assumes room for
-- 20 bytes.
use Rattle.std.proofs.Common.{arith}
use Rattle.listing_text.proofs.TextLaws.{puts_number}
use Rattle.listing_text.proofs.put_number.Goals as goal

pub returns-clause-putting : goal.returns-clause-putting
returns-clause-putting c = puts_number (omega arith) (cc) c.put.ensures
