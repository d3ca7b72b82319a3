-- The length is at most the stream's size, so its pages are among the stream's own, which the directory holds.
-- Assumes a stream that was found: its page size passes and its entries are words of the directory.
use Rattle.extent.proofs.ExtentLaws.{first_extends}
use Rattle.extent.proofs.first_bytes.Goals as goal

pub returns-clause-extends : goal.returns-clause-extends
returns-clause-extends c = search first_extends
