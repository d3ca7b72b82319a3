-- The head has no pages, so the count stays. Past a stream it grows by the pages of the size that the directory has for
-- it, as `Before` counts (`LineLaws`).
use native.Mathlib.Nat.{add-zero}
use Rattle.listing_whole.proofs.WholeLaws.{whole_size}
use Rattle.listing_line.proofs.LineLaws.{past_head, past_stream}
use Rattle.listing_line.proofs.cursor.Cursor.pages.Goals as goal

pub returns-then-self-eq0 : goal.returns-then-self-eq0
returns-then-self-eq0 c = simp add-zero (past_head _ c.if-self-eq0.true c.args.self.now.pages_before)

pub directory_word-requires-clause-page_size : goal.directory_word-requires-clause-page_size
directory_word-requires-clause-page_size c = whole_size c.args.self.now.is_whole

pub pages_of-requires : goal.pages_of-requires
pages_of-requires c = whole_size c.args.self.now.is_whole

pub returns : goal.returns
returns c =
    past_stream c.args.self.now.is_whole _ c.requires.line_le_count c.args.self.now.pages_before _ c.pages_of.ensures
    c.directory_word.type_inv c.if-self-eq0.false c.directory_word.ensures
