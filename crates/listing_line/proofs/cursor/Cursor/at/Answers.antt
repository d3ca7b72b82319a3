-- Neither the head nor the first stream has a stream before it; line 1 + k has those before stream k, which
-- `pages_before` counts.
use Rattle.listing_whole.proofs.WholeLaws.{whole_size}
use Rattle.listing_line.proofs.LineLaws.{past_none, sizes_lie}
use Rattle.listing_line.proofs.cursor.Cursor.at.Goals as goal
use Rattle.listing_line.proofs.cursor.Cursor.at.Goals.{then-line-eq0, else-line-eq0}

pub pages_before-before-requires-clause-page_size : goal.pages_before-before-requires-clause-page_size
pages_before-before-requires-clause-page_size c = whole_size c.requires.is_whole

pub pages_before-before-requires-clause-lying : goal.pages_before-before-requires-clause-lying
pages_before-before-requires-clause-lying c = sizes_lie c.requires.is_whole _ c.requires.line_bound

pub invariant_of-result-clause-pages_before : goal.invariant_of-result-clause-pages_before
invariant_of-result-clause-pages_before c =
    elim c.if-line-eq0.branch [
      | then-line-eq0 w ↦ rw w.before-is (past_none _ w.if-line-eq0.true)
      | else-line-eq0 w ↦ rw w.before-is w.pages_before-before.ensures
    ]
