-- Line 0 is the head and line 1 + k shows stream k, as `line_at` says.
use Rattle.listing_line.proofs.LineLaws.{line_cases}
use Rattle.listing_line.proofs.cursor.Cursor.write_line.Goals as goal

pub returns-then-self-eq0 : goal.returns-then-self-eq0
returns-then-self-eq0 c = search line_cases

pub returns : goal.returns
returns c = search line_cases
