-- The line is copied to `out` only if `out` is as long, so a line is never written in part.
use borrow.Author.Rules.{rules}
use Rattle.listing.proofs.ListLaws.{refusal_put}
use Rattle.listing.proofs.list_refusal.Goals as goal

pub returns : goal.returns
returns c = search (refusal_put, rules)
