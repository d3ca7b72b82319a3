-- The entries that the directory holds are checked before 7 is given, as `found` says. The first entry stands in the
-- directory, so what is left does not wrap.
-- Assumes that the stream is present, that the directory holds all sizes, and the count of pages before.
use native.Mathlib.Omega.{arith}
use Rattle.std.specs.Prelude.{◌≡◌, Err}
use Rattle.outcome.specs.Outcome.{raise}
use Rattle.paged.specs.Refusal.{refusal_in, told}
use Rattle.stream.proofs.FindLaws.{after_size, after_bad, after_short, after_fine}
use Rattle.stream.proofs.find_after.Goals as goal

pub pages_needed_to_store-n-requires-clause-page_size : goal.pages_needed_to_store-n-requires-clause-page_size
pages_needed_to_store-n-requires-clause-page_size c = after_size c.requires

pub check_pages-requires-clause-page_size : goal.check_pages-requires-clause-page_size
check_pages-requires-clause-page_size c = after_size c.requires

pub returns-in_err-check_pages : goal.returns-in_err-check_pages
unfolding raise
returns-in_err-check_pages c =
    let refused : told c.from_residual.result ≡ Err (refusal_in c.in_err-check_pages.field-0.0) = grind arith in
    after_bad c.requires c.words-words.ensures (omega arith) c.pages_needed_to_store-n.ensures c.min.ensures c.in_err-check_pages.ensures refused

pub returns-then-left-n : goal.returns-then-left-n
unfolding raise
returns-then-left-n c =
    after_short c.requires c.words-words.ensures (omega arith) c.pages_needed_to_store-n.ensures c.min.ensures c.in_ok-check_pages.ensures (omega arith)

pub returns : goal.returns
unfolding raise
returns c =
    after_fine c.requires c.words-words.ensures (omega arith) c.pages_needed_to_store-n.ensures c.min.ensures c.in_ok-check_pages.ensures (omega arith)
