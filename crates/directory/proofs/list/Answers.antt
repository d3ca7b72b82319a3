-- The list lies in the file before it is read.
-- Assumes nothing.
use Rattle.directory.proofs.DirectoryLaws.{list_lies, page_bad}
use Rattle.outcome.specs.Outcome.{raise}
use Rattle.paged.specs.Refusal.{told, refusal_in}
use Rattle.std.specs.Prelude.{◌≡◌, Err}
use native.Mathlib.Omega.{arith}
use Rattle.directory.proofs.list.Goals as goal

pub check_pages-requires-clause-lying : goal.check_pages-requires-clause-lying
check_pages-requires-clause-lying c =
    list_lies c.locate.ensures.answer c.in_ok-h.was c.pages_needed_to_store-pages.ensures c.pages_needed_to_store-list_pages.ensures c.lies_in_file.ensures c.in_ok-lies_in_file.was

pub returns-in_err-check_pages-clause-answer : goal.returns-in_err-check_pages-clause-answer
unfolding raise
returns-in_err-check_pages-clause-answer c =
    let refused : told c.from_residual-in_err-check_pages.result ≡ Err (refusal_in c.in_err-check_pages.field-0.0) = grind arith in
    page_bad _ c.in_ok-h.ensures.answer.answer c.pages_needed_to_store-pages.ensures c.pages_needed_to_store-list_pages.ensures c.in_ok-lies_in_file.ensures c.in_err-check_pages.ensures refused
