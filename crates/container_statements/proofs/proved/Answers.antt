-- Each statement by its proof, in the order in which they are promised.
-- Assumes nothing.
use Rattle.container_statements.proofs.BothForms.{both_forms}
use Rattle.container_statements.proofs.Cases.{cases}
use Rattle.container_statements.proofs.Statements.{single_valued, the_byte, the_slices, pages_needed, own}
use Rattle.container_statements.proofs.Told.{told}
use Rattle.container_statements.proofs.proved.Goals as goal

pub returns-clause-told : goal.returns-clause-told
returns-clause-told c = told

pub returns-clause-single_valued : goal.returns-clause-single_valued
returns-clause-single_valued c = single_valued

pub returns-clause-the_byte : goal.returns-clause-the_byte
returns-clause-the_byte c = the_byte

pub returns-clause-the_slices : goal.returns-clause-the_slices
returns-clause-the_slices c = the_slices

pub returns-clause-both_forms : goal.returns-clause-both_forms
returns-clause-both_forms c = both_forms

pub returns-clause-pages_needed : goal.returns-clause-pages_needed
returns-clause-pages_needed c = pages_needed

pub returns-clause-own : goal.returns-clause-own
returns-clause-own c = own

pub returns-clause-cases : goal.returns-clause-cases
returns-clause-cases c = cases
