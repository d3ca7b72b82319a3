-- Each statement by its proof, in the order in which they are promised.
-- Assumes nothing.
use Rattle.annotation_writer_statements.proofs.Told.{told, single_valued}
use Rattle.annotation_writer_statements.proofs.RoundTrip.{round_trip, same_entries}
use Rattle.annotation_writer_statements.proofs.Least.{shortest}
use Rattle.annotation_writer_statements.proofs.BytesLaws.{more_bytes, from_a_place}
use Rattle.annotation_writer_statements.proofs.Exactly.{carries_exactly, refused_exactly}
use Rattle.annotation_writer_statements.proofs.Cases.{cases}
use Rattle.annotation_writer_statements.proofs.proved.Goals as goal

pub returns-clause-told : goal.returns-clause-told
returns-clause-told c = told

pub returns-clause-single_valued : goal.returns-clause-single_valued
returns-clause-single_valued c = single_valued

pub returns-clause-round_trip : goal.returns-clause-round_trip
returns-clause-round_trip c = round_trip

pub returns-clause-same_entries : goal.returns-clause-same_entries
returns-clause-same_entries c = same_entries

pub returns-clause-shortest : goal.returns-clause-shortest
returns-clause-shortest c = shortest

pub returns-clause-more_bytes : goal.returns-clause-more_bytes
returns-clause-more_bytes c = more_bytes

pub returns-clause-from_a_place : goal.returns-clause-from_a_place
returns-clause-from_a_place c = from_a_place

pub returns-clause-carries_exactly : goal.returns-clause-carries_exactly
returns-clause-carries_exactly c = carries_exactly

pub returns-clause-refused_exactly : goal.returns-clause-refused_exactly
returns-clause-refused_exactly c = refused_exactly

pub returns-clause-cases : goal.returns-clause-cases
returns-clause-cases c = cases
