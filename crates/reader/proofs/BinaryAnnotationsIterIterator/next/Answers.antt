-- After an item fewer bytes are left.
use Rattle.std.proofs.Common.{rules}
use Rattle.reader.proofs.ItemLaws.{less_found, less_refused}
use Rattle.reader.proofs.BinaryAnnotationsIterIterator.next.Goals as goal

pub returns-in-Annotation-clause-goes : goal.returns-in-Annotation-clause-goes
returns-in-Annotation-clause-goes c = search (rules, less_found)

pub returns-in-Refused-clause-goes : goal.returns-in-Refused-clause-goes
returns-in-Refused-clause-goes c = search (rules, less_refused)
