-- The entries are copied in at once, as a run is put (`PutLaws`).
use Rattle.std.proofs.Common.{◌∙◌}
use Rattle.line_entries.specs.Entries.{line_entries}
use Rattle.store.proofs.PutLaws.{putting}
use Rattle.line_entries.proofs.put_line.Goals as goal

pub returns : goal.returns
returns c =
    let copied = c.copy_from_slice.ensures.after ∙ c.entries_of.ensures in
    (putting (line_entries c.args.line) c.args.store.now c.copy_from_slice.new.self c.args.at c.requires copied).store
