-- The entries are copied in at once, as a run is put (`PutLaws`).
use mathlib.Core.Path.{◌∙◌}
use Rattle.decode.specs.Decode.{entries_of}
use Rattle.store.proofs.PutLaws.{putting}
use Rattle.decode.proofs.put.Goals as goal

pub returns : goal.returns
returns c =
    (putting (entries_of c.args.t c.args.shortest) c.args.store.now c.copy_from_slice.new.self c.args.at c.requires (c.copy_from_slice.ensures.after ∙ c.entries_of.ensures)).store
