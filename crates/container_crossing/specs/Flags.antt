-- What crosses as a flag: a limit, with a number beside it, and a stage.
use Rattle.std.specs.Prelude.{Bool, cond, ℕ, Option, Some, None}
use Rattle.needed.specs.declared.Stage.{Stage}
use Rattle.needed.specs.declared.Stage.TheVariants.{LocationList, Directory}

-- the limit, if there is one
abbrev pub limit_of : Bool → ℕ → Option ℕ
limit_of limited n = cond limited (Some n) None

abbrev pub stage_of : Bool → Stage
stage_of directory = cond directory Directory LocationList
