-- Request 2026-07: line records in the store.
use Rattle.std.specs.Prelude.{ℕ, List, [], ◌∷◌, ◌++◌, ℤ, pos, negsuc, Option, Some, None}
use Rattle.line_state.specs.State.{offset_of}
use Rattle.line_state.specs.declared.state.Line.{Line}

abbrev pub listed : Option Line → List Line
listed None = []
listed (Some l) = l ∷ []

-- "A record is eight signed 64-bit numbers: offset, length (-1 for none), file, line, line count, kind, start column,
-- end column"
abbrev pub entries_each : ℕ
entries_each = 8

abbrev pub length_entry : Option ℕ → ℤ
length_entry None = negsuc 0
length_entry (Some n) = pos n

abbrev pub line_entries : Line → List ℤ
line_entries l =
    pos (offset_of l.at)
    ∷ length_entry l.length
    ∷ pos l.at.file
    ∷ l.at.line
    ∷ pos l.at.count
    ∷ pos l.at.kind
    ∷ pos l.at.start
    ∷ l.at.end
    ∷ []

unfoldable pub entries : List Line → List ℤ
entries [] = []
entries (l ∷ later) = line_entries l ++ entries later
