-- Request 2026-05: what writing answers, and what it writes.
use Rattle.std.specs.Prelude.{ℕ, zero, suc, List, [], ◌∷◌, ◌++◌, leb, Result, Ok}
use Rattle.outcome.specs.Outcome.{◌>>◌, require}
use Rattle.outcome.specs.Refusal as paper
use Rattle.parse_buffer.specs.Bytes.{File}
use Rattle.container_layout.specs.Layout.{file_length}
use Rattle.container_layout.specs.Refusal.{refusal_in}
use Rattle.container_layout.specs.Planning.{planning}
use Rattle.container_layout.specs.declared.refusal.Refusal.TheVariants.{NoRoom}

-- the first n bytes of a file
unfoldable pub first_bytes : File → ℕ → List ℕ
first_bytes f zero = []
first_bytes f (suc n) = first_bytes f n ++ f n ∷ []

-- the file's length, for an input and a store of so many bytes: "3; 22 [..]; 23 [..]; 24 [..]; 10; in that order"
unfoldable pub writing : ℕ → List ℕ → ℕ → ℕ → Result ℕ paper.Refusal
writing p sizes given room = do
  planning p sizes given
  require (leb (file_length p sizes) room) (refusal_in (NoRoom (file_length p sizes)))
  Ok (file_length p sizes)
