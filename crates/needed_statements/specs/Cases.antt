-- File F's parts: its location list is the four bytes of page 3 that name page 4, its directory the 36 bytes there.
-- proofs/Cases.antt proves them by computation.
use Rattle.std.specs.Prelude.{◌≡◌, [], ◌∷◌, ℕ, Result, Ok, Err}
use Rattle.outcome.specs.Outcome.{◌>>=◌}
use Rattle.outcome.specs.Refusal as paper
use Rattle.parse_buffer.specs.Bytes.{File}
use Rattle.needed.specs.Needed.{bytes_at, slices_at, needing}
use Rattle.needed.specs.declared.Stage.{Stage}
use Rattle.needed.specs.declared.Stage.TheVariants.{LocationList, Directory}
use Rattle.container_statements.specs.FileF.{F}
use Rattle.container_statements.specs.Cases.{Answer, at}
use Rattle.isolation.specs.Tight.{changed}

-- what a stage answers of a file of so many bytes, with so much room: the slices and the length
unfoldable pub needed_of : File → ℕ → ℕ → Stage → Result Answer paper.Refusal
needed_of f len room stage = do
  h ← needing f len stage room
  Ok (record { slices = slices_at f stage h; size = bytes_at stage h })

abbrev refusal : ℕ → ℕ → Result Answer paper.Refusal
refusal number value = Err (record { number = number; value = value })

pub record Cases : Type 0 where
  pub location_list : needed_of F 6144 1 LocationList ≡ Ok (record { slices = at 768 4 ∷ []; size = 4 })
  pub directory : needed_of F 6144 1 Directory ≡ Ok (record { slices = at 1024 36 ∷ []; size = 36 })
  -- cut off after the header block, which reaches to page 16, F answers the same: no part needs to be in the file
  -- before it is asked for
  pub cut_off : needed_of F 4096 1 Directory ≡ Ok (record { slices = at 1024 36 ∷ []; size = 36 })
  pub far : needed_of (changed F 768 20) 4096 1 Directory ≡ Ok (record { slices = at 5120 36 ∷ []; size = 36 })
  pub no_room : needed_of F 6144 0 Directory ≡ refusal 10 1
  -- a page number of the location list is judged by the directory's stage alone
  pub bad_list : needed_of (changed F 768 24) 6144 1 LocationList ≡ Ok (record { slices = at 768 4 ∷ []; size = 4 })
  pub bad_page : needed_of (changed F 768 24) 6144 1 Directory ≡ refusal 4 24
  -- a location list past the file, 6
  pub list_past : needed_of (changed F 52 20) 4096 1 Directory ≡ refusal 6 0
  -- directory_size 0: no slice
  pub empty : needed_of (changed F 44 0) 6144 0 Directory ≡ Ok (record { slices = []; size = 0 })
