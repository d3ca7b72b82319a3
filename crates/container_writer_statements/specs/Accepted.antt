-- What the statements are about: input that is accepted, and a file that begins with what is written of it.
use Rattle.std.specs.Prelude.{◌≡◌, List, ℕ, ◌^◌, ◌≤◌, ◌<◌, length, get_or, Ok}
use Rattle.parse_buffer.specs.Bytes.{File}
use Rattle.container_layout.specs.Layout.{file_length}
use Rattle.container_layout.specs.Container.{container}
use Rattle.container_layout.specs.Planning.{layout_of, planning}

-- numbers of 32 bits
abbrev pub Words : List ℕ → Type 0
Words sizes = (k : ℕ) → k < length sizes → get_or sizes k 0 < 2 ^ 32

-- planning accepts the page size and the sizes for an input of so many bytes
pub record Accepted (p : ℕ) (sizes : List ℕ) (given : ℕ) : Type 0 where
  pub plan : planning p sizes given ≡ Ok (layout_of p sizes)
  pub words : Words sizes

-- a file of `len` bytes that begins with what is written
pub record Holds (f : File) (len p : ℕ) (sizes bytes : List ℕ) : Type 0 where
  pub long : file_length p sizes ≤ len
  pub byte : (i : ℕ) → i < file_length p sizes → f i ≡ container p sizes bytes i
