-- Document 01, "File F and other checks": the (P) cases on the container. proofs/Cases.antt proves them by computation.
use Rattle.std.specs.Prelude.{◌≡◌, List, [], ◌∷◌, ℕ, length, None, Result, Ok, Err}
use Rattle.outcome.specs.Outcome.{◌>>=◌}
use Rattle.outcome.specs.Refusal as paper
use Rattle.parse_buffer.specs.Bytes.{File}
use Rattle.stream.specs.Stream.{found}
use Rattle.slices.specs.declared.SourceSlice.{SourceSlice}
use Rattle.mapping.specs.Mapping.{slices_in, mapping}
use Rattle.container_statements.specs.FileF.{file_f, F}
use Rattle.container_statements.specs.Statements.{byte_place}

-- what mapping a stream answers, with room for eight slices and no limit: the slices and the length
pub record Answer : Type 0 where
  pub slices : List SourceSlice
  pub size : ℕ

unfoldable pub mapping_of : File → ℕ → Result Answer paper.Refusal
mapping_of f k = do
  x ← mapping f 6144 k None 8
  Ok (record { slices = slices_in f x; size = x.length })

abbrev mapping_f : ℕ → Result Answer paper.Refusal
mapping_f k = mapping_of F k

-- where byte i of stream k of F stands, through the stream's own pages as they are found in F
unfoldable pub place_in_f : ℕ → ℕ → Result ℕ paper.Refusal
place_in_f k i = do
  x ← found F 6144 k
  Ok (byte_place F x i)

abbrev pub at : ℕ → ℕ → SourceSlice
at offset size = record { offset = offset; size = size }

abbrev not_found : ℕ → Result Answer paper.Refusal
not_found k = Err (record { number = 5; value = k })

pub record Cases : Type 0 where
  pub size : length file_f ≡ 6144
  pub two : mapping_f 2 ≡ Ok (record { slices = at 2560 512 ∷ at 1280 88 ∷ []; size = 600 })
  pub byte : place_in_f 2 599 ≡ Ok 1367
  pub zero : mapping_f 0 ≡ Ok (record { slices = at 5120 300 ∷ []; size = 300 })
  pub one : mapping_f 1 ≡ not_found 1
  pub three : mapping_f 3 ≡ not_found 3
