-- Document 01, "Listing of F, whole". proofs/Cases.antt proves it by computation.
use Rattle.std.specs.Prelude.{◌≡◌, List, [], ◌∷◌, ◌++◌, ℕ}
use Rattle.container_statements.specs.FileF.{F}
use Rattle.listing.specs.Listing.{listing}

-- "streams 3"
abbrev head : List ℕ
head = 0x73 ∷ 0x74 ∷ 0x72 ∷ 0x65 ∷ 0x61 ∷ 0x6d ∷ 0x73 ∷ 0x20 ∷ 0x33 ∷ 0x0a ∷ []

-- "0 300 1"
abbrev zero : List ℕ
zero = 0x30 ∷ 0x20 ∷ 0x33 ∷ 0x30 ∷ 0x30 ∷ 0x20 ∷ 0x31 ∷ 0x0a ∷ []

-- "1 absent", by request 2026-02
abbrev one : List ℕ
one = 0x31 ∷ 0x20 ∷ 0x61 ∷ 0x62 ∷ 0x73 ∷ 0x65 ∷ 0x6e ∷ 0x74 ∷ 0x0a ∷ []

-- "2 600 2"
abbrev two : List ℕ
two = 0x32 ∷ 0x20 ∷ 0x36 ∷ 0x30 ∷ 0x30 ∷ 0x20 ∷ 0x32 ∷ 0x0a ∷ []

pub record Cases : Type 0 where
  pub listing_of_f : listing F 6144 ≡ head ++ zero ++ one ++ two
