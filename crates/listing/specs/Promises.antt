-- The promises of the listing: the whole answer, and the lent buffer at exit.
use Rattle.std.specs.Prelude.{◌≡◌, cond, List, ℕ, leb, length, Result}
use Rattle.std.proofs.lemmas.List.Edits.{sets}
use Rattle.outcome.specs.Refusal as paper
use Rattle.outcome.specs.Store.{written}
use Rattle.parse_buffer.specs.Bytes.{File}
use Rattle.listing_text.specs.Text.{refusal_text}
use Rattle.listing_whole.specs.Whole.{told}
use Rattle.listing_whole.specs.declared.refusal.ListRefusal.{ListRefusal}
use Rattle.listing.specs.Listing.{fitting, text_of, part_of}
use Rattle.listing.specs.declared.place.Place.{Place}
use Rattle.listing.specs.declared.Part.{Part}

-- ---- `list`: as many whole lines as fit, from a place on
pub record Lists (f : File) (len : ℕ) (place : Place) (out : List ℕ) (r : Result Part ListRefusal)
    (out' : List ℕ) : Type 0 where
  pub answer : told r ≡ part_of f len (fitting f len place (length out))
  pub after : out' ≡ written (fitting f len place (length out)) (text_of f len) out

-- ---- `list_refusal`: the whole line, or nothing
pub record Refuses (why : paper.Refusal) (out : List ℕ) (r : ℕ) (out' : List ℕ) : Type 0 where
  pub answer : r ≡ cond (leb (length (refusal_text why)) (length out)) (length (refusal_text why)) 0
  pub after : out' ≡ cond (leb (length (refusal_text why)) (length out)) (sets out 0 (refusal_text why)) out
