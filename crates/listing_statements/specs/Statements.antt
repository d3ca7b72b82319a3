-- What holds of the listing beyond its promises. proofs/ has a proof of each record.
use Rattle.std.specs.Prelude.{◌≡◌, ℕ, ◌+◌, ◌-◌, ◌*◌, ◌≤◌, ◌<◌, length, take, get_or, Result, Ok, Err}
use mathlib.Core.List.{List, [], ◌∷◌, ◌++◌, flatten}
use Rattle.outcome.specs.Refusal as paper
use Rattle.outcome.specs.Only.{Only, Only₂, Injective}
use Rattle.parse_buffer.specs.Bytes.{File}
use Rattle.listing_text.specs.Text.{decimal, refusal_text}
use Rattle.listing_whole.specs.Whole.{told, listable, list_refusal_in}
use Rattle.listing_whole.specs.Inner.{Judges}
use Rattle.listing_whole.specs.declared.refusal.ListRefusal.{ListRefusal}
use Rattle.listing_whole.specs.declared.Listable.{Listable}
use Rattle.listing_line.specs.Line.{line_at}
use Rattle.listing.specs.Listing.{lines_from, listing, line_of}
use Rattle.listing.specs.Promises.{Lists, Refuses}
use Rattle.listing.specs.declared.place.Place.{Place}
use Rattle.listing.specs.declared.place.Place.TheVariants.{Head, End}
use Rattle.listing.specs.declared.Part.{Part}

-- what an answer says on paper tells it from every other answer
pub record Told : Type 0 where
  pub refusal : Injective list_refusal_in
  pub listed : Injective (told {A = Part})
  pub judged : Injective (told {A = Listable})

-- no second answer, and no other buffer, satisfies a promise
pub record SingleValued : Type 0 where
  pub list : (f : File) (len : ℕ) (place : Place) (out : List ℕ) → Only₂ (Lists f len place out)
  pub list_refusal : (why : paper.Refusal) (out : List ℕ) → Only₂ (Refuses why out)
  -- the stage that judges a file
  pub judge : (f : File) (len : ℕ) → Only (Judges f len)

-- a number in decimal: what its digits say, each is a digit, and none is 0 in front of another
unfoldable pub value_from : ℕ → List ℕ → ℕ
value_from before [] = before
value_from before (c ∷ rest) = value_from (before * 10 + (c - 48)) rest

pub record Decimal : Type 0 where
  pub value : (n : ℕ) → value_from 0 (decimal n) ≡ n
  pub digits : (n i : ℕ) → i < length (decimal n) → (48 ≤ get_or (decimal n) i 0) × (get_or (decimal n) i 0 ≤ 57)
  pub front : (n : ℕ) → 0 < n → 48 < get_or (decimal n) 0 0

-- ---- the parts
-- `list` called again and again, each time from where the call before ended and into a buffer of at least `room` bytes:
-- the part that each call put into its buffer, and where the listing goes on after the last
pub data Called (f : File) (len room : ℕ) : Place → List (List ℕ) → Place → Type 0 where
  none : {place : Place} → Called f len room place [] place
  more : {place last : Place} {out out' : List ℕ} {p : Part} {rest : List (List ℕ)} → room ≤ length out →
      Lists f len place out (Ok p) out' → Called f len room p.next rest last →
      Called f len room place (take p.bytes out' ∷ rest) last

-- the lines from a place to the end
abbrev pub rest_from : File → ℕ → ℕ → Place → List ℕ
rest_from f len n place = lines_from (line_at f len n) (line_of n place) (1 + n - line_of n place)

-- of a file of n streams
pub record Parts (f : File) (len n : ℕ) : Type 0 where
  -- after any calls, the parts so far joined with the lines that are left are the listing; at the end none is left
  pub joins : (room : ℕ) {parts : List (List ℕ)} {last : Place} → Called f len room Head parts last →
      listing f len ≡ flatten parts ++ rest_from f len n last
  pub none : rest_from f len n End ≡ []
  -- a line that fits is in its part
  pub onward : (place : Place) (out : List ℕ) (p : Part) (out' : List ℕ) → Lists f len place out (Ok p) out' →
      line_of n place ≤ n → length (line_at f len n (line_of n place)) ≤ length out → line_of n place < line_of n p.next
  -- so with room for every line the listing ends after at most 1 + n calls
  pub ends : (room : ℕ) → ((i : ℕ) → i ≤ n → length (line_at f len n i) ≤ room) →
      {parts : List (List ℕ)} {last : Place} → Called f len room Head parts last → 1 + n ≤ length parts → last ≡ End
  -- and 80 bytes are room for every line; a byte of the file is below 256
  pub eighty : ((i : ℕ) → f i < 256) → (i : ℕ) → i ≤ n → length (line_at f len n i) ≤ 80

-- of a file that is refused whole: the listing is that one line. Every call of `list` answers the refusal, and
-- `list_refusal` puts the line
pub record NoParts (f : File) (len : ℕ) (why : paper.Refusal) : Type 0 where
  pub one_line : listing f len ≡ refusal_text why
  pub answer : (place : Place) (out : List ℕ) (r : Result Part ListRefusal) (out' : List ℕ) → Lists f len place out r out' →
      told r ≡ Err why
  pub line : (out : List ℕ) (r : ℕ) (out' : List ℕ) → length (listing f len) ≤ length out → Refuses why out r out' →
      take r out' ≡ listing f len

pub record InParts (f : File) (len : ℕ) : Type 0 where
  pub parts : (n : ℕ) → listable f len ≡ Ok n → Parts f len n
  pub refusal : (why : paper.Refusal) → listable f len ≡ Err why → NoParts f len why
