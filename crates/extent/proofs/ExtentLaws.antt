-- The limit, the ways out of step 8 and of the check that the bytes lie in the file; what an accepted extent is known to be.
use mathlib.Core.Path.{◌≡◌, refl, sym, ◌∙◌, ap}
use Prim.Native.Nat.{ℕ, ◌^◌, ◌≤◌, ◌<◌}
use native.Mathlib.Omega.{arith}
use Rattle.std.specs.Prelude.{Option, Some, None, Result, Ok, Err, IsErrAnd}
use Rattle.outcome.specs.Outcome.{and_next, and_then, ◌>>=◌, raise}
use Rattle.outcome.specs.Refusal as paper
use Rattle.outcome.proofs.OutcomeLaws.{came, came_by, ok_is, ok_refused, refused_is}
use Rattle.parse_buffer.specs.Bytes.{File}
use Rattle.paged.specs.PageSize.{PageSize, need}
use Rattle.paged.specs.Pages.{entry_of}
use Rattle.paged.specs.Checks.{lies_in_file}
use Rattle.runs.proofs.LyingLaws.{fewer_lie}
use Rattle.paged.proofs.SizeLaws.{need_rises}
use Rattle.paged.specs.declared.refusal.Refusal.{Refusal}
use Rattle.paged.specs.declared.pages.Pages.TheVariants.{Stream}
use Rattle.directory.proofs.DirectoryLaws.{reached_at}
use Rattle.stream.specs.Stream.{own_pages, found}
use Rattle.stream.specs.Inner.{Finding}
use Rattle.stream.proofs.FindLaws.{found_at, found_lies}
use Rattle.stream.specs.declared.Found.{Found}
use Rattle.extent.specs.Extent.{length_of, Asked, asked_of, asked, readable, extent_of, page_in}
use Rattle.extent.specs.Inner.{Extends, EntriesLie, Held, extents, Measuring, Reading}
use Rattle.paged.specs.Refusal.{told}
use Rattle.extent.specs.declared.Extent.{Extent}

-- ---- what a `?` hands up is the refusal that it met
pub handed_up : {A E : Type 0} {r : Result A E} {why : E} → IsErrAnd r (λ e. e ≡ why) → r ≡ Err why
handed_up {r = Ok a} e = absurd e
handed_up {r = Err w} e = ap Err e

-- ---- the limit
pub length_most : (l : Option ℕ) (size : ℕ) → length_of l size ≤ size
length_most None size = omega arith
length_most (Some n) size = omega arith

-- ---- `first_bytes`
module _ (limit : Option ℕ) (x : Found) (h : Held x) {l : ℕ} (is : l ≡ length_of limit x.size) where
  most : l ≤ x.size
  most = rw is (length_most limit x.size)

  pub length_small : x.size < 2 ^ 32 → l < 2 ^ 40
  length_small s = let m = most in omega arith

  module _ {n : ℕ} (pages_are : n ≡ need x.header.pagesize l) where
    -- the pages of what is asked for are among the stream's own
    few : n ≤ own_pages x
    few = let s = h.size.least in rw pages_are (need_rises x.header.pagesize (omega arith) most)

    abbrev here : Extent
    here = record { pagesize = x.header.pagesize; list = Stream x.first; bytes = l; pages = n }

    pub first_is : here ≡ extent_of (asked_of limit x)
    first_is = rw (pages_are, is)

    pub first_extends : Extends here
    first_extends =
        let m = few in
        record { size = h.size; whole = pages_are; small = omega (arith, h.small); few = omega (arith, h.small) }

-- the entries of what is asked for are among the stream's own, and lie in the file as those do
pub first_lie : (f : File) (len k : ℕ) (limit : Option ℕ) {x : Found} → found f len k ≡ Ok x → EntriesLie f len (extent_of (asked_of limit x))
first_lie f len k limit {x} e =
    let s = (reached_at f len (found_at f len k e).reached).size.least in
    fewer_lie (found_lies f len k e) (need_rises x.header.pagesize (omega arith) (length_most limit x.size))

pub ruleset first_cases = (length_small, first_is)

-- ---- `measure`, by what `find` answered
module _ {f : File} {len k : ℕ} where
  pub measure_refused : {why : Refusal} (limit : Option ℕ) → Finding f len k (Err why) → Measuring f len k limit (Err why)
  unfolding asked extents raise and_then
  measure_refused limit p = record { answer = rw (← p.answer); sound = record { extends = tt; lie = tt } }

  module _ {x : Found} (p : Finding f len k (Ok x)) where
    is_found : found f len k ≡ Ok x
    unfolding raise
    is_found = sym p.answer

    pub measure_held : x.header.directory < 2 ^ 32 → Held x
    measure_held d =
        let at = found_at f len k is_found in
        let i = at.inside in
        record { size = (reached_at f len at.reached).size; small = omega arith }

    pub measure_fine : (limit : Option ℕ) {y : Extent} → y ≡ extent_of (asked_of limit x) → Extends y → Measuring f len k limit (Ok y)
    unfolding asked extents raise and_then
    measure_fine limit is s =
        record {
          answer = rw (is_found, is);
          sound = record { extends = s; lie = rw is (first_lie f len k limit is_found) };
        }

-- ---- what was accepted, once the answer is its extent
pub record IsOf {A : Type 0} (extent : A → Extent) (o : Result A paper.Refusal) (x : Extent) : Type 0 where
  pub asked : A
  pub is : o ≡ Ok asked
  pub by : extent asked ≡ x

pub is_of : {A : Type 0} (extent : A → Extent) (o : Result A paper.Refusal) (x : Extent) → told (Ok x) ≡ (o >>= λ a. Ok (extent a)) → IsOf extent o x
unfolding raise
is_of extent o x e = came_by _ _ (sym e) λ y g h. record { asked = y; is = g; by = ok_is h }

pub is_refused : {A : Type 0} (extent : A → Extent) (o : Result A paper.Refusal) (why : Refusal) → told {A = Extent} (Err why) ≡ (o >>= λ a. Ok (extent a)) → told {A = A} (Err why) ≡ o
unfolding and_then raise
is_refused extent (Ok y) why e = absurd (ok_refused (sym e))
is_refused extent (Err w) why e = let same : w ≡ _ = refused_is (sym e) in rw same

-- ---- `readable`, by what `measure` answered and whether the bytes lie in the file
module _ {f : File} {len k : ℕ} {limit : Option ℕ} where
  pub reading_refused : {why : Refusal} → Measuring f len k limit (Err why) → Reading f len k limit (Err why)
  unfolding readable extents raise and_then
  reading_refused p =
      record { answer = rw (← is_refused extent_of (asked f len k limit) _ p.answer); sound = p.sound }

  module _ {x : Extent} (p : Measuring f len k limit (Ok x)) where
    pub measured_is : IsOf extent_of (asked f len k limit) x
    unfolding extents
    measured_is = is_of extent_of (asked f len k limit) x p.answer

    pub measured_size : PageSize x.pagesize
    measured_size = p.sound.extends.size

    pub measured_small : entry_of x.list x.pages ≤ 2 ^ 32
    measured_small = p.sound.extends.small

    pub measured_whole : x.pages ≡ need x.pagesize x.bytes
    measured_whole = p.sound.extends.whole

    module _ (c : Result (Unit {0}) Refusal) (g : told c ≡ lies_in_file len x.pagesize (page_in f x) x.bytes x.pages) where
      lies_as : lies_in_file len (extent_of measured_is.asked).pagesize (page_in f (extent_of measured_is.asked)) measured_is.asked.length (extent_of measured_is.asked).pages ≡ told c
      lies_as =
          ap (λ (y : Extent). lies_in_file len y.pagesize (page_in f y) y.bytes y.pages) measured_is.by ∙ sym g

    pub reading_ends : (why : Refusal) → told {A = Unit {0}} (Err why) ≡ lies_in_file len x.pagesize (page_in f x) x.bytes x.pages → Reading f len k limit (Err why)
    unfolding readable extents raise and_then and_next
    reading_ends why g = record { answer = rw (measured_is.is, lies_as (Err why) g); sound = record { extends = tt; lie = tt } }

    pub reading_fine : (u : Unit {0}) → told (Ok u) ≡ lies_in_file len x.pagesize (page_in f x) x.bytes x.pages → Reading f len k limit (Ok x)
    unfolding readable extents raise and_then and_next
    reading_fine u g = record { answer = rw (measured_is.is, lies_as (Ok u) g, measured_is.by); sound = p.sound }

pub ruleset reading_cases = (reading_refused, reading_ends, reading_fine)

-- ---- what is readable was asked for, and lies in the file
pub record ReadableAt (f : File) (len k : ℕ) (limit : Option ℕ) (x : Asked) : Type 0 where
  pub asked : asked f len k limit ≡ Ok x
  pub lies : lies_in_file len (extent_of x).pagesize (page_in f (extent_of x)) x.length (extent_of x).pages ≡ Ok tt

pub readable_at : (f : File) (len k : ℕ) (limit : Option ℕ) {x : Asked} → readable f len k limit ≡ Ok x → ReadableAt f len k limit x
unfolding readable
readable_at f len k limit e =
    came_by _ _ e λ y a e₁.
    came _ _ e₁ λ _ l e₂.
    record { asked = a ∙ e₂; lies = rw (← ok_is e₂) l }

-- what was asked for is of a stream that was found
pub record AskedAt (f : File) (len k : ℕ) (limit : Option ℕ) (x : Asked) : Type 0 where
  pub found : found f len k ≡ Ok x.found
  pub length : x.length ≡ length_of limit x.found.size

pub asked_at : (f : File) (len k : ℕ) (limit : Option ℕ) {x : Asked} → asked f len k limit ≡ Ok x → AskedAt f len k limit x
unfolding asked
asked_at f len k limit e =
    came_by _ _ e λ y a e₁.
    rw (← ok_is e₁) (record { found = a; length = refl })
