-- A loop over the stretches of an extent's pages: the walk is over the pages that were read.
use mathlib.Core.Path.{◌≡◌, ◌∙◌, ap}
use mathlib.Core.List.{List}
use Prim.Native.Nat.{ℕ, ◌-◌, ◌≤◌, ◌<◌}
use native.Mathlib.Omega.{arith}
use lib.ListN.{length}
use Rattle.std.specs.Prelude.{Some, None}
use Rattle.std.specs.Borrow.{Bor}
use Rattle.parse_buffer.specs.Bytes.{byte_at}
use Rattle.runs.specs.Inner.{before_first}
use Rattle.runs.specs.declared.stretch.Stretch.{Stretch}
use Rattle.extent.specs.Inner.{Extends}
use Rattle.extent.specs.declared.Extent.{Extent}
use Rattle.slices.specs.Inner.{slices_through, StretchIn, start, onward, Near}
use Rattle.slices.specs.Stretches.{GivesStretch}
use Rattle.slices.specs.declared.Walk.{Walk}
use Rattle.slices.specs.declared.stretches.Stretches.{Stretches}
use Rattle.slices.proofs.WalkLaws.{Walked, walk_none, walk_near, walk_more, walk_all}

-- what is left of the pages of x, in this file
pub record StretchesOf (s : List ℕ) (x : Extent) (it : Stretches) : Type 0 where
  pub file : it.file.now ≡ s
  pub extent : it.extent ≡ x

pub of_start : (file : Bor (List ℕ)) (x : Extent) {it : Stretches} → it.file ≡ file → it.extent ≡ x → StretchesOf file.now x it
of_start file x f e = record { file = ap (λ (b : Bor (List ℕ)). b.now) f; extent = e }

module _ {s : List ℕ} {x : Extent} {it : Stretches} (of : StretchesOf s x it) where
  -- where one stretch more was given
  module _ {r : Stretch} {it' : Stretches} (gives : GivesStretch it (Some r) it') where
    pub of_stretch : StretchIn (byte_at s) x it.last.next r
    of_stretch = rw (← of.file, ← of.extent) gives.given.stretch

    pub of_index : r.next - r.pages ≡ it.last.next
    of_index = let next = gives.given.stretch.next in omega arith

    pub of_more : it.last.next < x.pages
    of_more = rw (← of.extent) gives.given.more

    pub of_next : StretchesOf s x it'
    of_next =
        record { file = ap (λ (b : Bor (List ℕ)). b.now) gives.file ∙ of.file; extent = gives.extent ∙ of.extent }

    pub of_onward : (w : Walk) {w' : Walk} → w' ≡ onward x (r.next - r.pages) r w → w' ≡ onward x it.last.next r w
    of_onward w e = e ∙ ap (λ (i : ℕ). onward x i r w) of_index

  -- where none was left
  module _ {it' : Stretches} (gives : GivesStretch it None it') where
    pub of_within : it.last.next ≤ x.pages
    of_within = rw (← of.extent) it.stands.within

    pub of_past : x.pages ≤ it.last.next
    of_past = rw (← of.extent) gives.ended

-- a walk over the pages that were read
pub record WalkedBy (s : List ℕ) (x : Extent) (it : Stretches) (w : Walk) : Type 0 where
  pub of : StretchesOf s x it
  pub walk : Walked (byte_at s) x it.last.next w

pub by_start : (file : Bor (List ℕ)) (x : Extent) {it : Stretches} {w : Walk} → it.file ≡ file → it.extent ≡ x → it.last ≡ before_first → w ≡ start → WalkedBy file.now x it w
by_start file x f e l is = record { of = of_start file x f e; walk = rw l (walk_none (byte_at file.now) x is) }

module _ {s : List ℕ} {x : Extent} {it : Stretches} {w : Walk} (by : WalkedBy s x it w) where
  module _ {r : Stretch} {it' : Stretches} (gives : GivesStretch it (Some r) it') where
    pub by_near : Near x.pagesize (r.next - r.pages) w
    by_near = rw (of_index by.of gives) (walk_near by.walk)

    pub by_more : {w' : Walk} → w' ≡ onward x (r.next - r.pages) r w → WalkedBy s x it' w'
    by_more e =
        record {
          of = of_next by.of gives;
          walk = rw gives.given.last (walk_more by.walk (of_stretch by.of gives) (of_onward by.of gives w e));
        }

  pub by_all : {it' : Stretches} → GivesStretch it None it' → Extends x → w.count ≡ length (slices_through (byte_at s) x)
  by_all gives extends = walk_all by.walk extends (of_within by.of gives) (of_past by.of gives)
