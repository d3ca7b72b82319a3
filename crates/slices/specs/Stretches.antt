-- What the stretches of an extent's pages give.
use Rattle.std.specs.Prelude.{◌≡◌, ℕ, ◌-◌, ◌<◌, ◌≤◌, Option, IfSome, IfNone}
use Rattle.parse_buffer.specs.Bytes.{byte_at}
use Rattle.runs.specs.declared.stretch.Stretch.{Stretch}
use Rattle.slices.specs.Inner.{StretchIn}
use Rattle.slices.specs.declared.stretches.Stretches.{Stretches}

-- how many pages are still to be read
abbrev pub pages_left : Stretches → ℕ
pages_left s = s.extent.pages - s.last.next

-- the stretch that a call gave, if pages were left
pub record Next (s : Stretches) (r : Stretch) (t : Stretches) : Type 0 where
  pub stretch : StretchIn (byte_at s.file.now) s.extent s.last.next r
  pub more : s.last.next < s.extent.pages
  pub last : t.last ≡ r

-- a call gives the stretch that follows, until every page was read
pub record GivesStretch (s : Stretches) (r : Option Stretch) (t : Stretches) : Type 0 where
  pub file : t.file ≡ s.file
  pub extent : t.extent ≡ s.extent
  pub given : IfSome r (λ n. Next s n t)
  pub ended : IfNone r (s.extent.pages ≤ s.last.next)
