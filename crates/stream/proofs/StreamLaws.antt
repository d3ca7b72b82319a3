-- The pages of streams, and what is known of a stream that is present.
use mathlib.Core.Path.{◌≡◌, refl, sym, ◌∙◌, ap}
use Prim.Native.Nat.{ℕ, zero, suc, ◌+◌, ◌-◌, ◌*◌, ◌^◌, ◌≤◌, ◌<◌}
use native.Mathlib.Omega.{arith}
use native.Mathlib.Nat.{mul-le-mul_left, le_antisymm, add-zero, add-suc, add_assoc}
use native.Mathlib.Numerals.{add-one}
use lib.Dec.{eqb}
use mir.Syntax.{w64}
use mir.Val.{Fits}
use Rattle.std.specs.Prelude.{Ok}
use Rattle.outcome.proofs.OutcomeLaws.{by_test, came, came_by, ok_is}
use Rattle.parse_buffer.specs.Bytes.{File, word}
use Rattle.paged.specs.PageSize.{PageSize, need}
use Rattle.paged.specs.Pages.{directory_word}
use Rattle.paged.proofs.SizeLaws.{need_least}
use Rattle.paged.specs.declared.pages.Pages.TheVariants.{Stream}
use Rattle.runs.specs.Inner.{Running}
use Rattle.runs.proofs.RunLaws.{run_page}
use Rattle.runs.specs.declared.Run.{Run}
use Rattle.directory.specs.Directory.{reached}
use Rattle.stream.specs.Stream.{absent, pages_of, pages_before, present}
use Rattle.stream.specs.Inner.{Before, pages_in, Within}
use Rattle.stream.specs.declared.Present.{Present}

-- ---- `pages_of`: a stream of 32 bits has at most 2^24
pages_few : (p size : ℕ) → PageSize p → size < 2 ^ 32 → pages_of p size ≤ 2 ^ 24
unfolding pages_of
pages_few p size s h =
    let l = s.least in
    let wide : 2 ^ 24 * 0x100 ≤ 2 ^ 24 * p = mul-le-mul_left (2 ^ 24) s.least in
    let few : need p size ≤ 2 ^ 24 = need_least p size (omega arith) (2 ^ 24) (omega arith) in
    by_test (λ (n : ℕ). n ≤ 2 ^ 24) (eqb size absent) (λ _. omega arith) (λ _. few)

-- ---- `pages_in`
module _ (f : File) (p at : ℕ) where
  pub within_none : Within f p at 0 0
  unfolding pages_in
  within_none = record { is = refl; small = omega arith }

  module _ {j b : ℕ} (so_far : Within f p at j b) {size n : ℕ} (is : size ≡ word f (at + 4 * j)) (pages : n ≡ pages_of p size) (s : PageSize p) (fits : size < 2 ^ 32) where
    few : n ≤ 2 ^ 24
    few = rw pages (pages_few p size s fits)

    pub within_fits : j < 2 ^ 32 → Fits w64 (b + n)
    within_fits h = record { fits = omega (arith, few, so_far.small) }

    pub within_more : Within f p at (j + 1) (b + n)
    unfolding pages_in
    within_more =
        record {
          is = rw (add-one, so_far.is, pages, is);
          small = omega (arith, few, so_far.small);
        }

  pub within_all : {j n b : ℕ} → Within f p at j b → j ≤ n → n ≤ j → Within f p at n b
  within_all so_far l m = rw (le_antisymm m l) so_far

pub ruleset within_cases = (within_none, within_fits, within_more, within_all)

-- ---- `pages_before`: the sizes of a run are those of the streams from stream i on
run_pages : {f : File} {p i n : ℕ} {r : Run} → Running f p (Stream 1) i n r → (m : ℕ) → m ≤ r.words → pages_before f p (i + m) ≡ pages_before f p i + pages_in f p r.at m
unfolding pages_before pages_in
run_pages {f} {p} {i} run zero l = rw add-zero (sym (add-zero _))
run_pages {f} {p} {i} run (suc m) l =
    rw (add-suc, run_pages run m (omega arith), run_page run m (omega arith)) (add_assoc _ _ _)

module _ (f : File) (p : ℕ) where
  pub before_none : Before f p 0 0
  unfolding pages_before
  before_none = record { is = refl; small = omega arith }

  module _ (k : ℕ) {i b n : ℕ} {r : Run} (before : Before f p i b) (run : Running f p (Stream 1) i (k - i) r) (within : Within f p r.at r.words n) where
    pub before_fits : i < k → k < 2 ^ 32 → Fits w64 (b + n)
    before_fits l h = record { fits = omega (arith, run.few, within.small, before.small) }

    pub before_more : Before f p (i + r.words) (b + n)
    before_more =
        record {
          is = rw (before.is, within.is) (sym (run_pages run r.words (omega arith)));
          small = omega (arith, within.small, before.small);
        }

  -- one stream more
  pub before_one : {i b size n : ℕ} → Before f p i b → size ≡ directory_word f p (1 + i) → n ≡ pages_of p size → PageSize p → size < 2 ^ 32 → Before f p (i + 1) (b + n)
  unfolding pages_before
  before_one {size = size} before is pages s fits =
      let few = pages_few p size s fits in
      record { is = rw (add-one, before.is, pages, is); small = omega (arith, before.small, pages) }

  pub before_all : {i k b : ℕ} → Before f p i b → i ≤ k → k ≤ i → Before f p k b
  before_all before l m = rw (le_antisymm m l) before

pub ruleset before_cases = (before_none, before_fits, before_more, before_all)

-- ---- the header of a stream's size is the one reached
pub present_reached : (f : File) (len k : ℕ) {x : Present} → present f len k ≡ Ok x → reached f len ≡ Ok x.header
unfolding present
present_reached f len k e =
    came_by _ _ e λ h d e₁.
    came _ _ e₁ λ _ _ e₂.
    came _ _ e₂ λ _ _ e₃.
    came _ _ e₃ λ _ _ e₄.
    came _ _ e₄ λ _ _ e₅.
    d ∙ ap (λ (y : Present). Ok y.header) (ok_is e₅)
