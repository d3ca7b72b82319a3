-- Stretches: page numbers that go up by one, and the run that is left after them.
use mathlib.Core.Path.{◌≡◌, refl, sym, ◌∙◌}
use Prim.Native.Nat.{ℕ, ◌+◌, ◌-◌, ◌*◌, ◌^◌, ◌≤◌, ◌<◌}
use native.Mathlib.Omega.{arith}
use native.Mathlib.Nat.{add_assoc}
use Rattle.parse_buffer.specs.Bytes.{File, word}
use Rattle.paged.specs.Pages.{entry_of}
use Rattle.paged.specs.declared.pages.Pages.{Pages}
use Rattle.runs.specs.Inner.{Running, Rising, before_first, Standing, Stretching}
use Rattle.runs.proofs.RunLaws.{index_most, run_page}
use Rattle.runs.specs.declared.Run.{Run}
use Rattle.runs.specs.declared.stretch.Stretch.{Stretch}

-- ---- `rising`: the first m words at a place go up by one
pub record Risen (f : File) (at m first : ℕ) : Type 0 where
  pub is : first ≡ word f at
  pub up : (j : ℕ) → j < m → word f (at + 4 * j) ≡ first + j
  pub small : first + m ≤ 2 ^ 32

-- ---- `next_stretch`
-- before the first entry nothing is left of a run
pub standing_none : (f : File) (p : ℕ) (pages : Pages) (n : ℕ) {s : Stretch} → s ≡ before_first → Standing f p pages n s
standing_none f p pages n e =
    rw e
    (record {
      within = omega arith;
      rest = record { places = λ j l. absurd (omega arith); few = omega arith };
    })

-- the rest of a run, after m of its entries
rest_runs : (n : ℕ) {f : File} {p i m at words : ℕ} {pages : Pages} {r : Run} → Running f p pages i (n - i) r → m ≤ r.words → at ≡ r.at + 4 * m → words ≡ r.words - m → Running f p pages (i + m) (n - (i + m)) (record { at = at; words = words })
rest_runs n {f} {p} {i} {m = m} {pages = pages} {r} run l a w =
    record {
      places = λ j h. rw a (let four : r.at + 4 * m + 4 * j ≡ r.at + 4 * (m + j) = omega arith in four ∙ run.places (m + j) (omega arith) ∙ rw add_assoc);
      few = let few = run.few in omega arith;
    }

pub stretching : (n : ℕ) {f : File} {p i m page at words : ℕ} {pages : Pages} {r : Run} → Running f p pages i (n - i) r → i < n → page ≡ word f r.at → Rising f r.at r.words m → at ≡ r.at + 4 * m → words ≡ r.words - m → Stretching f p pages n i (record { page = record { 0 = page }; pages = m; next = i + m; rest = record { at = at; words = words } })
stretching n run l is rising a w =
    let few = rising.few in
    let most = run.few in
    record {
      some = rising.some;
      next = refl;
      up = λ j h. sym (run_page run j (omega arith)) ∙ rising.up j h ∙ rw is;
      small = rw is rising.small;
      stands = record { within = omega arith; rest = rest_runs n run rising.few a w };
    }

-- ---- the entries of a stretch, of a list of 32 bits
pub stretch_small : {f : File} {p n i : ℕ} {pages : Pages} {r : Stretch} → Stretching f p pages n i r → entry_of pages n ≤ 2 ^ 32 → i + r.pages ≤ 2 ^ 32
stretch_small {pages = pages} stretch l =
    let next = stretch.next in
    let within = stretch.stands.within in
    let most = index_most pages l in
    omega arith

-- and fewer are left after it
pub stretch_less : {f : File} {p n i : ℕ} {pages : Pages} {r : Stretch} → Stretching f p pages n i r → i < n → n - r.next < n - i
stretch_less stretch l = let some = stretch.some in let next = stretch.next in let within = stretch.stands.within in omega arith
