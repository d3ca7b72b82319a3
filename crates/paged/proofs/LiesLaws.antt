-- What lies in the file: if the first bytes of some pages do (`lies_in_file`), so does each run of them within one page.
use mathlib.Core.Path.{◌≡◌}
use Prim.Native.Nat.{ℕ, ◌+◌, ◌*◌, ◌/◌, ◌%◌, ◌≤◌, ◌<◌}
use native.Mathlib.Omega.{arith}
use native.Mathlib.Nat.{mod-lt, div-add-mod'}
use borrow.Author.Tests.{leb-true}
use Rattle.std.specs.Prelude.{Ok}
use Rattle.outcome.proofs.EachLaws.{each_passed}
use Rattle.paged.specs.Pages.{through}
use Rattle.paged.specs.PageSize.{PageSize, need}
use Rattle.paged.specs.Checks.{wanted, lies_in_file}
use Rattle.paged.proofs.SizeLaws.{need_index, word_in_page}

module _ (len p : ℕ) (page : ℕ → ℕ) (bytes : ℕ) (h : 0 < p) (e : lies_in_file len p page bytes (need p bytes) ≡ Ok tt) where
  lies_run : (i w : ℕ) → i < bytes → i % p + w ≤ p → i + w ≤ bytes → through p page i + w ≤ len
  lies_run i w l m n =
      let fits : page (i / p) * p + wanted p bytes (i / p) ≤ len = leb-true _ _ (each_passed _ _ (need p bytes) e (i / p) (need_index p bytes h i l)) in
      let whole = div-add-mod' i p in
      omega arith

  pub lies_byte : (i : ℕ) → i < bytes → through p page i < len
  lies_byte i l = let r = lies_run i 1 l (omega (arith, mod-lt i h)) (omega arith) in omega arith

  -- a word that is all among these bytes
  pub lies_word : PageSize p → (j : ℕ) → 4 * j + 4 ≤ bytes → through p page (4 * j) + 4 ≤ len
  lies_word s j l = lies_run (4 * j) 4 (omega arith) (word_in_page p j s) l
