-- Entries that lie in the file: those of the header block; the words of a location list or of a directory that lies in it.
use mathlib.Core.Path.{◌≡◌}
use Prim.Native.Nat.{ℕ, ◌+◌, ◌*◌, ◌≤◌}
use native.Mathlib.Omega.{arith}
use Rattle.std.specs.Prelude.{Ok}
use Rattle.parse_buffer.specs.Bytes.{File}
use Rattle.paged.specs.PageSize.{PageSize, need}
use Rattle.paged.specs.Pages.{first_entry, location, directory_page}
use Rattle.paged.specs.Checks.{lies_in_file}
use Rattle.paged.proofs.LiesLaws.{lies_word}
use Rattle.paged.specs.declared.pages.Pages.{Pages}
use Rattle.paged.specs.declared.pages.Pages.TheVariants.{Location, Directory, Stream}
use Rattle.runs.specs.Inner.{entry_place, Lying}

module _ (f : File) (len p : ℕ) where
  pub location_lies : {n : ℕ} → first_entry + 4 * n ≤ len → Lying f len p Location n
  unfolding entry_place
  location_lies h = record { lies = λ j l. omega arith }

  module _ (s : PageSize p) where
    pub list_lies_lem : {d : ℕ} → lies_in_file len p (location f) (4 * d) (need p (4 * d)) ≡ Ok tt → Lying f len p Directory d
    unfolding entry_place
    list_lies_lem {d} e =
        let least = s.least in
        record { lies = λ j l. lies_word len p (location f) (4 * d) (omega arith) e s j (omega arith) }

    pub directory_lies : {d first n : ℕ} → lies_in_file len p (directory_page f p) d (need p d) ≡ Ok tt → 4 * (first + n) ≤ d → Lying f len p (Stream first) n
    unfolding entry_place
    directory_lies {d} {first} e h =
        let least = s.least in
        record { lies = λ j l. lies_word len p (directory_page f p) d (omega arith) e s (first + j) (omega arith) }

pub fewer_lie : {f : File} {len p m n : ℕ} {pages : Pages} → Lying f len p pages n → m ≤ n → Lying f len p pages m
fewer_lie lying l = record { lies = λ j h. lying.lies j (omega arith) }
