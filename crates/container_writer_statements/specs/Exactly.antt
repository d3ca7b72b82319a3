-- Request 2026-05, "Refuse: 3; 22 if present sizes don't sum to the input's length; 23 if one location page can't hold
-- the directory's page numbers; 24 if directory_size or pages_used passes 32 bits; 10; in that order": each exactly
-- under its condition.
use Rattle.std.specs.Prelude.{◌≡◌, ◌↔◌, false, List, ℕ, ◌*◌, ◌≤◌, ◌<◌, length, Ok, Err}
use Rattle.paged.specs.PageSize.{size_is_fit, PageSize}
use Rattle.container_layout.specs.Layout.{bytes_up_to, directory_size, directory_pages, pages_used, file_length}
use Rattle.container_writer.specs.Writing.{writing}

-- the page size passes, and the present sizes sum to the input's length
pub record Sums (p : ℕ) (sizes : List ℕ) (given : ℕ) : Type 0 where
  pub size : PageSize p
  pub sum : bytes_up_to sizes (length sizes) ≡ given

-- and one location page holds the directory's page numbers
pub record Lists (p : ℕ) (sizes : List ℕ) (given : ℕ) : Type 0 where
  pub sums : Sums p sizes given
  pub list : 4 * directory_pages p sizes ≤ p

-- and directory_size has 32 bits
pub record Fits (p : ℕ) (sizes : List ℕ) (given : ℕ) : Type 0 where
  pub lists : Lists p sizes given
  pub words : directory_size p sizes ≤ 0xffffffff

-- with so much room, the answer is this refusal
abbrev pub Refused : ℕ → List ℕ → ℕ → ℕ → ℕ → ℕ → Type 0
Refused p sizes given room number value =
    writing p sizes given room ≡ Err (record { number = number; value = value })

pub record RefusedExactly : Type 0 where
  pub size : (p : ℕ) (sizes : List ℕ) (given room : ℕ) → Refused p sizes given room 3 p ↔ (size_is_fit p ≡ false)
  pub sum : (p : ℕ) (sizes : List ℕ) (given room : ℕ) →
      Refused p sizes given room 22 0 ↔ (PageSize p × (bytes_up_to sizes (length sizes) ≡ given → ⊥))
  pub list : (p : ℕ) (sizes : List ℕ) (given room : ℕ) →
      Refused p sizes given room 23 0 ↔ (Sums p sizes given × (p < 4 * directory_pages p sizes))
  pub over : (p : ℕ) (sizes : List ℕ) (given room : ℕ) →
      Refused p sizes given room 24 0 ↔ (Lists p sizes given × (0xffffffff < directory_size p sizes))
  pub no_room : (p : ℕ) (sizes : List ℕ) (given room n : ℕ) →
      Refused p sizes given room 10 n ↔ (Fits p sizes given × ((n ≡ file_length p sizes) × (room < n)))
  pub accepted : (p : ℕ) (sizes : List ℕ) (given room n : ℕ) →
      (writing p sizes given room ≡ Ok n) ↔ (Fits p sizes given × ((n ≡ file_length p sizes) × (n ≤ room)))
  -- pages_used passes 32 bits only where directory_size does
  pub used : (p : ℕ) (sizes : List ℕ) → PageSize p → directory_size p sizes ≤ 0xffffffff →
      pages_used p sizes ≤ 0xffffffff
