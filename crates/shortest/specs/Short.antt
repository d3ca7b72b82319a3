-- Request 2026-01, "every number in its shortest form": the bytes of a number below 2^29, as document 01's "A number"
-- reads them back.
use Rattle.std.specs.Prelude.{ℕ, ◌+◌, ◌/◌, ◌%◌, ◌^◌, ◌<◌, true, cond, List, [], ◌∷◌, ltb, length, get_or}
use Rattle.numbers.specs.declared.number.Number.{Number}

-- numbers that are bytes. (A list without an entry has 0 there.)
abbrev pub Bytes : List ℕ → Type 0
Bytes s = (i : ℕ) → get_or s i 0 < 256

-- one byte below 0x80, two below 0x4000, else four
unfoldable pub short : ℕ → List ℕ
short n =
    cond (ltb n 0x80) (n ∷ [])
    (cond (ltb n 0x4000) ((0x80 + n / 2 ^ 8) ∷ (n % 256) ∷ [])
    ((0xc0 + n / 2 ^ 24) ∷ (n / 2 ^ 16 % 256) ∷ (n / 2 ^ 8 % 256) ∷ (n % 256) ∷ []))

-- the number that is read from this form at a place. Request 2026-06: it says so
abbrev pub short_number : ℕ → ℕ → Number
short_number at n =
    record { value = n; next = at + length (short n); taken = length (short n); shortest = true }
