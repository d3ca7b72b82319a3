-- Document 01, "A number": `CVUncompressData` over the bytes from a place on, with the lengths checked. Request
-- 2026-06, "how many bytes it took and whether that was the shortest form".
use Rattle.std.specs.Prelude.{ℕ, ◌+◌, ◌*◌, ◌%◌, ◌^◌, List, Bool, cond, length, get_or, eqb, ltb, leb, Result, Ok, Err}
use Rattle.numbers.specs.Refusal.{Stop, stop}
use Rattle.numbers.specs.declared.refusal.Refusal.TheVariants.{ShortData, InvalidCompressedAnnotation}
use Rattle.numbers.specs.declared.number.Number.{Number}

-- the shortest form: one byte below 0x80, two below 0x4000, else four
unfoldable pub short_width : ℕ → ℕ
short_width value = cond (ltb value 0x80) 1 (cond (ltb value 0x4000) 2 4)

abbrev pub is_shortest : ℕ → ℕ → Bool
is_shortest value taken = eqb taken (short_width value)

-- where it stands in a store or crosses to Rust, it is 1 or 0
abbrev pub flag : Bool → ℕ
flag shortest = cond shortest 1 0

-- the number of a value that takes so many bytes from a place on
abbrev pub number_of : ℕ → ℕ → ℕ → Number
number_of at taken value =
    record { value = value; next = at + taken; taken = taken; shortest = is_shortest value taken }

-- a form that takes n bytes, if they are there; else 7, and the place is the end
abbrev pub taking : List ℕ → ℕ → ℕ → Result Number Stop → Result Number Stop
taking s at n form = cond (leb (at + n) (length s)) form (Err (stop ShortData (length s)))

-- "A number: first byte below 0x80, itself. Below 0xc0: two bytes. Else four bytes are read; below 0xe0 …; otherwise 8"
unfoldable pub number_at : List ℕ → ℕ → Result Number Stop
number_at s at =
    let b1 = get_or s at 0 in
    let b2 = get_or s (at + 1) 0 in
    let b3 = get_or s (at + 2) 0 in
    let b4 = get_or s (at + 3) 0 in
    taking s at 1
    (cond (ltb b1 0x80) (Ok (number_of at 1 b1))
    (cond (ltb b1 0xc0) (taking s at 2 (Ok (number_of at 2 (b1 % 64 * 256 + b2))))
    (taking s at 4
    (cond (ltb b1 0xe0) (Ok (number_of at 4 (b1 % 32 * 2 ^ 24 + b2 * 2 ^ 16 + b3 * 2 ^ 8 + b4)))
    (Err (stop InvalidCompressedAnnotation (at + 4)))))))
