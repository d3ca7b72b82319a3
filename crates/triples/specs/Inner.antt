-- What inner functions promise their callers: an annotation's two numbers, each by the kind of operand.
use Rattle.std.specs.Prelude.{cond, ℕ, ◌/◌, ◌%◌, eqb, ℤ, pos}
use Rattle.annotations.specs.Signed.{signed_of}

abbrev pub first_of : ℕ → ℕ → ℤ
first_of op v =
    cond (eqb op 6) (signed_of v) (cond (eqb op 10) (signed_of v) (cond (eqb op 11) (pos (v % 16)) (pos v)))

abbrev pub second_of : ℕ → ℕ → ℕ → ℤ
second_of op v w = cond (eqb op 11) (signed_of (v / 16)) (cond (eqb op 12) (pos w) (pos 0))
