-- A law on what crosses.
use mathlib.Core.Path.{◌≡◌, sym, ◌∙◌}

-- two things that equal a third are equal
pub same : {A : Type 0} {x y z : A} → x ≡ z → y ≡ z → x ≡ y
same e g = e ∙ sym g
