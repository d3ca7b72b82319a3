-- How a block of steps computes.
use mathlib.Core.Path.{◌≡◌, refl}
use mathlib.Core.Bool.{true, false}
use Rattle.std.specs.Prelude.{Result, Ok, Err}
use Rattle.outcome.specs.Outcome.{and_then, and_next, require, raise}

pub then_ok : {E A B : Type 0} (a : A) (k : A → Result B E) → and_then (Ok a) k ≡ k a
unfolding and_then
then_ok a k = refl

pub then_err : {E A B : Type 0} (w : E) (k : A → Result B E) → and_then (Err w) k ≡ Err w
unfolding and_then
then_err w k = refl

pub next_ok : {E A B : Type 0} (a : A) (n : Result B E) → and_next (Ok a) n ≡ n
unfolding and_next
next_ok a n = refl

pub next_err : {E B : Type 0} (A : Type 0) (w : E) (n : Result B E) → and_next {A = A} (Err w) n ≡ Err w
unfolding and_next
next_err A w n = refl

pub require_true : {E : Type 0} (w : E) → require true w ≡ Ok tt
unfolding require
require_true w = refl

pub require_false : {E : Type 0} (w : E) → require false w ≡ Err w
unfolding require
require_false w = refl

pub raise_ok : {E F A : Type 0} (up : E → F) (a : A) → raise up (Ok a) ≡ Ok a
unfolding raise
raise_ok up a = refl

pub raise_err : {E F : Type 0} (A : Type 0) (up : E → F) (w : E) → raise {A = A} up (Err w) ≡ Err (up w)
unfolding raise
raise_err A up w = refl

pub ruleset steps = (then_ok, then_err, next_ok, next_err, require_true, require_false, raise_ok, raise_err)
