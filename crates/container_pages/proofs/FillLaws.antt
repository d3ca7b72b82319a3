-- Bytes filled in one after another, and by what is known to be the same. Zeros, one number, a copied run.
use mathlib.Core.Path.{◌≡◌, refl, ◌∙◌, ap}
use mathlib.Core.Logic.{⊎_elim}
use mathlib.Core.List.{List}
use Prim.Native.Nat.{ℕ, ◌+◌, ◌-◌, ◌≤◌, ◌<◌}
use native.Mathlib.Omega.{arith}
use lib.ListN.{length, get_or, set, length-set}
use lib.Seq.{get_or-set_same, get_or-set_other}
use Rattle.outcome.proofs.OutcomeLaws.{below_or}
use Rattle.parse_buffer.specs.Bytes.{File}
use Rattle.store.specs.Putting.{Putting}
use Rattle.store.proofs.PutLaws.{put_length, put_before, put_inside, put_after}
use Rattle.container_pages.specs.Inner.{Filled}

-- ---- nothing is filled in, and then more
pub filled_none : (f : File) (o : List ℕ) (at : ℕ) → Filled f o at at o
filled_none f o at =
    record { same = refl; before = λ i h. refl; inside = λ i h l. absurd (omega arith); after = λ i h. refl }

pub filled_more : {f : File} {o o₁ o₂ : List ℕ} {a b c : ℕ} → a ≤ b → b ≤ c → Filled f o a b o₁ → Filled f o₁ b c o₂ → Filled f o a c o₂
filled_more {f} {o} {o₁} {o₂} {a} {b} {c} l m x y =
    record {
      same = y.same ∙ x.same;
      before = λ i h. y.before i (omega arith) ∙ x.before i h;
      inside = λ i h k.
          ⊎_elim (λ (z : i < b). y.before i z ∙ x.inside i h z) (λ (z : b ≤ i). y.inside i z k) (below_or i b);
      after = λ i h. y.after i h ∙ x.after i (omega arith);
    }

-- ---- by another file that has the same bytes there
pub filled_as : {f g : File} {o o' : List ℕ} {a b : ℕ} → ((i : ℕ) → a ≤ i → i < b → f i ≡ g i) → Filled f o a b o' → Filled g o a b o'
filled_as e x =
    record { same = x.same; before = x.before; inside = λ i h l. x.inside i h l ∙ e i h l; after = x.after }

-- ---- one byte more
pub filled_set : {f : File} {o o₁ : List ℕ} {a b : ℕ} → Filled f o a b o₁ → a ≤ b → b < length o₁ → {v : ℕ} → v ≡ f b → Filled f o a (b + 1) (set o₁ b v)
filled_set {f} {o} {o₁} {a} {b} x l m {v} e =
    record {
      same = length-set o₁ b v ∙ x.same;
      before = λ i h. get_or-set_other o₁ b i v 0 (λ e. omega arith) ∙ x.before i h;
      inside = λ i h k.
          ⊎_elim (λ (z : i < b). get_or-set_other o₁ b i v 0 (λ e. omega arith) ∙ x.inside i h z)
          (λ (z : b ≤ i). let s : i ≡ b = omega arith in rw s (get_or-set_same o₁ b v 0 m ∙ e))
          (below_or i b);
      after = λ i h. get_or-set_other o₁ b i v 0 (λ e. omega arith) ∙ x.after i (omega arith);
    }

-- ---- a run that was put
pub filled_put : {xs o o' : List ℕ} {at r : ℕ} → Putting xs o at o' r → Filled (λ i. get_or xs (i - at) 0) o at r o'
filled_put {xs} {o} {o'} {at} {r} p =
    record {
      same = put_length p;
      before = put_before p 0;
      inside = λ i h l.
          let e : i ≡ at + (i - at) = omega arith in
          ap (λ (n : ℕ). get_or o' n 0) e ∙ put_inside p 0 (i - at) (omega (arith, p.place));
      after = put_after p 0;
    }
