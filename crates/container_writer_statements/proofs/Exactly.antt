-- Each refusal by the line that gives it: what writing answers is one of six things, and which one says what held of every
-- line.
use mathlib.Core.Path.{◌≡◌, refl, sym, ◌∙◌, ap}
use mathlib.Core.Logic.{◌↔◌}
use mathlib.Core.Bool.{Bool, true, false, true≢false}
use mathlib.Core.List.{List}
use Prim.Native.Nat.{ℕ, ◌*◌, ◌≤◌, ◌<◌}
use native.Mathlib.Omega.{arith}
use borrow.Author.Tests.{le-leb, eqb-true, eqb-false, leb-true, leb-false}
use lib.Dec.{eqb, leb}
use lib.ListN.{length}
use Rattle.std.specs.Prelude.{Result, Ok, Err}
use Rattle.outcome.specs.Outcome.{and_next, ◌>>◌, require}
use Rattle.outcome.specs.Refusal as paper
use Rattle.outcome.proofs.OutcomeLaws.{ok_is, ok_refused, refused_is}
use Rattle.paged.specs.PageSize.{size_is_fit, PageSize}
use Rattle.paged.proofs.SizeLaws.{passes}
use Rattle.container_layout.specs.Layout.{bytes_up_to, directory_size, directory_pages, pages_used, file_length}
use Rattle.container_layout.specs.Planning.{planning}
use Rattle.container_layout.proofs.LayoutLaws.{used_small}
use Rattle.container_writer.specs.Writing.{writing}
use Rattle.container_writer_statements.specs.Exactly.{Sums, Lists, Fits, RefusedExactly}

-- ---- pages_used passes 32 bits only where directory_size does
used_after : (p : ℕ) (sizes : List ℕ) → PageSize p → directory_size p sizes ≤ 0xffffffff → pages_used p sizes ≤ 0xffffffff
used_after p sizes s l = omega (arith, used_small p sizes s (omega arith))

abbrev why : ℕ → ℕ → paper.Refusal
why number value = record { number = number; value = value }

-- refusals that are equal have one number and one value, and a size does not both pass and fail
number_of : {x y : paper.Refusal} → ◌≡◌ {A = Result ℕ paper.Refusal} (Err x) (Err y) → x.number ≡ y.number
number_of e = ap (λ (w : paper.Refusal). w.number) (refused_is e)

value_of : {x y : paper.Refusal} → ◌≡◌ {A = Result ℕ paper.Refusal} (Err x) (Err y) → x.value ≡ y.value
value_of e = ap (λ (w : paper.Refusal). w.value) (refused_is e)

other : {x y : paper.Refusal} {C : Type 0} → (x.number ≡ y.number → ⊥) → ◌≡◌ {A = Result ℕ paper.Refusal} (Err x) (Err y) → C
other n e = absurd (n (number_of e))

passes_not : {p : ℕ} {C : Type 0} → size_is_fit p ≡ false → PageSize p → C
passes_not e s = absurd (true≢false (sym s.fits ∙ e))

module _ (p : ℕ) (sizes : List ℕ) (given room : ℕ) where
  -- ---- what writing answers
  data Answer : Result ℕ paper.Refusal → Type 0 where
    bad : size_is_fit p ≡ false → Answer (Err (why 3 p))
    differ : PageSize p → (bytes_up_to sizes (length sizes) ≡ given → ⊥) → Answer (Err (why 22 0))
    large : Sums p sizes given → p < 4 * directory_pages p sizes → Answer (Err (why 23 0))
    long : Lists p sizes given → 0xffffffff < directory_size p sizes → Answer (Err (why 24 0))
    tight : Fits p sizes given → room < file_length p sizes → Answer (Err (why 10 (file_length p sizes)))
    fine : Fits p sizes given → file_length p sizes ≤ room → Answer (Ok (file_length p sizes))

  answer : Answer (writing p sizes given room)
  unfolding writing planning require and_next
  answer =
      go (size_is_fit p) (eqb (bytes_up_to sizes (length sizes)) given) (leb (4 * directory_pages p sizes) p) (leb (directory_size p sizes) 0xffffffff) refl refl refl refl
    where
      by_room : Fits p sizes given → (b : Bool) → leb (file_length p sizes) room ≡ b → Answer (require b (why 10 (file_length p sizes)) >> Ok (file_length p sizes))
      by_room f true e = fine f (leb-true _ _ e)
      by_room f false e = tight f (leb-false _ _ e)

      go : (w x y z : Bool) → size_is_fit p ≡ w → eqb (bytes_up_to sizes (length sizes)) given ≡ x → leb (4 * directory_pages p sizes) p ≡ y → leb (directory_size p sizes) 0xffffffff ≡ z → Answer (writing p sizes given room)
      go false x y z a b c d = rw a (bad a)
      go true false y z a b c d = rw (a, b) (differ (passes p a) (eqb-false _ _ b))
      go true true false z a b c d = rw (a, b, c) (large (record { size = passes p a; sum = eqb-true _ _ b }) (leb-false _ _ c))
      go true true true false a b c d =
          rw (a, b, c, d) (long (record { sums = record { size = passes p a; sum = eqb-true _ _ b }; list = leb-true _ _ c }) (leb-false _ _ d))
      go true true true true a b c d =
          let word = leb-true (directory_size p sizes) 0xffffffff d in
          let lists : Lists p sizes given = record { sums = record { size = passes p a; sum = eqb-true _ _ b }; list = leb-true _ _ c } in
          rw (a, b, c, d, le-leb (pages_used p sizes) 0xffffffff (used_after p sizes (passes p a) word))
          (by_room (record { lists = lists; words = word }) (leb (file_length p sizes) room) refl)

  -- ---- each answer exactly
  by_size : (o : Result ℕ paper.Refusal) → Answer o → (o ≡ Err (why 3 p)) ↔ (size_is_fit p ≡ false)
  by_size _ (bad e) = (λ _. e, λ _. refl)
  by_size _ (differ s d) = (other (λ n. omega arith), λ e. passes_not e s)
  by_size _ (large s l) = (other (λ n. omega arith), λ e. passes_not e s.size)
  by_size _ (long h l) = (other (λ n. omega arith), λ e. passes_not e h.sums.size)
  by_size _ (tight f l) = (other (λ n. omega arith), λ e. passes_not e f.lists.sums.size)
  by_size _ (fine f l) = (λ e. absurd (ok_refused e), λ e. passes_not e f.lists.sums.size)

  by_sum : (o : Result ℕ paper.Refusal) → Answer o → (o ≡ Err (why 22 0)) ↔ (PageSize p × (bytes_up_to sizes (length sizes) ≡ given → ⊥))
  by_sum _ (bad e) = (other (λ n. omega arith), λ c. passes_not e c.0)
  by_sum _ (differ s d) = (λ _. (s, d), λ _. refl)
  by_sum _ (large s l) = (other (λ n. omega arith), λ c. absurd (c.1 s.sum))
  by_sum _ (long h l) = (other (λ n. omega arith), λ c. absurd (c.1 h.sums.sum))
  by_sum _ (tight f l) = (other (λ n. omega arith), λ c. absurd (c.1 f.lists.sums.sum))
  by_sum _ (fine f l) = (λ e. absurd (ok_refused e), λ c. absurd (c.1 f.lists.sums.sum))

  by_list : (o : Result ℕ paper.Refusal) → Answer o → (o ≡ Err (why 23 0)) ↔ (Sums p sizes given × (p < 4 * directory_pages p sizes))
  by_list _ (bad e) = (other (λ n. omega arith), λ c. passes_not e c.0.size)
  by_list _ (differ s d) = (other (λ n. omega arith), λ c. absurd (d c.0.sum))
  by_list _ (large s l) = (λ _. (s, l), λ _. refl)
  by_list _ (long h l) = (other (λ n. omega arith), λ c. absurd (omega (arith, c.1, h.list)))
  by_list _ (tight f l) = (other (λ n. omega arith), λ c. absurd (omega (arith, c.1, f.lists.list)))
  by_list _ (fine f l) = (λ e. absurd (ok_refused e), λ c. absurd (omega (arith, c.1, f.lists.list)))

  by_words : (o : Result ℕ paper.Refusal) → Answer o → (o ≡ Err (why 24 0)) ↔ (Lists p sizes given × (0xffffffff < directory_size p sizes))
  by_words _ (bad e) = (other (λ n. omega arith), λ c. passes_not e c.0.sums.size)
  by_words _ (differ s d) = (other (λ n. omega arith), λ c. absurd (d c.0.sums.sum))
  by_words _ (large s l) = (other (λ n. omega arith), λ c. absurd (omega (arith, l, c.0.list)))
  by_words _ (long h l) = (λ _. (h, l), λ _. refl)
  by_words _ (tight f l) = (other (λ n. omega arith), λ c. absurd (omega (arith, f.words, c.1)))
  by_words _ (fine f l) = (λ e. absurd (ok_refused e), λ c. absurd (omega (arith, f.words, c.1)))

  -- of the last two, what passed is the same
  module _ (n : ℕ) where
    by_room : (o : Result ℕ paper.Refusal) → Answer o → (o ≡ Err (why 10 n)) ↔ (Fits p sizes given × ((n ≡ file_length p sizes) × (room < n)))
    by_room _ (bad e) = (other (λ n. omega arith), λ c. passes_not e c.0.lists.sums.size)
    by_room _ (differ s d) = (other (λ n. omega arith), λ c. absurd (d c.0.lists.sums.sum))
    by_room _ (large s l) = (other (λ n. omega arith), λ c. absurd (omega (arith, l, c.0.lists.list)))
    by_room _ (long h l) = (other (λ n. omega arith), λ c. absurd (omega (arith, l, c.0.words)))
    by_room _ (tight f l) =
        (λ e. let same : file_length p sizes ≡ n = value_of e in (f, (sym same, omega arith)), λ c. ap (λ i. Err (why 10 i)) (sym c.1.0))
    by_room _ (fine f l) = (λ e. absurd (ok_refused e), λ c. absurd (omega (arith, c.1.0, c.1.1)))

    by_all : (o : Result ℕ paper.Refusal) → Answer o → (o ≡ Ok n) ↔ (Fits p sizes given × ((n ≡ file_length p sizes) × (n ≤ room)))
    by_all _ (bad e) = (λ z. absurd (ok_refused (sym z)), λ c. passes_not e c.0.lists.sums.size)
    by_all _ (differ s d) = (λ z. absurd (ok_refused (sym z)), λ c. absurd (d c.0.lists.sums.sum))
    by_all _ (large s l) = (λ z. absurd (ok_refused (sym z)), λ c. absurd (omega (arith, l, c.0.lists.list)))
    by_all _ (long h l) = (λ z. absurd (ok_refused (sym z)), λ c. absurd (omega (arith, l, c.0.words)))
    by_all _ (tight f l) = (λ z. absurd (ok_refused (sym z)), λ c. absurd (omega (arith, c.1.0, c.1.1)))
    by_all _ (fine f l) =
        (λ e. let same : file_length p sizes ≡ n = ok_is e in (f, (sym same, omega arith)), λ c. ap Ok (sym c.1.0))

pub refused_exactly : RefusedExactly
refused_exactly =
    record {
      size = λ p sizes given room. by_size p sizes given room _ (answer p sizes given room);
      sum = λ p sizes given room. by_sum p sizes given room _ (answer p sizes given room);
      list = λ p sizes given room. by_list p sizes given room _ (answer p sizes given room);
      over = λ p sizes given room. by_words p sizes given room _ (answer p sizes given room);
      no_room = λ p sizes given room n. by_room p sizes given room n _ (answer p sizes given room);
      accepted = λ p sizes given room n. by_all p sizes given room n _ (answer p sizes given room);
      used = used_after;
    }
