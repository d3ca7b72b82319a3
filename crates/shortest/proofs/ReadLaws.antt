-- The shortest form is read back, wherever it stands, and no form of the same number is shorter.
use mathlib.Core.Path.{◌≡◌, refl, sym, ◌∙◌, ap}
use mathlib.Core.Bool.{Bool, true, false}
use mathlib.Core.List.{List, ◌++◌}
use Prim.Native.Nat.{ℕ, ◌+◌, ◌*◌, ◌/◌, ◌%◌, ◌^◌, ◌≤◌, ◌<◌}
use native.Mathlib.Omega.{arith}
use native.Mathlib.Nat.{add-zero, zero-add, div-div-eq-div-mul, div-add-mod'}
use borrow.Author.Tests.{lt-ltb, le-ltb, ltb-true, ltb-false}
use lib.Dec.{leb, ltb}
use lib.ListN.{length, get_or}
use Rattle.std.specs.Prelude.{Result, Ok, Err}
use Rattle.outcome.proofs.OutcomeLaws.{by_test, ok_is, ok_refused}
use Rattle.numbers.specs.Refusal.{Stop}
use Rattle.numbers.specs.Number.{number_of, number_at}
use Rattle.numbers.proofs.FormLaws.{shortest_one, shortest_two, shortest_four}
use Rattle.numbers.proofs.PrefixLaws.{NumberKeeps, number_keeps}
use Rattle.numbers.proofs.ShiftLaws.{later_number, number_later}
use Rattle.numbers.specs.declared.number.Number.{Number}
use Rattle.shortest.specs.Short.{Bytes, short, short_number}
use Rattle.shortest.proofs.ShortLaws.{AllBytes, none, more, width_one, width_two, width_four, short_most}

-- ---- read back
record Reads (n : ℕ) (b : List ℕ) : Type 0 where
  is : number_at b 0 ≡ Ok (record { value = n; next = 0 + length b; taken = length b; shortest = true })

reads : (n : ℕ) → n < 2 ^ 29 → Reads n (short n)
unfolding short number_at
reads n l =
    by_test (Reads n) (ltb n 0x80) (λ h. record { is = simp (h, ← shortest_one n (ltb-true _ _ h)) })
    (λ h. by_test (Reads n) (ltb n 0x4000)
    (λ k.
    let t : n < 0x4000 = ltb-true _ _ k in
    let u : 0x80 ≤ n = ltb-false _ _ h in
    let e : (0x80 + n / 256) % 64 * 256 + n % 256 ≡ n = omega arith in
    record { is = simp (le-ltb (0x80 + n / 256) 0x80 (omega arith), lt-ltb (0x80 + n / 256) 0xc0 (omega arith), e, ← shortest_two n u t) })
    (λ k.
    let u : 0x4000 ≤ n = ltb-false _ _ k in
    let d : n / 2 ^ 8 / 2 ^ 8 ≡ n / 2 ^ 16 = div-div-eq-div-mul n (2 ^ 8) (2 ^ 8) in
    let d' : n / 2 ^ 16 / 2 ^ 8 ≡ n / 2 ^ 24 = div-div-eq-div-mul n (2 ^ 16) (2 ^ 8) in
    let x = div-add-mod' n (2 ^ 8) in
    let y = div-add-mod' (n / 2 ^ 8) (2 ^ 8) in
    let z = div-add-mod' (n / 2 ^ 16) (2 ^ 8) in
    let small : n / 2 ^ 24 < 32 = omega arith in
    let f : (0xc0 + n / 2 ^ 24) % 32 ≡ n / 2 ^ 24 = omega arith in
    let e : (0xc0 + n / 2 ^ 24) % 32 * 2 ^ 24 + n / 2 ^ 16 % 256 * 2 ^ 16 + n / 2 ^ 8 % 256 * 2 ^ 8 + n % 256 ≡ n = omega arith in
    record { is = simp (le-ltb (0xc0 + n / 2 ^ 24) 0x80 (omega arith), le-ltb (0xc0 + n / 2 ^ 24) 0xc0 (omega arith), lt-ltb (0xc0 + n / 2 ^ 24) 0xe0 (omega arith)) (ap (λ v. Ok (number_of 0 4 v)) e ∙ rw (← shortest_four n u)) }))

pub short_reads : (n : ℕ) → n < 2 ^ 29 → number_at (short n) 0 ≡ Ok (short_number 0 n)
short_reads n l = (reads n l).is

-- with any bytes after it, and before it
pub short_reads_first : (w : List ℕ) (n : ℕ) → n < 2 ^ 29 → number_at (short n ++ w) 0 ≡ Ok (short_number 0 n)
short_reads_first w n l = go (number_at (short n) 0) (number_keeps (short n) w 0) (short_reads n l)
  where
    go : (o : Result Number Stop) → NumberKeeps (short n) w 0 o → o ≡ Ok (short_number 0 n) → number_at (short n ++ w) 0 ≡ Ok (short_number 0 n)
    go o (NumberKeeps.same e) f = e ∙ f
    go _ NumberKeeps.short f = absurd (ok_refused (sym f))

pub short_reads_in : (u w : List ℕ) (n : ℕ) → n < 2 ^ 29 → number_at (u ++ (short n ++ w)) (length u) ≡ Ok (short_number (length u) n)
unfolding later_number
short_reads_in u w n l =
    let place : length u + 0 ≡ length u = add-zero (length u) in
    rw place at (number_later u (short n ++ w) 0) ∙ rw (short_reads_first w n l, zero-add)

-- ---- a smaller number is no longer
pub short_rises : {m n : ℕ} → m ≤ n → length (short m) ≤ length (short n)
short_rises {m} {n} l = go (ltb n 0x80) (ltb n 0x4000) (ltb m 0x80) (ltb m 0x4000) refl refl refl refl
  where
    go : (a b c d : Bool) → ltb n 0x80 ≡ a → ltb n 0x4000 ≡ b → ltb m 0x80 ≡ c → ltb m 0x4000 ≡ d → length (short m) ≤ length (short n)
    go true b c d e _ _ _ = let h = ltb-true n 0x80 e in omega (arith, width_one n h, width_one m (omega arith))
    go false true true d e f g _ =
        omega (arith, width_two n (ltb-false n 0x80 e) (ltb-true n 0x4000 f), width_one m (ltb-true m 0x80 g))
    go false true false d e f g _ =
        let h = ltb-true n 0x4000 f in
        omega (arith, width_two n (ltb-false n 0x80 e) h, width_two m (ltb-false m 0x80 g) (omega arith))
    go false false c d e f g _ = omega (arith, width_four n (ltb-false n 0x4000 f), short_most m)

-- ---- no form is shorter. (A two-byte form of bytes is below 0x4000.)
pub number_least : (s : List ℕ) (at : ℕ) → Bytes s → {x : Number} → number_at s at ≡ Ok x → at + length (short x.value) ≤ x.next
unfolding number_at
number_least s at bytes {x} =
    let P : Result Number Stop → Type 0 = λ o. o ≡ Ok x → at + length (short x.value) ≤ x.next in
    by_test P (leb (at + 1) (length s))
    (λ _. by_test P (ltb (get_or s at 0) 0x80)
    (λ h. read _ (omega (arith, width_one (get_or s at 0) (ltb-true (get_or s at 0) 0x80 h))))
    (λ _. by_test P (ltb (get_or s at 0) 0xc0)
    (λ _. by_test P (leb (at + 2) (length s)) (λ _. read _ (two (get_or s at 0 % 64) (omega arith))) (λ _. none))
    (λ _. by_test P (leb (at + 4) (length s))
    (λ _. by_test P (ltb (get_or s at 0) 0xe0) (λ _. read _ (four _)) (λ _. none)) (λ _. none))))
    (λ _. none)
  where
    read : (y : Number) → at + length (short y.value) ≤ y.next → ◌≡◌ {A = Result Number Stop} (Ok y) (Ok x) → at + length (short x.value) ≤ x.next
    read y h e = let f : y ≡ x = ok_is e in rw (← f) h

    none : {why : Stop} → ◌≡◌ {A = Result Number Stop} (Err why) (Ok x) → at + length (short x.value) ≤ x.next
    none e = absurd (ok_refused (sym e))

    two : (h : ℕ) → h < 64 → at + length (short (h * 256 + get_or s (at + 1) 0)) ≤ at + 2
    two h l =
        let b = bytes (at + 1) in
        let small : h * 256 + get_or s (at + 1) 0 ≤ 0x3fff = omega arith in
        omega (arith, short_rises small, width_two 0x3fff (omega arith) (omega arith))

    four : (n : ℕ) → at + length (short n) ≤ at + 4
    four n = omega (arith, short_most n)

-- ---- the forms are of bytes
pub short_bytes : (n : ℕ) → n < 2 ^ 29 → AllBytes (short n)
unfolding short
short_bytes n l =
    by_test AllBytes (ltb n 0x80) (λ h. let k = ltb-true n 0x80 h in more (omega arith) none)
    (λ _. by_test AllBytes (ltb n 0x4000)
    (λ h. let k = ltb-true n 0x4000 h in more (omega arith) (more (omega arith) none))
    (λ _. more (omega arith) (more (omega arith) (more (omega arith) (more (omega arith) none)))))
