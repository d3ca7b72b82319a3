-- The digits of a number are those that std spells; and a line's parts, put run after run, are the line.
use Rattle.std.proofs.Common.{◌≡◌, ◌/◌, ◌%◌, ◌^◌, ◌≤◌, ◌<◌, ◌++◌, ◌∷◌, [], ℕ, suc, List, length, arith}
use Rattle.std.specs.Fmt as std
use Rattle.std.proofs.lemmas.Fmt.{decimal_from_appends, length-decimal-le_succ}
use borrow.Author.Tests.{lt-ltb, le-ltb}
use Rattle.store.specs.Putting.{Putting}
use Rattle.store.proofs.PutLaws.{puts_more}
use Rattle.listing_text.specs.Text.{digit, spelled, decimal, refused_word, refusal_text, size_text}

-- ---- digits
one_digit : (more n : ℕ) → n < 10 → spelled (suc more) n ≡ digit n ∷ []
unfolding spelled
one_digit more n l = rw (lt-ltb n 10 l)

more_digits : (more n : ℕ) → 10 ≤ n → spelled (suc more) n ≡ spelled more (n / 10) ++ digit (n % 10) ∷ []
unfolding spelled
more_digits more n l = rw (le-ltb n 10 l)

decimal_is : (n : ℕ) → n < 2 ^ 64 → decimal n ≡ std.decimal n
decimal_is n fits =
    let all : length (std.decimal n) ≤ suc n = omega (arith, length-decimal-le_succ n fits) in
    decimal_from_appends spelled (record { one = one_digit; more = more_digits }) (suc n) n fits all

pub puts_number : {n : ℕ} {xs t t' : List ℕ} {at r : ℕ} → n < 2 ^ 64 → xs ≡ std.decimal n → Putting xs t at t' r → Putting (decimal n) t at t' r
puts_number {n} fits e p = rw (decimal_is n fits, ← e) p

-- ---- the parts of a line, run after run
pub puts_refusal : (number value : ℕ) {t t₁ t₂ : List ℕ} {at r₁ r₂ : ℕ} → Putting refused_word t at t₁ r₁ → Putting (size_text number value) t₁ r₁ t₂ r₂ → Putting (refusal_text (record { number = number; value = value })) t at t₂ r₂
puts_refusal number value p q = puts_more p q
