-- The promises of the functions on binary annotations: each number that crosses, with the place after a refusal, and
-- each lent store at exit. Where a refusal has nothing to say, the number is 0.
use Rattle.std.specs.Prelude.{◌≡◌, List, ℕ, length, ℤ, pos, Result}
use mathlib.Core.Option.{Option, some, none}
use Rattle.outcome.specs.Outcome.{raise}
use Rattle.outcome.specs.Store.{written}
use Rattle.numbers.specs.Refusal.{Stop}
use Rattle.numbers.specs.Number.{flag, number_at}
use Rattle.numbers.specs.declared.number.Number.{Number}
use Rattle.annotations.specs.Step.{Stepped, step_at}
use Rattle.decode.specs.Decode.{DecodeStop, decoded_entries, decoding}
use Rattle.line_entries.specs.Entries.{entries}
use Rattle.lines.specs.Lines.{running, how_many}
use Rattle.line_state.specs.declared.state.Line.{Line}
use Rattle.crossing.specs.Crossing.{told, Tells}
use Rattle.annotations_crossing.specs.Step.{opcode_of, first_of, second_of, shortest_of, next_of}

-- the place after a refusal, or 0 for one that has none
abbrev pub place_or0 : Option ℕ → ℕ
place_or0 (some place) = place
place_or0 none = 0

pub record Numbers (s : List ℕ) (at r value taken shortest next : ℕ) : Type 0 where
  pub answer : Tells (raise (λ (x : Stop). x.refusal) (number_at s at)) (λ (n : Number). n.value) r value
  pub taken_told : taken ≡ told (λ (n : Number). n.taken) (λ _. 0) (number_at s at)
  pub shortest_told : shortest ≡ told (λ (n : Number). flag n.shortest) (λ _. 0) (number_at s at)
  pub next_told : next ≡ told (λ (n : Number). n.next) (λ (x : Stop). x.place) (number_at s at)

-- (o is what the step answers)
pub record StepsOf (o : Result Stepped Stop) (r value : ℕ) (first second : ℤ) (shortest next : ℕ) : Type 0 where
  pub answer : Tells (raise (λ (x : Stop). x.refusal) o) opcode_of r value
  pub first_told : first ≡ told first_of (λ (_ : Stop). pos 0) o
  pub second_told : second ≡ told second_of (λ (_ : Stop). pos 0) o
  pub shortest_told : shortest ≡ told shortest_of (λ (_ : Stop). 0) o
  pub next_told : next ≡ told next_of (λ (x : Stop). x.place) o

abbrev pub Steps : List ℕ → ℕ → ℕ → ℕ → ℤ → ℤ → ℕ → ℕ → Type 0
Steps s at = StepsOf (step_at s at)

-- (o is what decoding all answers)
pub record DecodesOf (s : List ℕ) (o : Result ℕ DecodeStop) (store : List ℤ)
    (r value place : ℕ) (store' : List ℤ) : Type 0 where
  pub answer : Tells (raise (λ (x : DecodeStop). x.refusal) o) (λ n. n) r value
  pub place_told : place ≡ told (λ _. 0) (λ (x : DecodeStop). place_or0 x.place) o
  pub after : store' ≡ written o (λ _. decoded_entries s) store

abbrev pub Decodes : List ℕ → List ℤ → ℕ → ℕ → ℕ → List ℤ → Type 0
Decodes s store = DecodesOf s (decoding s (length store)) store

-- (o is what running the line program answers)
pub record RunsOf (o : Result (List Line) DecodeStop) (store : List ℤ) (r value place : ℕ) (store' : List ℤ)
    : Type 0 where
  pub answer : Tells (raise (λ (x : DecodeStop). x.refusal) (how_many o)) (λ n. n) r value
  pub place_told : place ≡ told (λ _. 0) (λ (x : DecodeStop). place_or0 x.place) o
  pub after : store' ≡ written o entries store

abbrev pub Runs : List ℕ → List ℤ → ℕ → ℕ → ℕ → List ℤ → Type 0
Runs s store = RunsOf (running s (length store)) store
