-- Document 01, "Listing": the bytes of its lines.
use Rattle.std.specs.Prelude.{ℕ, zero, suc, ◌+◌, ◌/◌, ◌%◌, cond, List, [], ◌∷◌, ◌++◌, ltb, codes}
use Rattle.outcome.specs.Refusal as paper

-- the character of a digit: `0` is 48
abbrev pub digit : ℕ → ℕ
digit d = 48 + d

-- a number in decimal, in the fewest digits; 1 + n are more than n has
unfoldable pub spelled : ℕ → ℕ → List ℕ
spelled zero n = []
spelled (suc more) n = cond (ltb n 10) (digit n ∷ []) (spelled more (n / 10) ++ digit (n % 10) ∷ [])

abbrev pub decimal : ℕ → List ℕ
decimal n = spelled (suc n) n

abbrev pub streams_word : List ℕ
streams_word = codes "streams "

abbrev pub refused_word : List ℕ
refused_word = codes "refused "

abbrev pub absent_word : List ℕ
absent_word = codes "absent"

abbrev pub blank : List ℕ
blank = codes " "

-- "each line ended by one newline"
abbrev pub newline : List ℕ
newline = codes "\n"

-- the head: `streams N`
abbrev pub head_text : ℕ → List ℕ
head_text n = streams_word ++ decimal n ++ newline

-- `refused C V`
abbrev pub refusal_text : paper.Refusal → List ℕ
refusal_text why = refused_word ++ decimal why.number ++ blank ++ decimal why.value ++ newline

-- `SIZE SLICES`
abbrev pub size_text : ℕ → ℕ → List ℕ
size_text size slices = decimal size ++ blank ++ decimal slices ++ newline

-- request 2026-02: "an absent stream's line becomes `1 absent`, and `1 0 0` means a present stream of size 0"
abbrev pub absent_text : List ℕ
absent_text = absent_word ++ newline

-- a stream's number, which its line begins with
abbrev pub stream_text : ℕ → List ℕ
stream_text k = decimal k ++ blank
