-- What inner functions promise their callers.
use Rattle.std.specs.Prelude.{ℕ, ◌-◌, ◌*◌, ◌/◌, ◌%◌, min}

-- how many words a page has from word w of a paged object on
unfoldable pub words_left : ℕ → ℕ → ℕ
words_left p w = (p - 4 * w % p) / 4

-- of an object of so many bytes, how many lie in the m pages from page i on
abbrev pub span : ℕ → ℕ → ℕ → ℕ → ℕ
span p bytes i m = min (m * p) (bytes - i * p)
