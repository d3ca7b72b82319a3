-- Demand 3, of the functions that Rust and C call: two files of equal length that agree on the listed bytes give, for
-- equal stores, stream and limit, the same numbers and the same stores afterwards.
use Rattle.std.specs.Prelude.{List, ℕ, Option}
use Rattle.parse_buffer.specs.Bytes.{File}
use Rattle.container_crossing.specs.Promises.{Opens, Counts, Maps, Extracts}
use Rattle.isolation.specs.Listed.{ListedOpen, ListedCount, ListedMap, ListedBytes, Agree}
use Rattle.isolation.specs.Isolation.{Equal}

-- each promise, of one tuple of all that the function gives
abbrev pub opens : File → ℕ → ℕ × ℕ × ℕ → Type 0
opens f len r = Opens f len r.0 r.1 r.2

abbrev pub counts : File → ℕ → ℕ × ℕ → Type 0
counts f len r = Counts f len r.0 r.1

abbrev pub maps : File → ℕ → ℕ → Option ℕ → List ℕ → List ℕ → ℕ × ℕ × ℕ × List ℕ × List ℕ → Type 0
maps f len k limit offsets sizes r = Maps f len k limit offsets sizes r.0 r.1 r.2 r.3 r.4

abbrev pub extracts : File → ℕ → ℕ → Option ℕ → List ℕ → ℕ × ℕ × List ℕ → Type 0
extracts f len k limit out r = Extracts f len k limit out r.0 r.1 r.2

pub record Boundary (f g : File) (len : ℕ) : Type 0 where
  pub opening : Agree (ListedOpen f len) f g → Equal (opens f len) (opens g len)
  pub of_stream_count : Agree (ListedCount f len) f g → Equal (counts f len) (counts g len)
  pub map : (k : ℕ) (limit : Option ℕ) (offsets sizes : List ℕ) → Agree (ListedMap f len k) f g →
      Equal (maps f len k limit offsets sizes) (maps g len k limit offsets sizes)
  pub extract : (k : ℕ) (limit : Option ℕ) (out : List ℕ) → Agree (ListedBytes f len k limit) f g →
      Equal (extracts f len k limit out) (extracts g len k limit out)
