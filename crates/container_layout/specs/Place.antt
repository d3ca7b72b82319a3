-- Request 2026-05: "Page 0 is the header [..]; pages whose number mod P is 1 or 2 are free-map pages; data goes to the
-- other pages in rising order".
use Rattle.std.specs.Prelude.{ℕ, zero, suc, ◌+◌, ◌-◌, ◌*◌, ◌/◌, ◌%◌, cond, List, [], ◌∷◌, ◌++◌, eqb}
use Rattle.parse_buffer.specs.Bytes.{File}

-- the r-th data page, r from 0
unfoldable pub data_page : ℕ → ℕ → ℕ
data_page p r = r / (p - 2) * p + r % (p - 2) + 3

-- which data page page n is
unfoldable pub rank : ℕ → ℕ → ℕ
rank p n = (n - 3) / p * (p - 2) + (n - 3) % p

-- n data pages, from the r-th on
unfoldable pub data_pages : ℕ → ℕ → ℕ → List ℕ
data_pages p r zero = []
data_pages p r (suc n) = data_pages p r n ++ data_page p (r + n) ∷ []

-- the pages after the header: byte x of the q-th map page, zeros in the page after it, and the data, which lies in the
-- data pages end to end
unfoldable pub pages_with : ℕ → (ℕ → ℕ → ℕ) → (ℕ → ℕ) → File
pages_with p map body i =
    cond (eqb (i / p % p) 1) (map (i / p / p) (i % p))
    (cond (eqb (i / p % p) 2) 0
    (body (rank p (i / p) * p + i % p)))

-- the page after the first r data pages: page 1, after the header, or that after the last of them
abbrev pub after : ℕ → ℕ → ℕ
after p zero = 1
after p (suc r) = data_page p r + 1
