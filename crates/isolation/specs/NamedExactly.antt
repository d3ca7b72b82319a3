-- Document 01: "for extraction also file bytes named by the cut slices". These are the stream's own bytes, no fewer and
-- no more: byte j of stream k, for each j below the answered length, stands at page (j / P) * P + j mod P.
use Rattle.std.specs.Prelude.{◌≡◌, ◌↔◌, ℕ, ◌+◌, ◌*◌, ◌≤◌, ◌<◌, Ok, Option}
use Rattle.parse_buffer.specs.Bytes.{File}
use Rattle.paged.specs.Pages.{through}
use Rattle.stream.specs.Stream.{own_page, own_pages}
use Rattle.extent.specs.Extent.{Asked, asked}
use Rattle.mapping.specs.Mapping.{slices_in}
use Rattle.isolation.specs.Listed.{Named}

-- i is the place of a byte of the stream that is before the cut
pub record StreamByte (f : File) (x : Asked) (i : ℕ) : Type 0 where
  pub index : ℕ
  pub below : index < x.length
  pub at : i ≡ through x.found.header.pagesize (own_page f x.found) index

-- i is a byte of one of the first n of these pages, which have p bytes each
pub record InPages (p : ℕ) (page : ℕ → ℕ) (n i : ℕ) : Type 0 where
  pub index : ℕ
  pub below : index < n
  pub from : page index * p ≤ i
  pub to : i < page index * p + p

pub record NamedExactly (f : File) (len k : ℕ) (limit : Option ℕ) : Type 0 where
  pub is : {x : Asked} → asked f len k limit ≡ Ok x → (i : ℕ) → Named (slices_in f x) i ↔ StreamByte f x i
  -- so each lies in one of the stream's own pages
  pub in_pages : {x : Asked} → asked f len k limit ≡ Ok x → (i : ℕ) → Named (slices_in f x) i →
      InPages x.found.header.pagesize (own_page f x.found) (own_pages x.found) i
