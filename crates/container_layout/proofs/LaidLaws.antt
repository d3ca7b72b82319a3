-- What is known of the layout of a container that is written: its parts, and that its numbers have 32 bits.
use mathlib.Core.Path.{◌≡◌, ap}
use mathlib.Core.List.{List}
use Prim.Native.Nat.{ℕ, ◌+◌, ◌^◌, ◌≤◌, ◌<◌}
use native.Mathlib.Omega.{arith}
use native.Mathlib.Nat.{le-max_left}
use Rattle.paged.specs.PageSize.{need}
use Rattle.header.specs.Header.{header_block}
use Rattle.container_layout.specs.Place.{data_page}
use Rattle.container_layout.specs.Layout.{stream_pages, directory_pages, location_page, pages_used}
use Rattle.container_layout.specs.Laid.{Bounds, Laid}
use Rattle.container_layout.specs.declared.layout.Layout.{Layout}
use Rattle.container_layout.proofs.PlaceLaws.{data_rises_le}
use Rattle.container_layout.proofs.LayoutLaws.{ranks_small, location_small, used_small}

-- ---- the parts of a layout
module _ {l : Layout} {sizes : List ℕ} (d : Laid l sizes) where
  pub laid_streams : l.streams ≡ stream_pages l.pagesize sizes
  laid_streams = ap (λ (x : Layout). x.streams) d.is

  pub laid_directory : l.directory ≡ directory_pages l.pagesize sizes
  laid_directory = ap (λ (x : Layout). x.directory) d.is

  pub laid_last : l.last ≡ location_page l.pagesize sizes
  laid_last = ap (λ (x : Layout). x.last) d.is

  pub laid_used : l.used ≡ pages_used l.pagesize sizes
  laid_used = ap (λ (x : Layout). x.used) d.is

  pub laid_ranks : l.streams + l.directory < 2 ^ 31
  laid_ranks = omega (arith, laid_streams, laid_directory, ranks_small l.pagesize sizes d.size d.small)

  -- a data page before the location page has a number of 32 bits
  pub laid_page : {r : ℕ} → r ≤ l.streams + l.directory → data_page l.pagesize r < 2 ^ 32
  laid_page {r} h =
      let s = d.size.least in
      omega (arith, laid_streams, laid_directory, location_small l.pagesize sizes d.size d.small, data_rises_le l.pagesize (omega arith) r (stream_pages l.pagesize sizes + directory_pages l.pagesize sizes) (omega (arith, laid_streams, laid_directory)))

-- ---- the numbers have 32 bits
pub laid_bounds : {l : Layout} {sizes : List ℕ} → Laid l sizes → Bounds l
laid_bounds {l} {sizes} d =
    record {
      size = d.size;
      last = omega (arith, laid_last d, laid_used d, le-max_left (location_page l.pagesize sizes + 1) (need l.pagesize header_block));
      used = omega (arith, laid_used d, used_small l.pagesize sizes d.size d.small);
    }
