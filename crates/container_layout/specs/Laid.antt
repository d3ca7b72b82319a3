-- What is known of the layout of a container that is written.
use Rattle.std.specs.Prelude.{◌≡◌, List, ℕ, ◌^◌, ◌<◌}
use Rattle.paged.specs.PageSize.{PageSize}
use Rattle.container_layout.specs.Layout.{directory_size}
use Rattle.container_layout.specs.Planning.{layout_of}
use Rattle.container_layout.specs.declared.layout.Layout.{Layout}

-- a layout whose numbers have 32 bits, and that of these sizes
pub record Bounds (l : Layout) : Type 0 where
  pub size : PageSize l.pagesize
  pub last : l.last < l.used
  pub used : l.used < 2 ^ 32

pub record Laid (l : Layout) (sizes : List ℕ) : Type 0 where
  pub size : PageSize l.pagesize
  pub is : l ≡ layout_of l.pagesize sizes
  pub small : directory_size l.pagesize sizes < 2 ^ 32
