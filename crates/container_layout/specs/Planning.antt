-- Request 2026-05, "Refuse: 3; 22 if present sizes don't sum to the input's length; 23 if one location page can't hold
-- the directory's page numbers; 24 if directory_size or pages_used passes 32 bits".
use Rattle.std.specs.Prelude.{ℕ, ◌*◌, List, leb, eqb, length, Result, Ok}
use Rattle.outcome.specs.Outcome.{◌>>◌, require}
use Rattle.outcome.specs.Refusal as paper
use Rattle.paged.specs.PageSize.{size_is_fit}
use Rattle.container_layout.specs.Layout.{bytes_up_to, stream_pages, directory_size, directory_pages, location_page, pages_used}
use Rattle.container_layout.specs.Refusal.{refusal_in}
use Rattle.container_layout.specs.declared.refusal.Refusal.TheVariants.{InvalidPageSize, SizesDiffer, DirectoryTooLarge, Over32Bits}
use Rattle.container_layout.specs.declared.layout.Layout.{Layout}

abbrev largest_word : ℕ
largest_word = 0xffffffff

-- where the parts lie
abbrev pub layout_of : ℕ → List ℕ → Layout
layout_of p sizes =
    record {
      pagesize = p;
      streams = stream_pages p sizes;
      directory = directory_pages p sizes;
      last = location_page p sizes;
      used = pages_used p sizes;
    }

-- everything but the room is judged, for an input of so many bytes. (pages_used never passes 32 bits first: it stands
-- here as the request has it)
unfoldable pub planning : ℕ → List ℕ → ℕ → Result Layout paper.Refusal
planning p sizes given = do
  require (size_is_fit p) (refusal_in (InvalidPageSize p))
  require (eqb (bytes_up_to sizes (length sizes)) given) (refusal_in SizesDiffer)
  require (leb (4 * directory_pages p sizes) p) (refusal_in DirectoryTooLarge)
  require (leb (directory_size p sizes) largest_word) (refusal_in Over32Bits)
  require (leb (pages_used p sizes) largest_word) (refusal_in Over32Bits)
  Ok (layout_of p sizes)
