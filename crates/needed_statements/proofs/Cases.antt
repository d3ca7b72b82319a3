-- File F's parts, by computation.
use mathlib.Core.Path.{refl}
use lib.Count
use Rattle.outcome.specs.Outcome.{and_next, and_then, require}
use Rattle.outcome.specs.Each.{each}
use Rattle.parse_buffer.specs.Bytes.{word}
use Rattle.paged.specs.PageSize.{size_is_fit, need}
use Rattle.paged.specs.Pages.{location, directory_page}
use Rattle.paged.specs.Checks.{page_fits}
use Rattle.header.specs.Header.{stands_at, sized, headed, located}
use Rattle.directory.specs.Directory.{listed}
use Rattle.slices.specs.Slices.{lengthen, slices_of, cut}
use Rattle.needed.specs.Needed.{placed, needing}
use Rattle.container_statements.specs.FileF.{file_f, F}
use Rattle.needed_statements.specs.Cases.{Cases, needed_of}

pub cases : Cases
unfolding needed_of F file_f and_then and_next require each word size_is_fit need location directory_page page_fits stands_at sized headed located listed placed needing lengthen slices_of cut Count.ones Count.ones_in
cases =
    record {
      location_list = refl;
      directory = refl;
      cut_off = refl;
      far = refl;
      no_room = refl;
      bad_list = refl;
      bad_page = refl;
      list_past = refl;
      empty = refl;
    }
