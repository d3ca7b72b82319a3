-- The (P) cases on file F, by computation.
use mathlib.Core.Path.{refl}
use lib.Count
use Rattle.outcome.specs.Outcome.{and_next, and_then, require}
use Rattle.outcome.specs.Each.{each}
use Rattle.parse_buffer.specs.Bytes.{word}
use Rattle.paged.specs.PageSize.{size_is_fit, need}
use Rattle.paged.specs.Pages.{location, directory_page, directory_word}
use Rattle.paged.specs.Checks.{page_fits}
use Rattle.header.specs.Header.{stands_at, sized, headed, located}
use Rattle.directory.specs.Directory.{listed, reached}
use Rattle.stream.specs.Stream.{pages_of, pages_before, present, skipped_to, found}
use Rattle.slices.specs.Slices.{lengthen, slices_of, cut}
use Rattle.extent.specs.Extent.{asked}
use Rattle.mapping.specs.Mapping.{mapping}
use Rattle.container_statements.specs.FileF.{file_f, F}
use Rattle.container_statements.specs.Cases.{Cases, mapping_of, place_in_f}

pub cases : Cases
unfolding mapping_of place_in_f F file_f and_then and_next require each word size_is_fit need location directory_page directory_word page_fits stands_at sized headed located listed reached pages_of pages_before present skipped_to found lengthen slices_of cut asked mapping Count.ones Count.ones_in
cases = record { size = refl; two = refl; byte = refl; zero = refl; one = refl; three = refl }
