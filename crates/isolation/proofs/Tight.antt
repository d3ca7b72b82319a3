-- The list is tight, by computation.
use mathlib.Core.Path.{refl}
use lib.Count
use Rattle.outcome.specs.Outcome.{and_next, and_then, require}
use Rattle.outcome.specs.Each.{each}
use Rattle.parse_buffer.specs.Bytes.{word}
use Rattle.paged.specs.PageSize.{size_is_fit, need}
use Rattle.paged.specs.Pages.{location, directory_page, directory_word}
use Rattle.paged.specs.Checks.{page_fits}
use Rattle.header.specs.Header.{stands_at, sized, headed, located, opening}
use Rattle.directory.specs.Directory.{listed, reached, stream_count}
use Rattle.stream.specs.Stream.{pages_of, pages_before, present, skipped_to, found}
use Rattle.slices.specs.Slices.{lengthen, slices_of, cut}
use Rattle.extent.specs.Extent.{asked, readable}
use Rattle.mapping.specs.Mapping.{mapping}
use Rattle.msf.specs.Extraction.{bytes_through, extraction}
use Rattle.container_statements.specs.FileF.{file_f, F}
use Rattle.container_statements.specs.Cases.{mapping_of}
use Rattle.isolation.specs.Tight.{Tight, first_byte}

pub tight : Tight
unfolding mapping_of first_byte F file_f and_then and_next require each word size_is_fit need location directory_page directory_word page_fits stands_at sized headed located opening listed reached stream_count pages_of pages_before present skipped_to found lengthen slices_of cut asked mapping bytes_through readable extraction Count.ones Count.ones_in
tight =
    record {
      start = (refl, refl);
      fields = (refl, refl);
      small = (refl, refl);
      locations = (refl, refl);
      list = (refl, refl);
      count = (refl, refl);
      sizes = (refl, refl);
      pages = (refl, refl);
      bytes = (refl, refl);
    }
