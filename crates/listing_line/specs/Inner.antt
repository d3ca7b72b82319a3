-- What the functions of a line promise their callers, beside the bytes that they put.
use Rattle.std.specs.Prelude.{Option, Some, None, Result, Ok, Err}
use Rattle.paged.specs.Refusal.{refusal_in}
use Rattle.paged.specs.declared.refusal.Refusal.{Refusal}
use Rattle.listing_line.specs.Line.{Shown, sized_as, not_there, refused_with}
use Rattle.listing_line.specs.declared.Shown as code

-- what an answer of the code shows on paper
unfoldable pub shown_in : Result (Option code.Shown) Refusal → Shown
shown_in (Ok (Some s)) = sized_as s.size s.slices
shown_in (Ok None) = not_there
shown_in (Err why) = refused_with (refusal_in why)
