-- The statements on the container. An answer that is a value came of an outcome that was accepted, so every stage before it
-- passed: that gives the stream, its pages, and that its bytes are in the file.
use mathlib.Core.Path.{◌≡◌, refl, sym, ◌∙◌, ap}
use mathlib.Core.List.{List}
use Prim.Native.Nat.{ℕ, ◌+◌, ◌*◌, ◌≤◌, ◌<◌}
use native.Mathlib.Omega.{arith}
use native.Mathlib.Decide.{le_ind}
use native.Mathlib.Numerals.{add-one}
use borrow.Author.Tests.{leb-true}
use lib.ListN.{length, get_or}
use lib.Seq.{sets}
use Rattle.std.specs.Prelude.{Option, Some, None, IfSome, Result, Ok, Err}
use Rattle.std.specs.Borrow.{Bor}
use Rattle.outcome.specs.Outcome.{and_then, raise}
use Rattle.outcome.specs.Refusal as paper
use Rattle.outcome.specs.Store.{written}
use Rattle.outcome.proofs.OutcomeLaws.{came, came_by, ok_is, ok_refused, passed}
use Rattle.outcome.proofs.OnlyLaws.{only, only₂, only₃}
use Rattle.parse_buffer.specs.Bytes.{File}
use Rattle.parse_buffer.specs.Parse as parse
use Rattle.parse_buffer.specs.Parse.{parse_u32, InPlace, PartAt}
use Rattle.paged.specs.Refusal as paged
use Rattle.paged.specs.declared.refusal.Refusal.{Refusal}
use Rattle.paged.specs.Pages.{through}
use Rattle.paged.proofs.SizeLaws.{need_covers, need_least, word_in_page}
use Rattle.header.specs.Header.{opening}
use Rattle.directory.specs.Directory.{stream_count}
use Rattle.directory.proofs.DirectoryLaws.{reached_at}
use Rattle.stream.specs.Stream.{size_at, pages_of, pages_before, first_of, own_page, own_pages, found}
use Rattle.stream.specs.declared.Found.{Found}
use Rattle.stream.proofs.FindLaws.{found_at, first_at}
use Rattle.slices.specs.Slices.{Full, total, place_of}
use Rattle.slices.proofs.EndToEndLaws.{slices_full, slices_total, slices_place}
use Rattle.extent.specs.Extent.{Asked, asked, readable}
use Rattle.mapping.specs.Mapping.{slices_in}
use Rattle.msf.specs.Extraction.{bytes_in, extraction, length_in}
use Rattle.msf.specs.Promises.{Extracts}
use Rattle.msf.proofs.CopyLaws.{through_length, through_at}
use Rattle.store.proofs.SetsLaws.{sets_first, sets_beyond}
use Rattle.extent.proofs.ExtentLaws.{length_most, AskedAt, asked_at, readable_at}
use Rattle.mapping.proofs.MappingLaws.{mapping_at}
use Rattle.container_statements.specs.Statements.{SingleValued, ExtractedFrom, TheByte, TheSlices, PagesNeeded, EntriesOf, Own}
use Rattle.paged.proofs.LiesLaws.{lies_byte}
use Rattle.container_statements.proofs.Told.{told}

-- two parts of one list that begin at one place
same_place : (s : Bor (List ℕ)) (at n : ℕ) (a b : Option (Bor (List ℕ))) → PartAt s at n a → PartAt s at n b → IfSome a (λ p. IfSome b (InPlace p 0))
same_place s at n None b p q = tt
same_place s at n (Some a) None p q = tt
same_place s at n (Some a) (Some b) p q = (q.place.0 ∙ sym p.place.0, omega (arith, p.place.1, q.place.1))

pub single_valued : SingleValued
single_valued =
    record {
      of_parse_u32 = λ s at a b p q. only parse.told told.parsed (parse_u32 s at) a b p.answer q.answer;
      take = λ s at n a b p q. (p.bytes ∙ sym q.bytes, (q.place.0 ∙ sym p.place.0, omega (arith, p.place.1, q.place.1)));
      part_at = λ s at n a b p q. (p.bytes ∙ sym q.bytes, same_place s at n a b p q);
      opening = λ f len a b p q. only paged.told told.opened (opening f len) a b p.answer q.answer;
      of_stream_count = λ f len a b p q. only paged.told told.counted (stream_count f len) a b p.answer q.answer;
      map = λ f len k limit o t a b x y u v p q.
          only₃ paged.told told.mapped _ _ _ a b x y u v (p.answer, p.offsets_after, p.sizes_after) (q.answer, q.offsets_after, q.sizes_after);
      extract = λ f len k limit o a b x y p q.
          only₂ paged.told told.extracted _ _ a b x y (p.answer, p.after) (q.answer, q.after);
      map_into = λ f len k limit s a b x y p q.
          only₂ paged.told told.mapped _ _ a b x y (p.answer, p.after) (q.answer, q.after);
      parse = λ f len a b p q. only paged.told told.headed _ a b p.answer q.answer;
      locate = λ f len a b p q. only paged.told told.headed _ a b p.answer q.answer;
      reach = λ f len a b p q. only paged.told told.headed _ a b p.answer q.answer;
      find = λ f len k a b p q. only paged.told told.sought _ a b p.answer q.answer;
      measure = λ f len k limit a b p q. only paged.told told.measured _ a b p.answer q.answer;
      readable = λ f len k limit a b p q. only paged.told told.measured _ a b p.answer q.answer;
      judge = λ f len k limit room a b p q. only paged.told told.measured _ a b p.answer q.answer;
    }

-- ---- what is asked for is held by the pages of the stream
module _ (f : File) (len k : ℕ) (limit : Option ℕ) {x : Asked} (e : asked f len k limit ≡ Ok x) where
  at : AskedAt f len k limit x
  at = asked_at f len k limit e

  pub large : 0 < x.found.header.pagesize
  large = let s = (reached_at f len (found_at f len k at.found).reached).size.least in omega arith

  pub held : x.length ≤ own_pages x.found * x.found.header.pagesize
  held =
      let c = need_covers x.found.header.pagesize x.found.size large in
      let m : x.length ≤ x.found.size = rw at.length (length_most limit x.found.size) in
      omega arith

-- ---- the byte
record ExtractionAt (f : File) (len k : ℕ) (limit : Option ℕ) (room : ℕ) (x : Asked) : Type 0 where
  readable : readable f len k limit ≡ Ok x
  fits : x.length ≤ room

extraction_at : (f : File) (len k : ℕ) (limit : Option ℕ) (room : ℕ) {x : Asked} → extraction f len k limit room ≡ Ok x → ExtractionAt f len k limit room x
unfolding extraction
extraction_at f len k limit room {x} e =
    came_by _ _ e λ y r e₁.
    came _ _ e₁ λ _ l e₂.
    record { readable = r ∙ e₂; fits = rw (← ok_is e₂) (leb-true _ _ (passed _ _ l)) }

-- an answer that is a length came of an extraction that was accepted
accepted : (o : Result Asked paper.Refusal) {n : ℕ} → length_in o ≡ Ok n → (x : Asked) × ((o ≡ Ok x) × (x.length ≡ n))
unfolding length_in and_then
accepted (Ok x) e = (x, (refl, ok_is e))
accepted (Err why) e = absurd (ok_refused (sym e))

extracted_from : (f : File) (len k : ℕ) (limit : Option ℕ) (out : List ℕ) (r : Result ℕ Refusal) (out' : List ℕ) → Extracts f len k limit out r out' → (n : ℕ) → r ≡ Ok n → ExtractedFrom f len k limit out out' n
unfolding written raise
extracted_from f len k limit out r out' p n e =
    let a = accepted (extraction f len k limit (length out)) (sym p.answer ∙ ap paged.told e) in
    let x : Asked = a.0 in
    let is : extraction f len k limit (length out) ≡ Ok x = a.1.0 in
    let size : x.length ≡ n = a.1.1 in
    let at = extraction_at f len k limit (length out) is in
    let read = readable_at f len k limit at.readable in
    let of = asked_at f len k limit read.asked in
    let fits = at.fits in
    let P : ℕ = x.found.header.pagesize in
    let long : length (bytes_in f x) ≡ x.length = through_length f P (own_page f x.found) x.length in
    let after : out' ≡ sets out 0 (bytes_in f x) = p.after ∙ ap (λ (o : Result Asked paper.Refusal). written o (bytes_in f) out) is in
    record {
      stream = x.found;
      is = of.found;
      size = sym size ∙ of.length;
      byte = λ i h.
          ap (λ (l : List ℕ). get_or l i 0) after ∙ sets_first 0 out (bytes_in f x) (omega arith) i (omega arith) ∙ through_at f P (own_page f x.found) x.length i (omega arith);
      inside = λ i h.
          lies_byte len P (own_page f x.found) x.length (large f len k limit read.asked) read.lies i (omega arith);
      beyond = λ i h. ap (λ (l : List ℕ). get_or l i 0) after ∙ sets_beyond 0 out (bytes_in f x) (omega arith) i (omega arith);
    }

pub the_byte : TheByte
the_byte = record { is = extracted_from }

-- ---- the slices
module _ (f : File) (len k : ℕ) (limit : Option ℕ) {x : Asked} (e : asked f len k limit ≡ Ok x) where
  is_full : Full (slices_in f x)
  is_full = slices_full x.found.header.pagesize (own_page f x.found) (large f len k limit e) (own_pages x.found) x.length (held f len k limit e)

  pub is_total : total (slices_in f x) ≡ x.length
  is_total =
      slices_total x.found.header.pagesize (own_page f x.found) (large f len k limit e) (own_pages x.found) x.length (held f len k limit e)

  pub is_place : (i : ℕ) → i < x.length → place_of (slices_in f x) i ≡ through x.found.header.pagesize (own_page f x.found) i
  is_place =
      slices_place x.found.header.pagesize (own_page f x.found) (large f len k limit e) (own_pages x.found) x.length (held f len k limit e)

pub the_slices : TheSlices
the_slices =
    record {
      is = λ f len k limit room e.
          let p = (mapping_at f len k limit room e).asked in
          record { full = is_full f len k limit p; size = is_total f len k limit p; place = is_place f len k limit p };
    }

pub pages_needed : PagesNeeded
pages_needed =
    record {
      enough = λ p b h. need_covers p b h;
      least = λ p b n h l. need_least p b h n l;
      word = word_in_page;
    }

-- ---- each stream's own
first_follows : (f : File) (p count k : ℕ) → first_of f p count (k + 1) ≡ first_of f p count k + pages_of p (size_at f p k)
unfolding pages_before
first_follows f p count k = rw add-one (omega arith)

first_rises : (f : File) (p count j k : ℕ) → j ≤ k → first_of f p count j ≤ first_of f p count k
first_rises f p count j k h =
    le_ind (λ (m : ℕ). first_of f p count j ≤ first_of f p count m) (omega arith)
    (λ m _ l. let e = first_follows f p count m in rw (← add-one m) (omega arith)) k h

entries_of_lem : (f : File) (len k : ℕ) {x : Found} → found f len k ≡ Ok x → EntriesOf f k x
entries_of_lem f len k e =
    let x = first_at f len k (found_at f len k e).skipped in record { first = x.first; pages = x.pages }

pub own : Own
unfolding pages_of
own =
    record {
      follows = first_follows;
      disjoint = λ f p count j k h. let e = first_follows f p count j in let r = first_rises f p count (j + 1) k (omega arith) in omega arith;
      none = λ p. refl;
      empty = λ p s. let l = s.least in let e = need_least p 0 (omega arith) 0 (omega arith) in omega arith;
      found = λ f len k e. entries_of_lem f len k e;
    }
