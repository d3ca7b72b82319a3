-- What `judging` gives at each return of `judge`; and what is known of a file that is listed.
use mathlib.Core.Path.{◌≡◌, refl, sym, ◌∙◌, ap}
use Prim.Native.Nat.{ℕ, ◌+◌, ◌*◌, ◌≤◌}
use native.Mathlib.Omega.{arith}
use Rattle.outcome.specs.Refusal as paper
use Rattle.std.specs.Prelude.{Result, Ok, Err}
use Rattle.outcome.specs.Outcome.{and_then, and_next, require, raise}
use Rattle.parse_buffer.specs.Bytes.{File}
use Rattle.paged.specs.PageSize.{PageSize}
use Rattle.paged.specs.Pages.{directory_word}
use Rattle.header.specs.Header.{header_at}
use Rattle.header.proofs.OpenLaws.{is_located}
use Rattle.header.specs.declared.Header.{Header}
use Rattle.directory.specs.Directory.{reached, stream_count}
use Rattle.directory.proofs.DirectoryLaws.{reached_at}
use Rattle.listing_whole.specs.Whole.{stream_limit, told, listable, judging}
use Rattle.listing_whole.specs.Inner.{Judges, Whole}
use Rattle.listing_whole.specs.declared.refusal.ListRefusal.{ListRefusal}
use Rattle.listing_whole.specs.declared.Listable.{Listable}

-- the directory_size that was read is the header's own
size_read : (f : File) (len : ℕ) {h : Header} → reached f len ≡ Ok h → (header_at f).directory ≡ h.directory
size_read f len e = sym (ap (λ (h : Header). h.directory) (is_located f len (reached_at f len e).located).is)

-- the same, in a form that `grind` applies: its conclusion shows each variable
pub size_same : (f : File) (len : ℕ) (h : Header) → reached f len ≡ Ok h → ((header_at f).directory ≡ h.directory) × (reached f len ≡ reached f len)
size_same f len h e = (size_read f len e, refl)

-- ---- what is known of a file that is listed
pub whole_is : {f : File} {len : ℕ} {r : Result Listable ListRefusal} {s : Listable} → Judges f len r → r ≡ Ok s → Whole f len s
unfolding raise
whole_is p e = record { is = sym p.answer ∙ ap told e }

pub record WholeAt (f : File) (len : ℕ) (s : Listable) : Type 0 where
  pub listable : listable f len ≡ Ok s.count
  pub reached : reached f len ≡ Ok s.header
  pub count : s.count ≡ directory_word f s.header.pagesize 0
  pub sizes : 4 + 4 * s.count ≤ s.header.directory
  pub few : s.count ≤ stream_limit

listable_at : (f : File) (len n : ℕ) → listable f len ≡ Ok n → (stream_count f len ≡ Ok n) × (4 + 4 * n ≤ (header_at f).directory) × (n ≤ stream_limit)
unfolding listable and_then and_next require
listable_at f len n e = (grind arith, grind arith, grind arith)

count_at : (f : File) (len n : ℕ) (h : Header) → stream_count f len ≡ Ok n → reached f len ≡ Ok h → n ≡ directory_word f h.pagesize 0
unfolding stream_count and_then and_next require
count_at f len n h e r = grind arith

judged_at : (f : File) (len : ℕ) (s : Listable) → judging f len ≡ Ok s → (listable f len ≡ Ok s.count) × (reached f len ≡ Ok s.header)
unfolding judging and_then
judged_at f len s e = (grind arith, grind arith)

pub whole_at : (f : File) (len : ℕ) {s : Listable} → Whole f len s → WholeAt f len s
whole_at f len {s} w =
    let at = judged_at f len s w.is in
    let known = listable_at f len s.count at.0 in
    record {
      listable = at.0;
      reached = at.1;
      count = count_at f len s.count s.header known.0 at.1;
      sizes = rw (size_read f len at.1) at known.1;
      few = known.2;
    }

-- a file that is not listed is refused by `listable`: once that passes, the directory was reached
pub refused_whole : (f : File) (len : ℕ) {why : paper.Refusal} → judging f len ≡ Err why → listable f len ≡ Err why
unfolding judging listable stream_count and_then and_next require
refused_whole f len {why} e = grind arith

pub whole_size : {f : File} {len : ℕ} {s : Listable} → Whole f len s → PageSize s.header.pagesize
whole_size {f} {len} w = (reached_at f len (whole_at f len w).reached).size
