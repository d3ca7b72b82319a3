-- The promises give each answer and store by equations; the stages are made of document 01's steps.
use mathlib.Core.Path.{◌≡◌, refl}
use Prim.Native.Nat.{ℕ}
use Rattle.std.specs.Prelude.{Ok, Err}
use Rattle.outcome.specs.Outcome.{and_then, ◌>>◌}
use Rattle.outcome.specs.Refusal as paper
use Rattle.outcome.proofs.OnlyLaws.{only, only₃}
use Rattle.outcome.proofs.EachLaws.{refuses_each}
use Rattle.parse_buffer.specs.Bytes.{File}
use Rattle.paged.specs.Refusal as paged
use Rattle.paged.specs.Refusal.{refusal_in}
use Rattle.paged.specs.declared.refusal.Refusal.TheVariants.{FileEnds}
use Rattle.header.specs.declared.Header.{Header}
use Rattle.directory.specs.Directory.{listed, reached}
use Rattle.container_statements.proofs.Told.{told}
use Rattle.needed.specs.Needed.{placed}
use Rattle.needed.specs.declared.Stage.{Stage}
use Rattle.needed.specs.declared.Stage.TheVariants.{LocationList, Directory}
use Rattle.needed_statements.specs.Statements.{SingleValued, part_lies, Refusals}
use Rattle.needed_statements.proofs.Parts.{lies_named, named_lies}

pub single_valued : SingleValued
single_valued =
    record {
      needed_to_map = λ f len stage o t a b x y u v p q.
          only₃ paged.told told.mapped _ _ _ a b x y u v (p.answer, p.offsets_after, p.sizes_after) (q.answer, q.offsets_after, q.sizes_after);
      list = λ f len a b p q. only paged.told told.headed _ a b p.answer q.answer;
      part = λ f len stage a b p q. only paged.told told.measured _ a b p.answer q.answer;
    }

module _ (f : File) (len : ℕ) where
  list_refuses : {why : paper.Refusal} → placed f len LocationList ≡ Err why → placed f len Directory ≡ Err why
  unfolding placed listed and_then
  list_refuses e = rw e

  directory_refuses : {why : paper.Refusal} → placed f len Directory ≡ Err why → reached f len ≡ Err why
  unfolding placed reached and_then
  directory_refuses e = rw e

  then_lies : {h : Header} → placed f len Directory ≡ Ok h → reached f len ≡ (part_lies f len Directory h >> Ok h)
  unfolding placed reached and_then
  then_lies e = rw e

six : (f : File) (len : ℕ) (stage : Stage) (h : Header) {why : paper.Refusal} → part_lies f len stage h ≡ Err why → why ≡ refusal_in FileEnds
six f len stage h {why} e = refuses_each (λ (w : paper.Refusal). w ≡ refusal_in FileEnds) _ _ (λ _. refl) _ why e

pub refusals : (f : File) (len : ℕ) → Refusals f len
refusals f len =
    record {
      list = list_refuses f len;
      directory = directory_refuses f len;
      rest = then_lies f len;
      held = λ stage e. (lies_named f len stage e, named_lies f len stage e);
      six = six f len;
    }
