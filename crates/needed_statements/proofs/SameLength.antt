-- Of one file, two lengths that hold the header block and the parts: each stage is the same. The length is asked only
-- whether the header block, the location list and the directory lie in the file.
use mathlib.Core.Path.{◌≡◌, refl, sym, ◌∙◌}
use Prim.Native.Nat.{ℕ, ◌≤◌}
use borrow.Author.Tests.{le-leb}
use Rattle.std.specs.Prelude.{Ok, Option}
use Rattle.outcome.proofs.OutcomeLaws.{bind_same, then_same}
use Rattle.parse_buffer.specs.Bytes.{File}
use Rattle.header.specs.Header.{header_block, headed, located, opening}
use Rattle.header.specs.declared.Header.{Header}
use Rattle.directory.specs.Directory.{listed, reached, stream_count}
use Rattle.stream.specs.Stream.{present, skipped_to, found}
use Rattle.extent.specs.Extent.{asked}
use Rattle.mapping.specs.Mapping.{mapping}
use Rattle.needed.specs.Needed.{placed, needing}
use Rattle.needed.specs.declared.Stage.{Stage}
use Rattle.needed.specs.declared.Stage.TheVariants.{LocationList, Directory}
use Rattle.needed_statements.specs.Statements.{part_lies}
use Rattle.needed_statements.specs.Prefix.{Holds}
use Rattle.needed_statements.proofs.Parts.{named_lies}

-- a length that holds a stage's part, if the stage is reached
pub record Lies (f : File) (len : ℕ) (stage : Stage) : Type 0 where
  pub is : {h : Header} → placed f len stage ≡ Ok h → part_lies f len stage h ≡ Ok tt

pub holds_lies : {f : File} {len : ℕ} → Holds f len → (stage : Stage) → Lies f len stage
holds_lies {f} {len} long stage = record { is = λ e. named_lies f len stage e (long.parts stage e) }

-- ---- steps 1 to 3
module _ (f : File) (a b : ℕ) (block : header_block ≤ a) (block' : header_block ≤ b) where
  headed_len : headed f a ≡ headed f b
  unfolding headed
  headed_len = rw (le-leb header_block a block, le-leb header_block b block')

  located_len : located f a ≡ located f b
  unfolding located
  located_len = rw headed_len

  pub opening_len : opening f a ≡ opening f b
  unfolding opening
  opening_len = rw located_len

  pub list_len : (room : ℕ) → needing f a LocationList room ≡ needing f b LocationList room
  unfolding needing placed
  list_len room = rw located_len

  -- ---- step 4
  module _ (list : Lies f a LocationList) (list' : Lies f b LocationList) where
    listed_len : listed f a ≡ listed f b
    unfolding listed placed
    listed_len =
        bind_same located_len λ h o.
        then_same (list.is o ∙ sym (list'.is (sym located_len ∙ o))) λ _ _.
        refl

    pub directory_len : (room : ℕ) → needing f a Directory room ≡ needing f b Directory room
    unfolding needing placed
    directory_len room = rw listed_len

    -- ---- step 5, and what follows
    module _ (directory : Lies f a Directory) (directory' : Lies f b Directory) where
      reached_len : reached f a ≡ reached f b
      unfolding reached placed
      reached_len =
          bind_same listed_len λ h o.
          then_same (directory.is o ∙ sym (directory'.is (sym listed_len ∙ o))) λ _ _.
          refl

      pub stream_count_len : stream_count f a ≡ stream_count f b
      unfolding stream_count
      stream_count_len = rw reached_len

      module _ (k : ℕ) where
        present_len : present f a k ≡ present f b k
        unfolding present
        present_len = rw reached_len

        skipped_len : skipped_to f a k ≡ skipped_to f b k
        unfolding skipped_to
        skipped_len = rw present_len

        found_len : found f a k ≡ found f b k
        unfolding found
        found_len = rw skipped_len

        pub mapping_len : (limit : Option ℕ) (room : ℕ) → mapping f a k limit room ≡ mapping f b k limit room
        unfolding mapping asked
        mapping_len limit room = rw found_len
