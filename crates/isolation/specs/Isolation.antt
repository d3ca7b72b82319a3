-- Demand 3, of the operations: two files of equal length that agree on the listed bytes give, for equal stores, stream
-- and limit, the same answer, refusals and room needed included, and the same stores afterwards.
use Rattle.std.specs.Prelude.{◌≡◌, List, ℕ, Option}
use Rattle.parse_buffer.specs.Bytes.{File}
use Rattle.header.specs.Promises.{Opening}
use Rattle.directory.specs.Promises.{Counting}
use Rattle.slices.specs.declared.SourceSlice.{SourceSlice}
use Rattle.msf.specs.Promises.{Maps, Extracts}
use Rattle.slice_store.specs.Promises.{MapsInto}
use Rattle.isolation.specs.Listed.{ListedOpen, ListedCount, ListedMap, ListedBytes, Agree}

-- what satisfies one promise equals what satisfies the other: an answer, with one store, and with two
abbrev pub Equal : {A : Type 0} → (A → Type 0) → (A → Type 0) → Type 0
Equal {A} P Q = (a b : A) → P a → Q b → a ≡ b

abbrev pub Equal₂ : {A B : Type 0} → (A → B → Type 0) → (A → B → Type 0) → Type 0
Equal₂ {A} {B} P Q = (a b : A) (x y : B) → P a x → Q b y → (a ≡ b) × (x ≡ y)

abbrev pub Equal₃ : {A B C : Type 0} → (A → B → C → Type 0) → (A → B → C → Type 0) → Type 0
Equal₃ {A} {B} {C} P Q = (a b : A) (x y : B) (u v : C) → P a x u → Q b y v → (a ≡ b) × (x ≡ y) × (u ≡ v)

pub record Isolation (f g : File) (len : ℕ) : Type 0 where
  pub opening : Agree (ListedOpen f len) f g → Equal (Opening f len) (Opening g len)
  pub of_stream_count : Agree (ListedCount f len) f g → Equal (Counting f len) (Counting g len)
  pub map : (k : ℕ) (limit : Option ℕ) (offsets sizes : List ℕ) → Agree (ListedMap f len k) f g →
      Equal₃ (Maps f len k limit offsets sizes) (Maps g len k limit offsets sizes)
  pub extract : (k : ℕ) (limit : Option ℕ) (out : List ℕ) → Agree (ListedBytes f len k limit) f g →
      Equal₂ (Extracts f len k limit out) (Extracts g len k limit out)
  pub map_into : (k : ℕ) (limit : Option ℕ) (store : List SourceSlice) → Agree (ListedMap f len k) f g →
      Equal₂ (MapsInto f len k limit store) (MapsInto g len k limit store)
