-- What the promise leaves in the store: the first bytes of the file, as many as its length, which the store has room for.
use mathlib.Core.Path.{◌≡◌, sym, ◌∙◌, ap}
use mathlib.Core.List.{List}
use Prim.Native.Nat.{ℕ, ◌≤◌, ◌<◌}
use native.Mathlib.Omega.{arith}
use borrow.Author.Tests.{leb-true}
use lib.ListN.{length}
use lib.Seq.{sets, length-sets, get_or-take}
use Rattle.std.specs.Prelude.{Ok}
use Rattle.outcome.specs.Outcome.{raise}
use Rattle.outcome.specs.Store.{written}
use Rattle.outcome.proofs.OutcomeLaws.{came, ok_is, passed}
use Rattle.parse_buffer.specs.Bytes.{File, byte_at}
use Rattle.store.proofs.SetsLaws.{sets_first, sets_beyond}
use Rattle.container_layout.specs.Layout.{file_length}
use Rattle.container_layout.specs.Container.{container}
use Rattle.container_layout.specs.Planning.{layout_of, planning}
use Rattle.container_layout.proofs.PlannedLaws.{plan_of}
use Rattle.container_writer.specs.Writing.{first_bytes, writing}
use Rattle.container_writer.specs.Promises.{Writing}
use Rattle.container_writer.proofs.WriteLaws.{first_length, first_at}
use Rattle.container_writer_statements.specs.Accepted.{Words}
use Rattle.container_writer_statements.specs.Stored.{StoredFile, Stored}

-- ---- each line of writing passed
record Judged (p : ℕ) (sizes : List ℕ) (given room n : ℕ) : Type 0 where
  plan : planning p sizes given ≡ Ok (layout_of p sizes)
  size : n ≡ file_length p sizes
  within : n ≤ room

judged : (p : ℕ) (sizes : List ℕ) (given room n : ℕ) → writing p sizes given room ≡ Ok n → Judged p sizes given room n
unfolding writing
judged p sizes given room n e =
    came _ _ e λ l plan e₁.
    came _ _ e₁ λ _ fits e₂.
    let size : file_length p sizes ≡ n = ok_is e₂ in
    record {
      plan = plan ∙ ap Ok (plan_of p sizes given plan).1;
      size = sym size;
      within = rw (← size) (leb-true _ _ (passed _ _ fits));
    }

module _ (p : ℕ) (sizes bytes out : List ℕ) (n : ℕ) (out' : List ℕ) (w : Writing p sizes bytes out (Ok n) out') where
  abbrev file : File
  file = container p sizes bytes

  is_ok : writing p sizes (length bytes) (length out) ≡ Ok n
  unfolding raise
  is_ok = sym w.answer

  j : Judged p sizes (length bytes) (length out) n
  j = judged p sizes (length bytes) (length out) n is_ok

  after : out' ≡ sets out 0 (first_bytes file n)
  unfolding written
  after = w.after ∙ rw is_ok

  fits : length (first_bytes file n) ≤ length out
  fits = omega (arith, first_length file n, j.within)

  long : length out' ≡ length out
  long = ap length after ∙ length-sets out 0 (first_bytes file n)

  byte : (i : ℕ) → i < n → byte_at out' i ≡ file i
  byte i l =
      ap (λ (s : List ℕ). byte_at s i) after
      ∙ sets_first 0 out (first_bytes file n) fits i (omega (arith, first_length file n))
      ∙ first_at file n i l

  stored_file : Words sizes → StoredFile p sizes bytes out n out'
  stored_file words =
      let size = j.size in
      record {
        accepted = record { plan = j.plan; words = words };
        size = size;
        store = record { long = omega (arith, long, j.within); byte = λ i l. byte i (omega arith) };
        alone = record {
          long = omega arith;
          byte = λ i l. let m : i < n = omega arith in get_or-take n out' i 0 m ∙ byte i m;
        };
        rest = λ i l.
            ap (λ (s : List ℕ). byte_at s i) after ∙ sets_beyond 0 out (first_bytes file n) fits i (omega (arith, first_length file n));
      }

pub stored : Stored
stored = record { is = λ p sizes bytes out n out' words w. stored_file p sizes bytes out n out' w words }
