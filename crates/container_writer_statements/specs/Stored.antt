-- Request 2026-05, "write a whole file into a lent store": the promise has one answer, and what is in the store then.
use Rattle.std.specs.Prelude.{◌≡◌, List, ℕ, ◌≤◌, length, take, Ok}
use Rattle.outcome.specs.Only.{Only₂, Injective}
use Rattle.parse_buffer.specs.Bytes.{byte_at}
use Rattle.container_layout.specs.Layout.{file_length}
use Rattle.container_layout.specs.Refusal.{refusal_in, told}
use Rattle.container_writer.specs.Promises.{Writing}
use Rattle.container_writer_statements.specs.Accepted.{Words, Accepted, Holds}

-- what an answer says on paper tells it from every other answer
pub record Told : Type 0 where
  pub refusal : Injective refusal_in
  pub written : Injective (told {A = ℕ})

-- no second answer, and no other store, satisfies the promise
pub record SingleValued : Type 0 where
  pub write_container : (p : ℕ) (sizes bytes out : List ℕ) → Only₂ (Writing p sizes bytes out)

-- after an answer that is a length, the store begins with the file, and past it is as it was. The store and its first n
-- bytes alone both read back
pub record StoredFile (p : ℕ) (sizes bytes out : List ℕ) (n : ℕ) (out' : List ℕ) : Type 0 where
  pub accepted : Accepted p sizes (length bytes)
  pub size : n ≡ file_length p sizes
  pub store : Holds (byte_at out') (length out') p sizes bytes
  pub alone : Holds (byte_at (take n out')) n p sizes bytes
  pub rest : (i : ℕ) → n ≤ i → byte_at out' i ≡ byte_at out i

pub record Stored : Type 0 where
  pub is : (p : ℕ) (sizes bytes out : List ℕ) (n : ℕ) (out' : List ℕ) → Words sizes →
      Writing p sizes bytes out (Ok n) out' → StoredFile p sizes bytes out n out'
