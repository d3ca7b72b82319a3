-- Lists and their bytes, by computation: each width, signed 0, a negative number, 11 and 12, the empty list.
use Rattle.std.specs.Prelude.{◌≡◌, [], ◌∷◌, pos, negsuc}
use Rattle.annotation_writer.specs.Writing.{list_bytes}

pub record Cases : Type 0 where
  pub empty : list_bytes [] ≡ []
  pub one_byte : list_bytes (pos 1 ∷ pos 127 ∷ pos 0 ∷ []) ≡ 0x01 ∷ 0x7f ∷ []
  pub two_bytes : list_bytes (pos 1 ∷ pos 128 ∷ pos 0 ∷ []) ≡ 0x01 ∷ 0x80 ∷ 0x80 ∷ []
  pub last_two : list_bytes (pos 3 ∷ pos 16383 ∷ pos 0 ∷ []) ≡ 0x03 ∷ 0xbf ∷ 0xff ∷ []
  pub four_bytes : list_bytes (pos 3 ∷ pos 16384 ∷ pos 0 ∷ []) ≡ 0x03 ∷ 0xc0 ∷ 0x00 ∷ 0x40 ∷ 0x00 ∷ []
  pub largest : list_bytes (pos 13 ∷ pos 536870911 ∷ pos 0 ∷ []) ≡ 0x0d ∷ 0xdf ∷ 0xff ∷ 0xff ∷ 0xff ∷ []
  pub signed_zero : list_bytes (pos 6 ∷ pos 0 ∷ pos 0 ∷ []) ≡ 0x06 ∷ 0x00 ∷ []
  pub negative : list_bytes (pos 10 ∷ negsuc 6 ∷ pos 0 ∷ []) ≡ 0x0a ∷ 0x0f ∷ []
  pub packed : list_bytes (pos 11 ∷ pos 2 ∷ negsuc 2 ∷ []) ≡ 0x0b ∷ 0x72 ∷ []
  pub two : list_bytes (pos 12 ∷ pos 5 ∷ pos 300 ∷ []) ≡ 0x0c ∷ 0x05 ∷ 0x81 ∷ 0x2c ∷ []
