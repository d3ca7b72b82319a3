-- Request 2026-01: the numbers of an annotation, as document 01's "Opcodes 1 to 13" reads them back.
use Rattle.std.specs.Prelude.{ℕ, suc, ◌+◌, ◌*◌, cond, List, [], ◌∷◌, ◌++◌, eqb, ℤ, pos, negsuc, nat_abs}
use Rattle.annotations.specs.declared.annotation.Triple.{Triple}
use Rattle.shortest.specs.Short.{short}
use Rattle.annotation_records.specs.Ranges.{is_signed}

-- the operand whose signed reading is z: twice z, or one more than twice -z. "Signed 0 is written as operand 0"
unfoldable pub operand_of : ℤ → ℕ
operand_of (pos n) = 2 * n
operand_of (negsuc n) = 2 * suc n + 1

-- the operands by their kind: signed; four bits with a signed number above them; two numbers; one
unfoldable pub operands_of : Triple → List ℕ
operands_of t =
    cond (is_signed t.opcode) (operand_of t.first ∷ [])
    (cond (eqb t.opcode 11) ((nat_abs t.first + 16 * operand_of t.second) ∷ [])
    (cond (eqb t.opcode 12) (nat_abs t.first ∷ nat_abs t.second ∷ [])
    (nat_abs t.first ∷ [])))

-- numbers one after another, each in its shortest form
unfoldable pub shorts : List ℕ → List ℕ
shorts [] = []
shorts (n ∷ later) = short n ++ shorts later

-- the bytes of an annotation: opcode and operands
abbrev pub annotation_bytes : Triple → List ℕ
annotation_bytes t = shorts (t.opcode ∷ operands_of t)
