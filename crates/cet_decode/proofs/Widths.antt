-- A row by the operand's width, where the width is known.
use Rattle.std.proofs.Common.{◌≡◌, ℕ, List, Option, Some, None, Result, Ok, Err, refl, ap, ◌∙◌}
use Rattle.cet_isa.specs.declared.decode_error.DecodeError.{DecodeError}
use Rattle.cet_isa.specs.declared.operand.Width.{Width}
use Rattle.cet_isa.specs.declared.instruction.Insn.{Insn}
use Rattle.cet_isa.specs.Row.{Row}
use Rattle.cet_isa.specs.Decoded.{row_at}
use Rattle.cet_isa.specs.OpcodeMap.{per_width}
use Rattle.cet_decode.specs.Gives.{Gives, or_outside}

abbrev done : {A : Type 0} → A → Result A DecodeError
done x = Ok x

some_is : (w v : Width) → done w ≡ done v → w ≡ v
some_is w v e = cc

known_width : (rex : Option ℕ) (o : Option Width) (r : Width → Row) (w : Width) (bytes : List ℕ) → or_outside o ≡ Ok w → row_at rex (per_width o r) bytes ≡ row_at rex (r w) bytes
known_width rex None r w bytes e = absurd cc
known_width rex (Some v) r w bytes e = ap (λ (x : Width). row_at rex (r x) bytes) (some_is v w e)

pub gives_as : {X Y : Type 0} (view : X → Y) (result : Result X DecodeError) (read other : Result Y DecodeError) → other ≡ read → Gives view result read → Gives view result other
gives_as view (Ok x) read other e g = e ∙ g
gives_as view (Err x) read other e g = e ∙ g

-- what a row of that width gave is what the row by the opcode gives
pub of_width : {X : Type 0} (view : X → Insn × List ℕ) (result : Result X DecodeError) (rex : Option ℕ) (o : Option Width) (r : Width → Row) (w : Width) (bytes : List ℕ)
    → or_outside o ≡ Ok w → Gives view result (row_at rex (r w) bytes) → Gives view result (row_at rex (per_width o r) bytes)
of_width view result rex o r w bytes e g = gives_as view result _ _ (known_width rex o r w bytes e) g
