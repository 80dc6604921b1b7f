-- The object of a text, from its statements in their places.
use Rattle.std.specs.Prelude.{IfOk, IfErr}
use Rattle.std.proofs.Common.{◌≡◌, ◌≢◌, ℕ, List, [], Result, Ok, Err, ap, ◌∙◌}
use Rattle.cet_elf.specs.declared.object.Object.{Object}
use Rattle.cet_syntax.specs.Lines.{items_in}
use Rattle.cet_asm.specs.declared.error.AsmKind.TheVariants as fault
use Rattle.cet_asm.specs.declared.error.AsmError.{AsmError}
use Rattle.cet_asm.specs.declared.placed.Placed.{Placed}
use Rattle.cet_asm.specs.Assembled.{◌>>=◌, placed_from, first_state, whole, assembly, Assembles, IsAsmFault}

placed_whole : (text : List ℕ) (r : Result (List Placed) AsmError) → placed_from [] first_state (items_in text) ≡ r → assembly text ≡ (r >>= whole)
unfolding assembly
placed_whole text r is = ap (λ (p : Result (List Placed) AsmError). p >>= whole) is

pub assembled_from : (text : List ℕ) (placed : List Placed) (r : Result Object AsmError) → placed_from [] first_state (items_in text) ≡ Ok placed
    → IfOk r (λ object. whole placed ≡ Ok object) → IfOk r (Assembles text)
assembled_from text placed (Ok object) is made = placed_whole text (Ok placed) is ∙ made
assembled_from text placed (Err e) is made = tt

pub fault_from : (text : List ℕ) (placed : List Placed) (r : Result Object AsmError) → placed_from [] first_state (items_in text) ≡ Ok placed
    → IfErr r (λ e. e.kind ≢ fault.NoMemory → whole placed ≡ Err e) → IfErr r (λ e. e.kind ≢ fault.NoMemory → IsAsmFault text e)
fault_from text placed (Ok object) is late = tt
fault_from text placed (Err e) is late = λ some. placed_whole text (Ok placed) is ∙ late some

pub early_fault : (text : List ℕ) (e : AsmError) → placed_from [] first_state (items_in text) ≡ Err e → IsAsmFault text e
early_fault text e is = placed_whole text (Err e) is
