-- The return from a signal, when the bytes of its frame have been found.
use Rattle.std.proofs.Common.{◌≡◌, ◌≢◌, ℕ, ◌*◌, Bool, true, false, ◌==◌, List, take, drop, get_or, Some, Result, Ok, Err, refl, sym, ap, ◌∙◌, arith, eq-eqb, ne_eqb}
use Rattle.cet_base.specs.Field.{little_endian}
use Rattle.cet_isa.specs.declared.register.Reg.TheVariants.{Rsp}
use Rattle.cet_isa.specs.declared.registers.Regs.{Regs}
use Rattle.cet_isa.specs.declared.registers.Mode.{Mode}
use Rattle.cet_isa.specs.declared.fault.Fault.{Fault}
use Rattle.cet_isa.specs.declared.fault.Fault.TheVariants.{General}
use Rattle.cet_machine.specs.declared.memory.Region.{Region}
use Rattle.cet_machine.specs.Memory.{is_any, bytes_at}
use Rattle.cet_machine.specs.Machine.{Machine, ◌>>=◌, demand, minus}
use Rattle.cet_machine.specs.Operand.{value}
use Rattle.cet_machine.specs.Signal.{frame_mark, words_of_bytes, returned_ssp, framed_regs, sigreturn}
use Rattle.cet_cpu.specs.Answer.{machine}
use Rattle.cet_signal.proofs.Frames.{word_is}

-- what follows the frame's words
abbrev rest_of : Bool → Mode → Machine → List ℕ → Result Regs Fault
rest_of is_frame mode m words = demand is_frame General >>= λ _. returned_ssp mode m >>= λ ssp. Ok (framed_regs mode ssp words)

of_bytes : (mode : Mode) (M : List Region) (R : Regs) (rsp : ℕ) (bytes : List ℕ) → rsp ≡ value R Rsp → bytes_at is_any M (minus rsp 8) 208 ≡ Some bytes
    → sigreturn mode (machine M R) ≡ rest_of (get_or (words_of_bytes 26 bytes) 22 0 == frame_mark) mode (machine M R) (words_of_bytes 26 bytes)
unfolding sigreturn
of_bytes mode M R rsp bytes of_rsp found =
    let there : bytes_at is_any M (minus (value R Rsp) 8) 208 ≡ Some bytes = ap (λ (v : ℕ). bytes_at is_any M (minus v 8) 208) (sym of_rsp) ∙ found in
    rw there refl

pub unmarked : (mode : Mode) (M : List Region) (R : Regs) (rsp mark : ℕ) (bytes : List ℕ) → rsp ≡ value R Rsp → bytes_at is_any M (minus rsp 8) 208 ≡ Some bytes
    → mark ≡ little_endian (take 8 (drop (8 * 22) bytes)) → mark ≢ frame_mark → Err General ≡ sigreturn mode (machine M R)
unmarked mode M R rsp mark bytes of_rsp found of_mark other =
    let no : (get_or (words_of_bytes 26 bytes) 22 0 == frame_mark) ≡ false =
    ap (λ (w : ℕ). w == frame_mark) (word_is 26 22 bytes (omega arith) ∙ sym of_mark) ∙ ne_eqb mark frame_mark other in
    sym (of_bytes mode M R rsp bytes of_rsp found ∙ ap (λ (b : Bool). rest_of b mode (machine M R) (words_of_bytes 26 bytes)) no)

marked : (mode : Mode) (M : List Region) (R : Regs) (rsp mark : ℕ) (bytes : List ℕ) → rsp ≡ value R Rsp → bytes_at is_any M (minus rsp 8) 208 ≡ Some bytes
    → mark ≡ little_endian (take 8 (drop (8 * 22) bytes)) → mark ≡ frame_mark → sigreturn mode (machine M R) ≡ rest_of true mode (machine M R) (words_of_bytes 26 bytes)
marked mode M R rsp mark bytes of_rsp found of_mark same =
    let yes : (get_or (words_of_bytes 26 bytes) 22 0 == frame_mark) ≡ true =
    ap (λ (w : ℕ). w == frame_mark) (word_is 26 22 bytes (omega arith) ∙ sym of_mark) ∙ eq-eqb mark frame_mark same in
    of_bytes mode M R rsp bytes of_rsp found ∙ ap (λ (b : Bool). rest_of b mode (machine M R) (words_of_bytes 26 bytes)) yes

pub no_ssp : (mode : Mode) (M : List Region) (R : Regs) (rsp mark : ℕ) (bytes : List ℕ) (f : Fault) → rsp ≡ value R Rsp → bytes_at is_any M (minus rsp 8) 208 ≡ Some bytes
    → mark ≡ little_endian (take 8 (drop (8 * 22) bytes)) → mark ≡ frame_mark → Err f ≡ returned_ssp mode (machine M R) → Err f ≡ sigreturn mode (machine M R)
no_ssp mode M R rsp mark bytes f of_rsp found of_mark same refused =
    sym (marked mode M R rsp mark bytes of_rsp found of_mark same
    ∙ ap (λ (r : Result ℕ Fault). r >>= λ ssp. Ok (framed_regs mode ssp (words_of_bytes 26 bytes))) (sym refused))

pub returned : (mode : Mode) (M : List Region) (R : Regs) (rsp mark : ℕ) (bytes : List ℕ) (ssp : ℕ) (Q : Regs) → rsp ≡ value R Rsp → bytes_at is_any M (minus rsp 8) 208 ≡ Some bytes
    → mark ≡ little_endian (take 8 (drop (8 * 22) bytes)) → mark ≡ frame_mark → Ok ssp ≡ returned_ssp mode (machine M R) → Q ≡ framed_regs mode ssp (words_of_bytes 26 bytes)
    → Ok Q ≡ sigreturn mode (machine M R)
returned mode M R rsp mark bytes ssp Q of_rsp found of_mark same taken is =
    ap Ok is
    ∙ sym (marked mode M R rsp mark bytes of_rsp found of_mark same
    ∙ ap (λ (r : Result ℕ Fault). r >>= λ ssp. Ok (framed_regs mode ssp (words_of_bytes 26 bytes))) (sym taken))
