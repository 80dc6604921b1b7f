use Rattle.std.proofs.Common.{◌≡◌, ℕ, ◌+◌, ◌*◌, List, [], ◌∷◌, ◌++◌, length, ap, ◌∙◌, refl, arith}
use Rattle.std.specs.List.{flat_map}
use Rattle.std.proofs.lemmas.List.{length-append}
use Rattle.cet_elf.specs.Written.{identification}
use Rattle.cet_exec.specs.declared.programs.ProgramHeader.{ProgramHeader}
use Rattle.cet_exec.specs.Written.{program_bytes, exec_kind}
use Rattle.cet_exec.proofs.writing.front.Goals as goal

length-headers : (ps : List ProgramHeader) → length (flat_map program_bytes ps) ≡ 56 * length ps
length-headers [] = refl
length-headers (p ∷ ps) = omega (arith, length-headers ps, length-append (program_bytes p) (flat_map program_bytes ps))

pub returns-clause-len : goal.returns-clause-len
returns-clause-len c =
    let ps = c.args.programs.now in
    let first : length c.put_kind.new.out.items ≡ 40 = ap length c.in_ok-put_kind.ensures ∙ ap (λ (r : List ℕ). length (r ++ (identification ++ exec_kind c.args.entry))) c.new-out.ensures.items in
    let second : length c.put_tables.new.out.items ≡ 64 = ap length c.in_ok-put_tables.ensures ∙ length-append c.put_kind.new.out.items _ ∙ ap (λ (n : ℕ). n + 24) first in
    ap length c.in_ok-put_programs.ensures ∙ length-append c.put_tables.new.out.items (flat_map program_bytes ps) ∙ ap (λ (n : ℕ). n + length (flat_map program_bytes ps)) second
    ∙ ap (λ (n : ℕ). 64 + n) (length-headers ps)
