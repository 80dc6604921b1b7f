use Rattle.std.proofs.Common.{◌≡◌, ◌<◌, length, get_or, ap, ◌∙◌, arith}
use Rattle.std.proofs.lemmas.Bool.Decides.{nat_tests}
use Rattle.cet_elf.specs.Header.{section_count}
use Rattle.cet_elf.specs.ObjectSections.{section_number}
use Rattle.cet_elf.specs.ObjectSymbols.{place_of}
use Rattle.cet_elf.proofs.NumberLemmas.{length-section_numbers, get_or-section_numbers}
use Rattle.cet_elf.proofs.symbols.place_of.Goals as goal

pub bounds-numbers-index : goal.bounds-numbers-index
bounds-numbers-index c =
    let there : c.args.index < section_count c.args.bytes.now = grind (arith, nat_tests) in
    omega (arith, ap length c.requires.numbers, length-section_numbers c.args.bytes.now)

pub returns-in_default : goal.returns-in_default
unfolding place_of
returns-in_default c =
    let there : c.args.index < section_count c.args.bytes.now = grind (arith, nat_tests) in
    let number : get_or c.args.numbers.now c.args.index 0 ≡ section_number c.args.bytes.now c.args.index = ap (λ ns. get_or ns c.args.index 0) c.requires.numbers ∙ get_or-section_numbers c.args.bytes.now c.args.index there in
    grind (arith, nat_tests)
