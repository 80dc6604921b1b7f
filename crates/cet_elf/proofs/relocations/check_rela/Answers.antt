use Rattle.std.proofs.Common.{◌≡◌, ◌+◌, Some, None, get_or, sym, arith}
use Rattle.cet_elf.specs.declared.error.ElfError.TheVariants.{SymbolIndex}
use Rattle.cet_elf.specs.ObjectRelocations.{is_symbol_index, rela_faults}
use Rattle.cet_elf.proofs.FaultLemmas.{checks, broken-true}
use Rattle.cet_elf.proofs.RelocationLemmas.{number-found}
use Rattle.cet_elf.proofs.relocations.check_rela.Goals as goal

pub returns-in_err-demand-2 : goal.returns-in_err-demand-2
unfolding rela_faults
returns-in_err-demand-2 c =
    let read : get_or c.args.numbers.now c.args.e.symbol None ≡ Some c.in-Some.symbol = cc in
    let found = number-found c.args.bytes.now c.args.numbers.now c.args.e.symbol c.in-Some.symbol c.requires.numbers read in
    let none = broken-true (is_symbol_index c.args.bytes.now c.args.e.symbol) (SymbolIndex (c.args.at + 8)) found.0 in
    grind (arith, checks)

pub returns : goal.returns
unfolding rela_faults
returns c =
    let read : get_or c.args.numbers.now c.args.e.symbol None ≡ Some c.in-Some.symbol = cc in
    let found = number-found c.args.bytes.now c.args.numbers.now c.args.e.symbol c.in-Some.symbol c.requires.numbers read in
    let none = broken-true (is_symbol_index c.args.bytes.now c.args.e.symbol) (SymbolIndex (c.args.at + 8)) found.0 in
    (grind (arith, checks), sym found.1)
