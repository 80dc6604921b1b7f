use Rattle.cet_elf.specs.ObjectSymbols.{symbol_faults}
use Rattle.cet_elf.proofs.BelowLemmas.{each-none-more}
use Rattle.cet_elf.proofs.SymbolLemmas.{AreSymbols-more}
use Rattle.cet_elf.proofs.symbols.read_entries.Goals as goal

pub loop-k-preserved : goal.loop-k-preserved
loop-k-preserved c =
    let read = c.in_ok-symbol.ensures in
    let added = c.in_ok-add.ensures in (
      each-none-more c.loop-k.k (symbol_faults c.args.bytes.now) c.loop-k.invariant.0 read.0,
      AreSymbols-more c.args.bytes.now c.loop-k.k c.loop-k.symbols c.add.new.self c.in_ok-symbol.symbol c.loop-k.invariant.1 read.1 added.list added.numbers,
    )
