use Rattle.std.proofs.Common.{◌≡◌, ◌+◌, ◌++◌, ap, length, ◌∙◌, take, subst, arith}
use Rattle.std.specs.Vec.{vec_len}
use Rattle.std.proofs.lemmas.List.{length-append}
use Rattle.std.proofs.lemmas.List.Elements.{All-more}
use Rattle.cet_elf.specs.Regular.{SymbolFits}
use Rattle.cet_elf.specs.Written.{symbol_entries, symbol_bytes, ended}
use Rattle.cet_elf.proofs.Growth.{names_of, names_of-push, symbol_entries-push, grows}
use Rattle.cet_elf.proofs.tables.put_symbols.Goals as goal

pub loop-symbol-preserved : goal.loop-symbol-preserved
loop-symbol-preserved c =
    let xs = c.args.symbols.now in
    let i = c.loop-symbol.symbol-index in
    let s = c.symbol-item.result in
    let old = c.args.names.now in
    let at = vec_len old in
    let names = c.loop-symbol.names in
    let here = c.loop-symbol.invariant in
    let place : vec_len names ≡ at + length (names_of (take i xs)) = omega (arith, ap length here.names, length-append old.items (names_of (take i xs)), names.ok.0, old.ok.0) in
    record {
      table = grows (symbol_entries at) (symbol_bytes (at + length (names_of (take i xs)))) _ _ _ xs i s (symbol_entries-push at (take i xs)) c.loop-symbol-test.true c.symbol-item.is here.table
          (c.in_ok-put_symbol.ensures.table ∙ ap (λ n. c.loop-symbol.table.items ++ symbol_bytes n s) place);
      names = grows names_of (λ x. ended x.name) _ _ _ xs i s (names_of-push (take i xs)) c.loop-symbol-test.true c.symbol-item.is here.names c.in_ok-put_symbol.ensures.names;
      fit = All-more SymbolFits xs i s c.loop-symbol-test.true here.fit (subst SymbolFits c.symbol-item.is c.in_ok-put_symbol.ensures.fits);
    }
