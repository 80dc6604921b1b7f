use Rattle.std.proofs.Common.{◌≡◌, ◌+◌, ◌++◌, ap, sym, length, map, ◌∙◌, take, subst}
use Rattle.std.proofs.lemmas.List.{length-append, append_assoc}
use Rattle.std.proofs.lemmas.List.Elements.{All-more}
use Rattle.cet_elf.specs.Written.{symbol_entries, symbol_bytes, ended}
use Rattle.cet_elf.proofs.Growth.{names_of, names_of-push, symbol_entries-push}
use Rattle.cet_exec.specs.Regular.{SymbolFits}
use Rattle.cet_exec.specs.Written.{file_symbol}
use Rattle.cet_exec.proofs.Locals.{symbols-more}
use Rattle.cet_exec.proofs.tables.put_symbols.Goals as goal

pub loop-symbol-preserved : goal.loop-symbol-preserved
loop-symbol-preserved c =
    let segments = c.args.segments.now in
    let xs = c.args.symbols.now in
    let i = c.loop-symbol.symbol-index in
    let s = c.symbol-item.result in
    let old = c.args.names.now.items in
    let at = length old in
    let ys = map (file_symbol segments) (take i xs) in
    let y = file_symbol segments s in
    let more = symbols-more segments xs i s c.loop-symbol-test.true c.symbol-item.is in
    let here = c.loop-symbol.invariant in
    let place : length c.loop-symbol.names.items ≡ at + length (names_of ys) = ap length here.names ∙ length-append old (names_of ys) in
    record {
      table =
          c.in_ok-put_symbol.ensures.table
          ∙ ap (λ n. c.loop-symbol.table.items ++ symbol_bytes n y) place
          ∙ ap (λ r. r ++ symbol_bytes (at + length (names_of ys)) y) here.table
          ∙ append_assoc c.args.table.now.items (symbol_entries at ys) (symbol_bytes (at + length (names_of ys)) y)
          ∙ ap (λ r. c.args.table.now.items ++ r) (sym (symbol_entries-push at ys y) ∙ ap (symbol_entries at) (sym more));
      names =
          c.in_ok-put_symbol.ensures.names
          ∙ ap (λ r. r ++ ended s.name) here.names
          ∙ append_assoc old (names_of ys) (ended s.name)
          ∙ ap (λ r. old ++ r) (sym (names_of-push ys y) ∙ ap names_of (sym more));
      fit = All-more SymbolFits xs i s c.loop-symbol-test.true here.fit (subst SymbolFits c.symbol-item.is c.in_ok-put_symbol.ensures.fits);
    }
