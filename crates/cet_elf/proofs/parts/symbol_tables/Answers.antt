use Rattle.std.proofs.Common.{◌∙◌, ◌≡◌, ◌++◌, ◌-◌, ◌∷◌, [], ap, replicate, length, drop, take, subst, All}
use Rattle.std.specs.Vec.{vec_len}
use Rattle.std.proofs.lemmas.List.{take_rest}
use Rattle.cet_elf.specs.Regular.{SymbolFits}
use Rattle.cet_elf.specs.Written.{symbol_entries}
use Rattle.cet_elf.proofs.parts.symbol_tables.Goals as goal

pub returns-clause-table : goal.returns-clause-table
returns-clause-table c =
    let symbols = c.args.symbols.now in
    let rest = take (length symbols - 1) (drop 1 symbols) in
    let one : vec_len c.put-2.new.out ≡ 1 = c.put-2.new.out.ok.0 ∙ ap length c.in_ok-put-2.ensures.bytes ∙ ap (λ r. length (r ++ 0 ∷ [])) c.new-names.ensures.items in
    let first : c.put.new.out.items ≡ replicate 24 0 = c.in_ok-put.ensures.bytes ∙ ap (λ r. r ++ replicate 24 0) c.new-table.ensures.items in
    c.in_ok-put_symbols.ensures.table
    ∙ ap (λ t. t ++ symbol_entries (vec_len c.put-2.new.out) rest) first
    ∙ ap (λ n. replicate 24 0 ++ symbol_entries n rest) one
    ∙ ap (λ s. replicate 24 0 ++ symbol_entries 1 s) (take_rest symbols 1)

pub returns-clause-fit : goal.returns-clause-fit
returns-clause-fit c = subst (All SymbolFits) (take_rest c.args.symbols.now 1) c.in_ok-put_symbols.ensures.fit
