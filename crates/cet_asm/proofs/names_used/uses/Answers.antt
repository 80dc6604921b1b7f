use Rattle.std.proofs.Common.{List, ◌++◌, ap, sym, ◌∙◌}
use Rattle.cet_asm.specs.declared.usage.Use.{Use}
use Rattle.cet_asm.specs.Placing.{statement_uses}
use Rattle.cet_asm.proofs.UseLemmas.{uses-of_table}
use Rattle.cet_asm.proofs.names_used.uses.Goals as goal

pub returns-in-Ok : goal.returns-in-Ok
returns-in-Ok c = λ targets table.
    let found = statement_uses c.args.table c.args.spot.now c.args.statement.now in
    c.in-Ok.ensures.1 ∙ (ap (λ (l : List Use). l ++ found) c.new-out.ensures.items ∙ sym (uses-of_table targets c.args.spot.now c.args.statement.now c.args.table table))
