use Rattle.std.proofs.Common.{◌∙◌, sym, arith}
use Rattle.cet_elf.proofs.Locals.{locals_end-local, locals_end-other}
use Rattle.cet_elf.proofs.tables.locals_end.Goals as goal
use Rattle.cet_elf.proofs.tables.locals_end.Goals.{then-is_local, else-is_local}

pub loop-i-preserved : goal.loop-i-preserved
loop-i-preserved c =
    let xs = c.args.symbols.now in
    let s = c.index-symbols-i.result in
    elim c.if-is_local.branch [
      | then-is_local w ↦ record {
        value = w.end-is ∙ sym (locals_end-local xs c.loop-i.i s c.loop-i-test.true c.index-symbols-i.is (sym c.is_local.ensures ∙ w.if-is_local.true));
        bound = omega arith;
      }
      | else-is_local w ↦ record {
        value = w.end-is ∙ c.loop-i.invariant.value ∙ sym (locals_end-other xs c.loop-i.i s c.loop-i-test.true c.index-symbols-i.is (sym c.is_local.ensures ∙ w.if-is_local.false));
        bound = omega arith;
      }
    ]
