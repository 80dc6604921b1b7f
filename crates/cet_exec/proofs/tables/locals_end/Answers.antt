use Rattle.std.proofs.Common.{◌∙◌, sym, arith}
use Rattle.cet_exec.proofs.Locals.{locals-local, locals-other}
use Rattle.cet_exec.proofs.tables.locals_end.Goals as goal
use Rattle.cet_exec.proofs.tables.locals_end.Goals.{then-is_local, else-is_local}

pub loop-i-preserved : goal.loop-i-preserved
loop-i-preserved c =
    let segments = c.args.exec.now.segments in
    let xs = c.as_slice-symbols.result.now in
    let s = c.index-symbols-i.result in
    elim c.if-is_local.branch [
      | then-is_local w ↦ record {
        value = w.end-is ∙ locals-local segments xs c.loop-i.i s c.loop-i-test.true c.index-symbols-i.is (sym c.is_local.ensures ∙ w.if-is_local.true);
        bound = omega arith;
      }
      | else-is_local w ↦ record {
        value = w.end-is ∙ c.loop-i.invariant.value ∙ locals-other segments xs c.loop-i.i s c.loop-i-test.true c.index-symbols-i.is (sym c.is_local.ensures ∙ w.if-is_local.false);
        bound = omega arith;
      }
    ]
