use Rattle.std.proofs.Common.{◌||◌, ◌≤◌, Option, ℕ, is_some, length, ap, arith}
use Rattle.cet_asm.specs.Assembled.{global_names, is_among}
use Rattle.cet_asm.specs.Tables.{number_at}
use Rattle.cet_asm.proofs.Marked.{globals_more, globals_end}
use Rattle.cet_asm.proofs.names_used.globals.Goals as goal

pub loop-p-init : goal.loop-p-init
loop-p-init c = λ name. ap (λ (o : Option ℕ). is_some o || is_among name (global_names c.args.placed.now)) (c.new-table.ensures name)

pub loop-p-preserved : goal.loop-p-preserved
loop-p-preserved c = λ name.
    globals_more c.args.placed.now c.loop-p.p-index c.p-item.result name (is_some (number_at c.loop-p.table name)) (is_some (number_at c.add_global.new.table name)) (is_among name (global_names c.args.placed.now)) c.loop-p-test.true c.p-item.is (c.in_ok-add_global.ensures name) (c.loop-p.invariant name)

pub returns : goal.returns
returns c = λ name.
    let all : length c.args.placed.now ≤ c.loop-p.p-index = omega arith in
    globals_end c.args.placed.now c.loop-p.p-index name (is_some (number_at c.loop-p.table name)) (is_among name (global_names c.args.placed.now)) all (c.loop-p.invariant name)
