use Rattle.std.proofs.Common.{sym, ap, ◌∙◌}
use Rattle.std.proofs.lemmas.Result.{err_from_is_err_and}
use Rattle.cet_syntax.specs.declared.lines.Item.TheVariants as read
use Rattle.cet_asm.proofs.ItemLemmas.{item-misread, item-unknown, item-long, item-wide, item-step, item-end, item-uses}
use Rattle.cet_asm.proofs.assembly.Assembly.read.Goals as goal

pub returns-in_err-statement-in-Body-clause-fault : goal.returns-in_err-statement-in-Body-clause-fault
returns-in_err-statement-in-Body-clause-fault c =
    let p = err_from_is_err_and c.from_residual.result c.from_residual.ensures.1 in
    let is = c.in-Body.is ∙ ap read.Body (sym c.as_bytes.ensures) in
    rw (p.1, p.2) (λ n. item-misread c.args.self.now c.args.item c.as_bytes.result.now c.in_err-statement-in-Body.field-0.0 is c.in_err-statement-in-Body.ensures.answer)

pub returns-in_err-table-in-Body-clause-fault : goal.returns-in_err-table-in-Body-clause-fault
returns-in_err-table-in-Body-clause-fault c =
    let p = err_from_is_err_and c.from_residual-in_err-table-in-Body.result c.from_residual-in_err-table-in-Body.ensures.1 in
    let is = c.in-Body.is ∙ ap read.Body (sym c.as_bytes.ensures) in
    rw (p.1, p.2) (λ n. item-unknown c.args.self.now c.args.item c.as_bytes.result.now c.in_ok-statement-in-Body.statement c.in_err-table-in-Body.field-0.0 is c.in_ok-statement-in-Body.ensures.answer c.in_err-table-in-Body.ensures.unknown c.in_err-table-in-Body.ensures.fault)

pub returns-in_err-end-in-Body-clause-fault : goal.returns-in_err-end-in-Body-clause-fault
returns-in_err-end-in-Body-clause-fault c =
    let p = err_from_is_err_and c.from_residual-in_err-end-in-Body.result c.from_residual-in_err-end-in-Body.ensures.1 in
    let is = c.in-Body.is ∙ ap read.Body (sym c.as_bytes.ensures) in
    rw (p.1, p.2) (λ n. item-long c.args.self.now c.args.item c.as_bytes.result.now c.in_ok-statement-in-Body.statement c.in_err-end-in-Body.field-0.0 c.offset-in-Body.result is c.in_ok-statement-in-Body.ensures.answer c.in_ok-table-in-Body.ensures.known c.offset-in-Body.ensures (c.in_err-end-in-Body.ensures n))

pub returns-in_err-push_uses-in-Body-clause-fault : goal.returns-in_err-push_uses-in-Body-clause-fault
returns-in_err-push_uses-in-Body-clause-fault c =
    let p = err_from_is_err_and c.from_residual-in_err-push_uses-in-Body.result c.from_residual-in_err-push_uses-in-Body.ensures.1 in
    let is = c.in-Body.is ∙ ap read.Body (sym c.as_bytes.ensures) in
    rw (p.1, p.2) (λ n. item-wide c.args.self.now c.args.item c.as_bytes.result.now c.in_ok-statement-in-Body.statement c.in_err-push_uses-in-Body.field-0.0 c.offset-in-Body.result c.in_ok-end-in-Body.end c.in_ok-table-in-Body.table c.spot-spot.result is c.in_ok-statement-in-Body.ensures.answer c.in_ok-table-in-Body.ensures.known c.offset-in-Body.ensures c.in_ok-end-in-Body.ensures c.in_ok-table-in-Body.ensures.value c.spot-spot.ensures (c.in_err-push_uses-in-Body.ensures n))

pub returns-in_ok-push_uses-in-Body-clause-ok : goal.returns-in_ok-push_uses-in-Body-clause-ok
returns-in_ok-push_uses-in-Body-clause-ok c =
    let is = c.in-Body.is ∙ ap read.Body (sym c.as_bytes.ensures) in
    record {
      step = item-step c.args.self.now c.args.item c.as_bytes.result.now c.in_ok-statement-in-Body.statement c.offset-in-Body.result c.in_ok-end-in-Body.end c.in_ok-table-in-Body.table c.spot-spot.result is c.in_ok-statement-in-Body.ensures.answer c.in_ok-table-in-Body.ensures.known c.offset-in-Body.ensures c.in_ok-end-in-Body.ensures c.in_ok-table-in-Body.ensures.value c.spot-spot.ensures c.in_ok-push_uses-in-Body.ensures.0;
      end = item-end c.args.self.now c.in_ok-statement-in-Body.statement c.offset-in-Body.result c.in_ok-end-in-Body.end c.offset-in-Body.ensures c.in_ok-end-in-Body.ensures;
      uses = item-uses c.args.self.now c.in_ok-statement-in-Body.statement c.in_ok-table-in-Body.table c.spot-spot.result c.new-uses.result.items c.push_uses.new.out.items c.in_ok-table-in-Body.ensures.value c.spot-spot.ensures c.new-uses.ensures.items c.in_ok-push_uses-in-Body.ensures.1;
    }
