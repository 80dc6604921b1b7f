use Rattle.std.proofs.Common.{Err, ap, sym, ◌∙◌, arith}
use Rattle.cet_machine.specs.Memory.{legal}
use Rattle.cet_process.specs.State.{State}
use Rattle.cet_kernel.proofs.Accesses.{legal_parts}
use Rattle.cet_kernel.proofs.Mapped.{legal_if_mapped, legal_if_short}
use Rattle.cet_kernel.proofs.process.Process.map.Goals as goal

pub overflow_add-at : goal.overflow_add-at
overflow_add-at c =
    let l = legal_parts c.self.inside.memory c.args.at c.args.len (legal_if_mapped _ c.map.result _ c.map.ensures.illegal c.in-Ok.is) in
    omega (arith, l.ends)

pub overflow_add-at-in-Ok : goal.overflow_add-at-in-Ok
overflow_add-at-in-Ok c =
    let l = legal_parts c.self.inside.memory c.args.at c.args.len (legal_if_mapped _ c.map.result _ c.map.ensures.illegal c.in-Ok.is) in
    omega (arith, l.ends)

pub returns-in-Ok-clause-legal : goal.returns-in-Ok-clause-legal
returns-in-Ok-clause-legal c =
    sym (legal_if_mapped _ c.map.result _ c.map.ensures.illegal c.in-Ok.is) ∙ ap (λ (S : State). legal S.memory c.args.at c.args.len) c.self.view_is

pub returns-in-Ok-clause-end : goal.returns-in-Ok-clause-end
returns-in-Ok-clause-end c =
    λ mapped. (legal_parts c.self.inside.memory c.args.at c.args.len (legal_if_mapped _ c.map.result _ c.map.ensures.illegal c.in-Ok.is)).ends

pub returns-in-Ok-clause-aligned : goal.returns-in-Ok-clause-aligned
returns-in-Ok-clause-aligned c =
    λ mapped. (legal_parts c.self.inside.memory c.args.at c.args.len (legal_if_mapped _ c.map.result _ c.map.ensures.illegal c.in-Ok.is)).aligned

pub returns-in-Err-NoMemory-clause-maps : goal.returns-in-Err-NoMemory-clause-maps
returns-in-Err-NoMemory-clause-maps c =
    ap (λ (S : State). legal S.memory c.args.at c.args.len) (sym c.self.view_is)
    ∙ legal_if_short _ c.map.result c.map.ensures.illegal (c.in-Err-NoMemory.is ∙ ap Err c.in-Err-NoMemory.field-0-is)
