use Rattle.std.proofs.Common.{Some, refl, sym, ap, ◌∙◌}
use Rattle.cet_machine.proofs.MemoryReads.{held_is}
use Rattle.cet_mem.proofs.Accesses.{at_holder, none_there, held_none}
use Rattle.cet_mem.proofs.memory.Memory.held.Goals as goal

pub returns-in_err-i : goal.returns-in_err-i
returns-in_err-i c =
    c.from_residual.ensures
    ∙ sym (held_none c.args.self.now c.args.a c.args.len (none_there c.as_slice.result.now c.args.self.now c.args.a c.args.len c.args.len (c.as_slice.ensures.value ∙ c.self.view_is) refl c.in_err-i.ensures))

pub returns : goal.returns
returns c =
    let at = at_holder c.as_slice.result.now c.self.inside.blocks.items c.args.self.now c.args.a c.args.len c.args.len c.in_ok-i.i c.index-block.result.now
    (c.as_slice.ensures.value ∙ c.self.view_is) c.self.view_is refl c.in_ok-i.ensures c.index-block.ensures in
    ap Some c.kind.ensures ∙ sym (held_is c.args.self.now c.args.a c.args.len c.index-block.result.now at.found)
