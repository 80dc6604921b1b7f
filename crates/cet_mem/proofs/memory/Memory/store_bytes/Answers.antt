use Rattle.std.proofs.Common.{Some, length, refl, sym, ap, subst, ◌∙◌}
use Rattle.cet_machine.specs.Memory.{is_write, with_bytes}
use Rattle.cet_machine.proofs.MemoryRegions.{stored_is, stored_none}
use Rattle.cet_mem.specs.Order.{AreInOrder}
use Rattle.cet_mem.proofs.Accesses.{at_holder, none_there, stored_refused, in_order_written}
use Rattle.cet_mem.proofs.memory.Memory.store_bytes.Goals as goal

pub returns-in_default-clause-err : goal.returns-in_default-clause-err
returns-in_default-clause-err c =
    let n = length c.args.bytes.now in (
      refl,
      stored_refused is_write c.args.self.now c.args.a c.args.bytes.now
          (none_there c.as_slice.result.now c.args.self.now c.args.a n n (c.as_slice.ensures.value ∙ c.self.view_is) refl c.in_default.ensures),
    )

pub returns-then-not-is_write-clause-err : goal.returns-then-not-is_write-clause-err
returns-then-not-is_write-clause-err c =
    let n = length c.args.bytes.now in
    let at = at_holder c.as_slice.result.now c.self.inside.blocks.items c.args.self.now c.args.a n n c.in-Some.i c.index-block.result.now
    (c.as_slice.ensures.value ∙ c.self.view_is) c.self.view_is refl c.in-Some.ensures c.index-block.ensures in
    (refl, stored_none is_write c.args.self.now c.args.a c.args.bytes.now c.index-block.result.now at.found (sym c.is_write.ensures ∙ c.if-not-is_write.true))

pub invariant_of-self : goal.invariant_of-self
invariant_of-self c = subst AreInOrder (sym c.write.ensures) (in_order_written c.self.inside.blocks.items c.args.a c.args.bytes.now c.self.invariant)

pub returns-clause-ok : goal.returns-clause-ok
returns-clause-ok c =
    let M = c.args.self.now in
    let n = length c.args.bytes.now in
    let at = at_holder c.as_slice.result.now c.self.inside.blocks.items M c.args.a n n c.in-Some.i c.index-block.result.now
    (c.as_slice.ensures.value ∙ c.self.view_is) c.self.view_is refl c.in-Some.ensures c.index-block.ensures in
    stored_is is_write M c.args.a c.args.bytes.now c.index-block.result.now at.found (sym c.is_write.ensures ∙ c.if-not-is_write.false)
    ∙ ap (λ blocks. Some (with_bytes blocks c.args.a c.args.bytes.now)) (sym c.self.view_is)
    ∙ ap Some (sym c.write.ensures)
