use Rattle.std.proofs.Common.{Some, take, refl, sym, ap, subst, ◌∙◌}
use Rattle.cet_machine.specs.Memory.{with_bytes}
use Rattle.cet_mem.specs.Order.{AreInOrder}
use Rattle.cet_mem.proofs.Accesses.{at_holder, none_there, store_refused, store_of_other_kind, store_done, in_order_written, low_of_le_bytes, width_bounds}
use Rattle.cet_mem.proofs.memory.Memory.store.Goals as goal

pub returns-in_default-clause-err : goal.returns-in_default-clause-err
returns-in_default-clause-err c = (
  refl,
  store_refused c.args.self.now c.args.a c.args.n c.args.v
      (none_there c.as_slice.result.now c.args.self.now c.args.a c.from.result c.args.n (c.as_slice.ensures.value ∙ c.self.view_is) c.from.ensures c.in_default.ensures),
)

pub returns-then-not-is_write-clause-err : goal.returns-then-not-is_write-clause-err
returns-then-not-is_write-clause-err c =
    let at = at_holder c.as_slice.result.now c.self.inside.blocks.items c.args.self.now c.args.a c.from.result c.args.n c.in-Some.i c.index-block.result.now
    (c.as_slice.ensures.value ∙ c.self.view_is) c.self.view_is c.from.ensures c.in-Some.ensures c.index-block.ensures in
    (refl, store_of_other_kind c.args.self.now c.args.a c.args.n c.args.v c.index-block.result.now at (sym c.is_write.ensures ∙ c.if-not-is_write.true))

pub invariant_of-self : goal.invariant_of-self
invariant_of-self c = subst AreInOrder (sym c.write.ensures) (in_order_written c.self.inside.blocks.items c.args.a (take c.args.n c.to_le_bytes-low.result) c.self.invariant)

pub returns-clause-ok : goal.returns-clause-ok
returns-clause-ok c =
    let M = c.args.self.now in
    let low = ap (take c.args.n) c.to_le_bytes-low.ensures ∙ low_of_le_bytes c.args.n c.args.v (width_bounds c.args.n c.requires).1 in
    let at = at_holder c.as_slice.result.now c.self.inside.blocks.items M c.args.a c.from.result c.args.n c.in-Some.i c.index-block.result.now
    (c.as_slice.ensures.value ∙ c.self.view_is) c.self.view_is c.from.ensures c.in-Some.ensures c.index-block.ensures in
    store_done M c.args.a c.args.n c.args.v c.index-block.result.now at (sym c.is_write.ensures ∙ c.if-not-is_write.false)
    ∙ ap (λ new. Some (with_bytes M c.args.a new)) (sym low)
    ∙ ap (λ blocks. Some (with_bytes blocks c.args.a (take c.args.n c.to_le_bytes-low.result))) (sym c.self.view_is)
    ∙ ap Some (sym c.write.ensures)
