use Rattle.std.proofs.Common.{Some, take, refl, sym, ap, subst, ◌∙◌}
use Rattle.cet_machine.specs.Memory.{with_bytes}
use Rattle.cet_mem.specs.Order.{AreInOrder}
use Rattle.cet_mem.proofs.Accesses.{at_holder, none_there, shadow_store_refused, shadow_store_of_other_kind, shadow_store_done, in_order_written, word_bytes}
use Rattle.cet_mem.proofs.memory.Memory.shadow_store.Goals as goal

pub returns-in_default-clause-err : goal.returns-in_default-clause-err
returns-in_default-clause-err c = (
  refl,
  shadow_store_refused c.args.self.now c.args.a c.args.v
      (none_there c.as_slice.result.now c.args.self.now c.args.a 8 8 (c.as_slice.ensures.value ∙ c.self.view_is) refl c.in_default.ensures),
)

pub returns-then-not-is_shadow-clause-err : goal.returns-then-not-is_shadow-clause-err
returns-then-not-is_shadow-clause-err c =
    let at = at_holder c.as_slice.result.now c.self.inside.blocks.items c.args.self.now c.args.a 8 8 c.in-Some.i c.index-block.result.now
    (c.as_slice.ensures.value ∙ c.self.view_is) c.self.view_is refl c.in-Some.ensures c.index-block.ensures in
    (refl, shadow_store_of_other_kind c.args.self.now c.args.a c.args.v c.index-block.result.now at (sym c.is_shadow.ensures ∙ c.if-not-is_shadow.true))

pub invariant_of-self : goal.invariant_of-self
invariant_of-self c = subst AreInOrder (sym c.write.ensures) (in_order_written c.self.inside.blocks.items c.args.a c.to_le_bytes-word.result c.self.invariant)

pub returns-clause-ok : goal.returns-clause-ok
returns-clause-ok c =
    let M = c.args.self.now in
    let word = c.to_le_bytes-word.ensures ∙ word_bytes c.args.v in
    let at = at_holder c.as_slice.result.now c.self.inside.blocks.items M c.args.a 8 8 c.in-Some.i c.index-block.result.now
    (c.as_slice.ensures.value ∙ c.self.view_is) c.self.view_is refl c.in-Some.ensures c.index-block.ensures in
    shadow_store_done M c.args.a c.args.v c.index-block.result.now at (sym c.is_shadow.ensures ∙ c.if-not-is_shadow.false)
    ∙ ap (λ new. Some (with_bytes M c.args.a new)) (sym word)
    ∙ ap (λ blocks. Some (with_bytes blocks c.args.a c.to_le_bytes-word.result)) (sym c.self.view_is)
    ∙ ap Some (sym c.write.ensures)
