use Rattle.std.proofs.Common.{Some, length, refl, sym, ap, subst, ◌∙◌}
use Rattle.cet_machine.specs.Memory.{with_bytes}
use Rattle.cet_mem.specs.Order.{AreInOrder}
use Rattle.cet_mem.proofs.Accesses.{none_there, fill_refused, fill_done, found_there, in_order_written}
use Rattle.cet_mem.proofs.memory.Memory.fill.Goals as goal

pub returns-in_default-clause-err : goal.returns-in_default-clause-err
returns-in_default-clause-err c =
    let n = length c.args.bytes.now in (
      refl,
      fill_refused c.args.self.now c.args.a c.args.bytes.now
          (none_there c.as_slice.result.now c.args.self.now c.args.a n n (c.as_slice.ensures.value ∙ c.self.view_is) refl c.in_default.ensures),
    )

pub invariant_of-self : goal.invariant_of-self
invariant_of-self c = subst AreInOrder (sym c.write.ensures) (in_order_written c.self.inside.blocks.items c.args.a c.args.bytes.now c.self.invariant)

pub returns-clause-ok : goal.returns-clause-ok
returns-clause-ok c =
    let M = c.args.self.now in
    let new = c.args.bytes.now in
    let h = c.in-Some.ensures in
    fill_done M c.args.a new h.region (found_there c.as_slice.result.now M c.args.a (length new) (length new) c.in-Some.i (c.as_slice.ensures.value ∙ c.self.view_is) refl h)
    ∙ ap (λ blocks. Some (with_bytes blocks c.args.a new)) (sym c.self.view_is)
    ∙ ap Some (sym c.write.ensures)
