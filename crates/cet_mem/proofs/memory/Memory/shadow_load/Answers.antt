use Rattle.std.proofs.Common.{refl, sym, ap, ◌∙◌}
use Rattle.std.specs.Option.{ok_or}
use Rattle.cet_mem.proofs.Accesses.{at_holder, none_there, shadow_load_refused, shadow_load_of_other_kind, shadow_load_done}
use Rattle.cet_mem.proofs.memory.Memory.shadow_load.Goals as goal

pub returns-in_default : goal.returns-in_default
returns-in_default c =
    ap (λ o. ok_or o (record { addr = c.args.a })) (sym (shadow_load_refused c.args.self.now c.args.a
    (none_there c.as_slice.result.now c.args.self.now c.args.a 8 8 (c.as_slice.ensures.value ∙ c.self.view_is) refl c.in_default.ensures)))

pub returns-then-not-is_shadow : goal.returns-then-not-is_shadow
returns-then-not-is_shadow c =
    let at = at_holder c.as_slice.result.now c.self.inside.blocks.items c.args.self.now c.args.a 8 8 c.in-Some.i c.index-block.result.now
    (c.as_slice.ensures.value ∙ c.self.view_is) c.self.view_is refl c.in-Some.ensures c.index-block.ensures in
    ap (λ o. ok_or o (record { addr = c.args.a }))
    (sym (shadow_load_of_other_kind c.args.self.now c.args.a c.index-block.result.now at (sym c.is_shadow.ensures ∙ c.if-not-is_shadow.true)))

pub number-requires-clause-held : goal.number-requires-clause-held
number-requires-clause-held c =
    (at_holder c.as_slice.result.now c.self.inside.blocks.items c.args.self.now c.args.a 8 8 c.in-Some.i c.index-block.result.now
    (c.as_slice.ensures.value ∙ c.self.view_is) c.self.view_is refl c.in-Some.ensures c.index-block.ensures).inside

pub returns : goal.returns
returns c =
    let at = at_holder c.as_slice.result.now c.self.inside.blocks.items c.args.self.now c.args.a 8 8 c.in-Some.i c.index-block.result.now
    (c.as_slice.ensures.value ∙ c.self.view_is) c.self.view_is refl c.in-Some.ensures c.index-block.ensures in
    c.ok_or.ensures.value
    ∙ ap (λ o. ok_or o (record { addr = c.args.a }))
    (c.number.ensures.value ∙ sym (shadow_load_done c.args.self.now c.args.a c.index-block.result.now at (sym c.is_shadow.ensures ∙ c.if-not-is_shadow.false)))
