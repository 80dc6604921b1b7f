use Rattle.std.proofs.Common.{refl, sym, ◌∙◌}
use Rattle.cet_mem.proofs.Accesses.{at_holder, none_there, code_refused, code_of_other_kind, code_done}
use Rattle.cet_mem.proofs.memory.Memory.code.Goals as goal

pub returns-in_default : goal.returns-in_default
returns-in_default c =
    sym (code_refused c.args.self.now c.args.a (none_there c.as_slice.result.now c.args.self.now c.args.a 1 1 (c.as_slice.ensures.value ∙ c.self.view_is) refl c.in_default.ensures))

pub returns-then-not-is_code : goal.returns-then-not-is_code
returns-then-not-is_code c =
    let at = at_holder c.as_slice.result.now c.self.inside.blocks.items c.args.self.now c.args.a 1 1 c.in-Some.i c.index-block.result.now
    (c.as_slice.ensures.value ∙ c.self.view_is) c.self.view_is refl c.in-Some.ensures c.index-block.ensures in
    sym (code_of_other_kind c.args.self.now c.args.a c.index-block.result.now at (sym c.is_code.ensures ∙ c.if-not-is_code.true))

pub bytes_from-requires : goal.bytes_from-requires
bytes_from-requires c =
    (at_holder c.as_slice.result.now c.self.inside.blocks.items c.args.self.now c.args.a 1 1 c.in-Some.i c.index-block.result.now
    (c.as_slice.ensures.value ∙ c.self.view_is) c.self.view_is refl c.in-Some.ensures c.index-block.ensures).inside

pub returns : goal.returns
returns c =
    let at = at_holder c.as_slice.result.now c.self.inside.blocks.items c.args.self.now c.args.a 1 1 c.in-Some.i c.index-block.result.now
    (c.as_slice.ensures.value ∙ c.self.view_is) c.self.view_is refl c.in-Some.ensures c.index-block.ensures in
    c.bytes_from.ensures ∙ sym (code_done c.args.self.now c.args.a c.index-block.result.now at (sym c.is_code.ensures ∙ c.if-not-is_code.false))
