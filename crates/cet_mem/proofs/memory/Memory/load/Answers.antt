use Rattle.std.proofs.Common.{sym, ap, ◌∙◌}
use Rattle.std.specs.Option.{ok_or}
use Rattle.cet_mem.proofs.Accesses.{at_holder, none_there, load_refused, load_done}
use Rattle.cet_mem.proofs.memory.Memory.load.Goals as goal

pub returns-in_default-clause-value : goal.returns-in_default-clause-value
returns-in_default-clause-value c =
    let of_view = c.as_slice.ensures.value ∙ c.self.view_is in
    ap (λ o. ok_or o (record { addr = c.args.a })) (sym (load_refused c.args.self.now c.args.a c.args.n
    (none_there c.as_slice.result.now c.args.self.now c.args.a c.from.result c.args.n of_view c.from.ensures c.in_default.ensures)))

pub number-requires-clause-held : goal.number-requires-clause-held
number-requires-clause-held c =
    (at_holder c.as_slice.result.now c.self.inside.blocks.items c.args.self.now c.args.a c.from.result c.args.n c.in-Some.i c.index-block.result.now
    (c.as_slice.ensures.value ∙ c.self.view_is) c.self.view_is c.from.ensures c.in-Some.ensures c.index-block.ensures).inside

pub returns-clause-value : goal.returns-clause-value
returns-clause-value c =
    let at = at_holder c.as_slice.result.now c.self.inside.blocks.items c.args.self.now c.args.a c.from.result c.args.n c.in-Some.i c.index-block.result.now
    (c.as_slice.ensures.value ∙ c.self.view_is) c.self.view_is c.from.ensures c.in-Some.ensures c.index-block.ensures in
    c.ok_or.ensures.value ∙ ap (λ o. ok_or o (record { addr = c.args.a })) (c.number.ensures.value ∙ sym (load_done c.args.self.now c.args.a c.args.n c.index-block.result.now at))
