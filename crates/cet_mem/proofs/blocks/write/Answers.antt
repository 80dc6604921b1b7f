use Rattle.std.proofs.Common.{ap, sym, ◌∙◌, set}
use Rattle.std.proofs.lemmas.Option.{get_or_from_slice_get}
use Rattle.cet_machine.specs.Memory.{written}
use Rattle.cet_mem.proofs.Orders.{in_order_disjoint}
use Rattle.cet_mem.proofs.Holders.{with_bytes_at}
use Rattle.cet_mem.proofs.blocks.write.Goals as goal

pub returns : goal.returns
returns c =
    let blocks = c.args.blocks.now.items in
    let h = c.requires.holder in
    let same = c.index_mut-block.ensures.value ∙ get_or_from_slice_get blocks c.args.i h.region c.index_mut-block.result.now h.there in
    ap (set blocks c.args.i) (c.write.ensures ∙ ap (written c.args.a c.args.new.now) same)
    ∙ sym (with_bytes_at blocks c.args.a c.args.new.now c.args.i h.region (in_order_disjoint blocks c.requires.in_order) c.requires.some h.there h.holds_it)
