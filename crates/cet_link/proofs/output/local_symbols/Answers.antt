use Rattle.std.proofs.Common.{[], map, filter, ap, sym, ◌∙◌}
use Rattle.cet_link.specs.Linked.{is_kept, locals}
use Rattle.cet_link.specs.Known.{met_of}
use Rattle.cet_link.proofs.ScanLemmas.{symbols-none}
use Rattle.cet_link.proofs.KeepLemmas.{Keeps-input}
use Rattle.cet_link.proofs.output.local_symbols.Goals as goal

pub loop-number-init : goal.loop-number-init
loop-number-init c = ap (map met_of) c.new-kept.ensures.items ∙ ap (λ ms. filter (λ m. is_kept m.symbol) (locals ms)) (sym symbols-none)

pub loop-number-preserved : goal.loop-number-preserved
loop-number-preserved c =
    Keeps-input [] c.loop-number.kept.items c.keep_locals.new.kept.items c.args.inputs.now c.loop-number.number c.index-inputs-number.result c.loop-number-test.true c.index-inputs-number.is c.loop-number.invariant
    (rw c.as_slice.ensures at c.in_ok-keep_locals.ensures)
