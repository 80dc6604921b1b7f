use Rattle.std.proofs.Common.{◌≡◌, map, ap, ◌∙◌}
use Rattle.cet_link.specs.Inputs.{symbols}
use Rattle.cet_link.specs.Linked.{definitions}
use Rattle.cet_link.specs.Known.{met_of}
use Rattle.cet_link.proofs.KeepLemmas.{definitions-listed, kept_symbols-all}
use Rattle.cet_link.proofs.output.kept_symbols.Goals as goal

pub returns : goal.returns
returns c =
    let all = symbols c.args.inputs.now in
    let listed : map met_of c.deref.result.now ≡ definitions all = ap (map met_of) c.deref.ensures.value ∙ c.in_ok-definitions.ensures ∙ definitions-listed all c.args.names.now c.requires.names in
    kept_symbols-all all c.in_ok-kept.kept.items c.keep_all.new.kept.items c.in_ok-kept.ensures (rw listed at c.in_ok-keep_all.ensures)
