use Rattle.std.proofs.Common.{◌∙◌, sym, ap}
use Rattle.cet_link.specs.Known.{met_of}
use Rattle.cet_link.specs.Values.{value_of_name}
use Rattle.cet_link.proofs.ValueLemmas.{value-local, value-shared}
use Rattle.cet_link.proofs.values.value.Goals as goal

pub returns-then-is_local : goal.returns-then-is_local
returns-then-is_local c = λ inputs note known. c.own_value.ensures inputs note known.placed ∙ sym (value-local inputs note (met_of c.args.met) (sym c.if-is_local.ensures))

pub returns-else-is_local : goal.returns-else-is_local
returns-else-is_local c = λ inputs note known.
    c.value_of_name.ensures inputs note known ∙ ap (value_of_name inputs note) c.as_slice.ensures ∙ sym (value-shared inputs note (met_of c.args.met) (sym c.if-is_local.ensures))
