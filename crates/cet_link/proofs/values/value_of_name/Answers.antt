use Rattle.std.proofs.Common.{◌∙◌}
use Rattle.cet_link.proofs.ValueLemmas.{value_of_name-is}
use Rattle.cet_link.proofs.values.value_of_name.Goals as goal

pub returns-in-Some : goal.returns-in-Some
returns-in-Some c = λ inputs note known.
    c.own_value.ensures inputs note known.placed ∙ value_of_name-is inputs note c.args.name.now _ (c.in-Some.ensures ∙ known.named.definitions c.args.name.now)

pub returns-in-None : goal.returns-in-None
returns-in-None c = λ inputs note known. value_of_name-is inputs note c.args.name.now _ (c.in-None.ensures ∙ known.named.definitions c.args.name.now)
