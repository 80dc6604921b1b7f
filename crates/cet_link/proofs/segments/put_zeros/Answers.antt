use Rattle.std.proofs.Common.{◌++◌, ◌∙◌, ap}
use Rattle.std.proofs.lemmas.List.{take-replicate}
use Rattle.cet_link.proofs.segments.put_zeros.Goals as goal

pub returns-clause-bytes : goal.returns-clause-bytes
returns-clause-bytes c = c.in_ok-put.ensures.bytes ∙ ap (λ r. c.args.out.now.items ++ r) (take-replicate c.args.count 4096 0 c.requires)
