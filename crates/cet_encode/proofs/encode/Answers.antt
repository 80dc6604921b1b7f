use Rattle.std.proofs.Common.{ap, ◌∙◌}
use Rattle.std.specs.Option.{ok_or}
use Rattle.cet_encode.specs.declared.EncodeError.TheVariants.{NoForm}
use Rattle.cet_encode.proofs.Answers.{answer_decoded, answer_none}
use Rattle.cet_encode.proofs.encode.Goals as goal

pub returns-clause-none : goal.returns-clause-none
returns-clause-none c =
    answer_none c.canonical_is_form.ensures c.form_has_canonical.ensures c.args.insn NoForm c.ok_or.result
    (c.ok_or.ensures.value ∙ ap (λ o. ok_or o NoForm) c.canonical.ensures)

pub returns-clause-decoded : goal.returns-clause-decoded
returns-clause-decoded c =
    answer_decoded c.canonical_is_form.ensures c.form_is_decoded.ensures c.args.insn NoForm c.ok_or.result
    (c.ok_or.ensures.value ∙ ap (λ o. ok_or o NoForm) c.canonical.ensures)
