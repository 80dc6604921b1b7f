use Rattle.std.proofs.Common.{ap, sym, ◌∙◌}
use Rattle.cet_rules.specs.Piece.{covered_in}
use Rattle.cet_cert.proofs.Bytes.{covered_none, covered_some}
use Rattle.cet_cert.proofs.Cuts.{instruction_in_range}
use Rattle.cet_cert.proofs.fetch.instruction_at.Goals as goal

pub returns-in_err-insn-clause-value : goal.returns-in_err-insn-clause-value
returns-in_err-insn-clause-value c =
    c.from_residual.ensures ∙ sym (ap covered_in (sym c.decode_at.ensures) ∙ covered_none c.decode_at.result (sym c.ok.ensures.value ∙ c.in_err-insn.was {u = tt}))

pub returns-clause-value : goal.returns-clause-value
returns-clause-value c =
    sym (ap covered_in (sym c.decode_at.ensures) ∙ covered_some c.decode_at.result c.in_ok-insn.insn c.in_ok-insn.length c.in_ok-of.field-0 (sym c.ok.ensures.value ∙ c.in_ok-insn.was {u = tt}) (sym c.of.ensures ∙ c.in_ok-of.was {u = tt}))

pub returns-clause-fits : goal.returns-clause-fits
returns-clause-fits c = instruction_in_range c.args.image.now c.args.function.now c.args.at _ (returns-clause-value c)
