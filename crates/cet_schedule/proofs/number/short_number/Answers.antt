use Rattle.std.proofs.Common.{◌^◌, ◌∙◌, sym}
use Rattle.cet_schedule.proofs.Limits.{tried}
use Rattle.cet_schedule.proofs.number.short_number.Goals as goal

pub returns : goal.returns
returns c = c.ok.ensures.value ∙ tried c.try_from.result c.args.bytes.now (2 ^ 64) (2 ^ 32) c.in_ok-number.field-0 (sym c.in_ok-number.ensures) c.try_from.ensures
