use Rattle.std.proofs.Common.{ap, ◌∙◌}
use Rattle.cet_schedule.specs.Fields.{parts, three_of}
use Rattle.cet_schedule.proofs.Counts.{three}
use Rattle.cet_schedule.proofs.fields.three_fields.Goals as goal

pub returns : goal.returns
returns c =
    ap three_of c.in_ok-first.ensures.parts ∙ three c.in_ok-first.first.now c.in_ok-second.second.now c.in_ok-second.third.now (parts 32 c.in_ok-first.others.now) c.in_ok-second.ensures
