use Rattle.cet_schedule.proofs.Counts.{three_are_not_two}
use Rattle.cet_schedule.proofs.fields.two_fields.Goals as goal

pub returns-in-Some : goal.returns-in-Some
returns-in-Some c =
    three_are_not_two _ c.in_ok-first.first.now c.in-Some.field-0.0.now 32 c.in_ok-first.second.now c.in-Some.field-0.1.now c.in_ok-first.ensures.parts c.in-Some.ensures.parts
