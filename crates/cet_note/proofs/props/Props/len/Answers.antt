use Rattle.std.proofs.Common.{arith}
use Rattle.cet_note.proofs.Types.{few_properties}
use Rattle.cet_note.proofs.props.Props.len.Goals as goal

pub overflow_cast-result : goal.overflow_cast-result
overflow_cast-result c = omega (arith, few_properties c.self.inside.words.entries c.self.invariant, c.len.ensures.len)

pub returns-clause-few : goal.returns-clause-few
returns-clause-few c = omega (arith, few_properties c.self.inside.words.entries c.self.invariant, c.len.ensures.len)
