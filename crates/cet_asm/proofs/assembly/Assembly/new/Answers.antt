use Rattle.std.proofs.Common.{ap, sym, ◌∙◌}
use Rattle.cet_asm.specs.Assembled.{State, section_size}
use Rattle.cet_asm.proofs.assembly.Assembly.new.Goals as goal

pub returns-clause-sized : goal.returns-clause-sized
returns-clause-sized c = λ section. ap (λ (s : State). s.sizes section) c.new-2.ensures ∙ ap (section_size section) (sym c.new.ensures.items)
