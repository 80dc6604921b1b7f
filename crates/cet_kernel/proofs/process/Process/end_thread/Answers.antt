use Rattle.cet_kernel.proofs.States.{bit_within, sound_less, last_ends}
use Rattle.cet_kernel.proofs.process.Process.end_thread.Goals as goal

pub overflow_sub-self : goal.overflow_sub-self
overflow_sub-self c = bit_within c.self.inside c.args.thread c.args.self.now c.self.invariant c.self.view_is c.requires

pub invariant_of-self : goal.invariant_of-self
invariant_of-self c = sound_less c.self.inside c.args.thread c.args.self.now c.self.invariant c.self.view_is c.requires

pub returns-clause-last : goal.returns-clause-last
returns-clause-last c = last_ends c.self.inside c.args.thread c.args.self.now c.self.invariant c.self.view_is c.requires
