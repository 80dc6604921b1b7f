use Rattle.cet_kernel.proofs.States.{sound_same}
use Rattle.cet_kernel.proofs.process.Process.set_regs.Goals as goal

pub invariant_of-self : goal.invariant_of-self
invariant_of-self c = sound_same c.self.inside c.args.thread c.args.regs.now c.args.self.now c.self.invariant c.self.view_is c.requires.lives c.requires.aligned
