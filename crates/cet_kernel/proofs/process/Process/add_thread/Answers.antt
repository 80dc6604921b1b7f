use Rattle.std.proofs.Common.{◌∙◌, arith}
use Rattle.cet_kernel.proofs.States.{is_room, bits_fit, sound_more, pushed}
use Rattle.cet_kernel.proofs.process.Process.add_thread.Goals as goal

pub overflow_add-self : goal.overflow_add-self
overflow_add-self c =
    let fits = bits_fit c.self.inside c.len.result c.self.invariant (is_room c.self.inside c.len.result c.args.self.now c.len.ensures c.self.view_is c.requires.few) in
    omega (arith, fits)

pub invariant_of-self : goal.invariant_of-self
invariant_of-self c =
    sound_more c.self.inside c.len.result c.args.regs.now c.push.new.self c.self.invariant (is_room c.self.inside c.len.result c.args.self.now c.len.ensures c.self.view_is c.requires.few) c.requires.aligned
    (c.push.ensures.items ∙ pushed c.push.result c.unwrap.result _ _ c.unwrap.ensures) (c.push.ensures.len ∙ pushed c.push.result c.unwrap.result _ _ c.unwrap.ensures) c.push.ensures.capacity
