use Rattle.cet_process.specs.Start.{stack_size, shadow_stack_size}
use Rattle.cet_kernel.proofs.Placed.{stack_placed, stacks_placed}
use Rattle.cet_kernel.proofs.loading.place_stacks.Goals as goal

pub returns-then-not-mode : goal.returns-then-not-mode
unfolding stack_size shadow_stack_size
returns-then-not-mode c = stack_placed c.args.mode c.args.memory.now c.place.new.self c.if-not-mode.true c.in-Ok.ensures.ok

pub returns : goal.returns
unfolding stack_size shadow_stack_size
returns c = stacks_placed c.args.mode c.args.memory.now c.place.new.self c.place-2.new.self c.if-not-mode.false c.in-Ok.ensures.ok c.in-Ok-place.ensures.ok
