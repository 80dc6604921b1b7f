use Rattle.cet_signal.proofs.Room.{pushed_aligned, aligned_result}
use Rattle.cet_signal.proofs.delivery.shadow_frame.Goals as goal

pub shadow_pushed-requires-2 : goal.shadow_pushed-requires-2
shadow_pushed-requires-2 c = pushed_aligned c.args.mem.now c.shadow_pushed.new.mem c.args.regs c.in_ok-with_ssp.with_ssp _ c.in_ok-with_ssp.ensures.does c.requires

pub returns-clause-aligned : goal.returns-clause-aligned
returns-clause-aligned c =
    aligned_result c.shadow_pushed.new.mem c.shadow_pushed-2.new.mem c.in_ok-with_ssp.with_ssp _ c.shadow_pushed-2.result c.shadow_pushed-2.ensures.does
    (pushed_aligned c.args.mem.now c.shadow_pushed.new.mem c.args.regs c.in_ok-with_ssp.with_ssp _ c.in_ok-with_ssp.ensures.does c.requires)
