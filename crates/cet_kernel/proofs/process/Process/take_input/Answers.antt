use Rattle.std.proofs.Common.{◌+◌, ap, ◌∙◌}
use Rattle.cet_kernel.specs.Inside.{state_of}
use Rattle.cet_kernel.specs.declared.process.Process.TheInside.{Inside}
use Rattle.cet_kernel.proofs.States.{taken_some, taken_none}
use Rattle.cet_kernel.proofs.process.Process.take_input.Goals.{then-count-gt0, else-count-gt0}
use Rattle.cet_kernel.proofs.process.Process.take_input.Goals as goal

pub returns : goal.returns
returns c = elim c.if-count-gt0.branch [
  | then-count-gt0 w ↦
      ap (λ (p : Inside). (state_of (record p { read = p.read + c.min-count.result }), c.min-count.result)) w.self-inside-is
      ∙ taken_some c.self.inside c.args.self.now c.args.a c.args.most c.min-count.result c.as_slice.result.now w.store_bytes-stored.new.self w.store_bytes-stored.result c.self.view_is c.as_slice.ensures.value
      c.min-count.ensures w.store_bytes-stored.ensures.ok w.store_bytes-stored.ensures.err w.store_bytes-stored.ensures.unchanged
  | else-count-gt0 w ↦
      ap (λ (p : Inside). (state_of (record p { read = p.read + c.min-count.result }), c.min-count.result)) w.self-inside-is
      ∙ taken_none c.self.inside c.args.self.now c.args.a c.args.most c.min-count.result c.as_slice.result.now c.self.view_is c.as_slice.ensures.value c.min-count.ensures w.if-count-gt0.false
]
