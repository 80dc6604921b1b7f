use Rattle.std.proofs.Common.{rules, ◌≡◌, Some, ap, ◌∙◌}
use Rattle.std.specs.Prelude.{◌↔◌, IsTrue}
use Rattle.std.specs.Option.{is_some}
use Rattle.cet_machine.specs.declared.memory.Kind.TheVariants.{Write}
use Rattle.cet_machine.specs.Memory.{is_write, bytes_at, held}
use Rattle.cet_process.specs.State.{State}
use Rattle.cet_kernel.proofs.Accesses.{writable_is}
use Rattle.cet_kernel.proofs.process.Process.is_writable.Goals as goal

pub returns : goal.returns
returns c =
    let iff : IsTrue c.eq.result ↔ (held c.self.inside.memory c.args.a c.args.n ≡ Some Write) =
    (λ writes. search rules, λ there. rw (c.held.ensures ∙ there) at c.eq.ensures) in
    writable_is c.eq.result c.self.inside.memory c.args.a c.args.n iff
    ∙ ap (λ (S : State). is_some (bytes_at is_write S.memory c.args.a c.args.n)) c.self.view_is
