use Rattle.std.proofs.Common.{◌≡◌, true, false, Some, None, sym, ◌∙◌}
use Rattle.cet_machine.proofs.MemoryPlace.{legal_is_placed}
use Rattle.cet_mem.proofs.memory.Memory.map.Goals as goal

pub returns-clause-illegal : goal.returns-clause-illegal
returns-clause-illegal c =
    let maps = sym c.legal.ensures ∙ c.if-not-legal.false in
    let placed = legal_is_placed c.args.self.now c.args.at c.args.len c.args.kind maps in (
      (λ refused. let clash : Some placed.0 ≡ None = sym placed.1 ∙ c.place.ensures.illegal.0 refused in absurd (cc)),
      (λ other. let clash : true ≡ false = sym maps ∙ other in absurd (cc)),
    )
