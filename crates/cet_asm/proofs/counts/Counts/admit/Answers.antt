use Rattle.std.proofs.Common.{◌≡◌, ℕ, ◌+◌, ◌<◌, ◌≤◌, true, ◌&&◌, nat_lt, nat_le, sym, refl, map, ◌++◌, length, arith}
use Rattle.std.specs.Option.{option_map}
use Rattle.std.proofs.lemmas.Bool.Decides.{nat_tests}
use Rattle.cet_asm.specs.declared.counts.Counts.{Counts}
use Rattle.cet_asm.specs.declared.usage.Use.{Use}
use Rattle.cet_asm.specs.Placing.{short_names, MeetsNames}
use Rattle.cet_asm.proofs.Known.{MeetsNames-more}
use Rattle.cet_asm.proofs.Counted.{Admits-all, Refuses-many}
use Rattle.cet_asm.proofs.counts.Counts.admit.Goals as goal

few_names : (a b : ℕ) → true ≡ (nat_lt a 65536 && nat_le b 1000000) → a < 65536
few_names a b e = grind (arith, nat_tests)

few_relocations : (a b : ℕ) → true ≡ (nat_lt a 65536 && nat_le b 1000000) → b ≤ 1000000
few_relocations a b e = grind (arith, nat_tests)

pub returns-clause-ok : goal.returns-clause-ok
returns-clause-ok c =
    let old = c.args.self.now in
    let uses = c.args.uses.now in
    let new : Counts = record { names = c.meet_uses.new.names; relocations = old.relocations + length uses; noted = c.is_noted-noted.result } in
    let meets : MeetsNames c.define.new.names c.meet_uses.new.names (short_names c.args.step.now ++ map (λ (u : Use). u.name) uses) = MeetsNames-more _ c.meet_short.new.names _ _ _ c.in_ok-meet_short.ensures c.in_ok-meet_uses.ensures in
    let limits = c.if-not-keeps_limits.ensures.limits in
    Admits-all c.args.step.now (option_map (λ m. (m.0.now, m.1)) c.args.mark) uses old new c.define.new.names
    c.in_ok-define.ensures.ok c.in_ok-define.ensures.fresh meets (sym c.if-is_second.ensures)
    (rw (← c.count.ensures) (few_names _ _ limits)) refl (λ few. few_relocations _ _ limits) c.is_noted-noted.ensures

pub returns-then-not-keeps_limits-clause-fault : goal.returns-then-not-keeps_limits-clause-fault
returns-then-not-keeps_limits-clause-fault c = λ n.
    let old = c.args.self.now in
    let uses = c.args.uses.now in
    let meets : MeetsNames c.define.new.names c.meet_uses.new.names (short_names c.args.step.now ++ map (λ (u : Use). u.name) uses) = MeetsNames-more _ c.meet_short.new.names _ _ _ c.in_ok-meet_short.ensures c.in_ok-meet_uses.ensures in
    Refuses-many c.args.step.now (option_map (λ m. (m.0.now, m.1)) c.args.mark) uses old c.define.new.names c.meet_uses.new.names
    c.in_ok-define.ensures.ok c.in_ok-define.ensures.fresh meets (sym c.if-is_second.ensures)
    (λ few. rw (← c.count.ensures) (sym c.if-not-keeps_limits.ensures.limits))
