use Rattle.std.proofs.Common.{rules, ◌≡◌, ℕ, true, false, Some, sym, ap, subst, ◌∙◌}
use Rattle.cet_isa.specs.declared.fault.Fault.TheVariants.{Page}
use Rattle.cet_machine.specs.Memory.{held}
use Rattle.cet_machine.specs.Signal.{frame_address}
use Rattle.cet_machine.specs.declared.memory.Kind.TheVariants.{Write, Shadow}
use Rattle.std.proofs.lemmas.Bool.{not-false}
use Rattle.cet_signal.specs.Room.{frame_at, first_word, IsRefused}
use Rattle.cet_signal.proofs.Room.{refused_by_frame, refused_by_first, refused_by_second}
use Rattle.cet_signal.proofs.delivery.find_room.Goals as goal

pub returns-then-ne-clause-refused : goal.returns-then-ne-clause-refused
returns-then-ne-clause-refused c =
    let at = c.frame_address-a.ensures ∙ ap frame_address c.value.ensures in
    subst (λ (a : ℕ). IsRefused c.args.mode c.args.mem.now c.args.regs.now (Page a)) (sym at)
    (refused_by_frame c.args.mode c.args.mem.now c.args.regs.now (search rules) (λ h.
    let there = c.held.ensures ∙ ap (λ (a : ℕ). held c.args.mem.now a 208) at ∙ h in
    let clash : true ≡ false = rw there at c.if-ne.ensures in
    absurd (cc)))

pub returns-then-ne-2-clause-refused : goal.returns-then-ne-2-clause-refused
returns-then-ne-2-clause-refused c =
    let on_data : held c.args.mem.now (frame_at c.args.regs.now) 208 ≡ Some Write = search rules in
    refused_by_first c.args.mode c.args.mem.now c.args.regs.now (search rules) (not-false c.args.mode.shstk c.if-not-mode.false) on_data (λ h.
    let there = c.held-2.ensures ∙ h in
    let clash : true ≡ false = rw there at c.if-ne-2.ensures in
    absurd (cc))

pub returns-then-ne-3-clause-refused : goal.returns-then-ne-3-clause-refused
returns-then-ne-3-clause-refused c =
    let on_data : held c.args.mem.now (frame_at c.args.regs.now) 208 ≡ Some Write = search rules in
    let on_shadow : held c.args.mem.now (first_word c.args.regs.now) 8 ≡ Some Shadow = search rules in
    refused_by_second c.args.mode c.args.mem.now c.args.regs.now (search rules) (not-false c.args.mode.shstk c.if-not-mode.false) on_data on_shadow (λ h.
    let there = c.held-3.ensures ∙ h in
    let clash : true ≡ false = rw there at c.if-ne-3.ensures in
    absurd (cc))
