use Rattle.std.proofs.Common.{◌≡◌, ◌+◌, [], ◌∷◌, ◌++◌, take, map, sym, ap, ◌∙◌}
use Rattle.std.proofs.lemmas.List.{take_more, map-append}
use Rattle.cet_asm.specs.declared.usage.Use.{Use}
use Rattle.cet_asm.proofs.Known.{MeetsNames-none, MeetsNames-more}
use Rattle.cet_asm.proofs.counts.meet_uses.Goals as goal

pub loop-field-init : goal.loop-field-init
loop-field-init c = MeetsNames-none c.args.names.now

pub loop-field-preserved : goal.loop-field-preserved
loop-field-preserved c =
    let i = c.loop-field.field-index in
    let us = c.args.uses.now in
    let field = c.field-item.result in
    let more : take (i + 1) us ≡ take i us ++ field ∷ [] = take_more us i field c.loop-field-test.true ∙ ap (λ u. take i us ++ u ∷ []) (sym c.field-item.is) in
    let names : map (λ (u : Use). u.name) (take (i + 1) us) ≡ map (λ (u : Use). u.name) (take i us) ++ field.name ∷ [] = ap (map (λ (u : Use). u.name)) more ∙ map-append (λ (u : Use). u.name) (take i us) (field ∷ []) in
    rw names (MeetsNames-more c.args.names.now c.loop-field.names c.meet.new.self (map (λ (u : Use). u.name) (take i us)) (field.name ∷ []) c.loop-field.invariant (rw c.as_bytes.ensures at c.in_ok-meet.ensures))
