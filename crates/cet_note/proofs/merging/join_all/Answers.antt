use Rattle.std.proofs.Common.{◌≡◌, ◌+◌, ◌∷◌, ◌++◌, [], take, sym, ap, subst, ◌∙◌}
use Rattle.std.proofs.lemmas.List.{take_more}
use Rattle.cet_note.specs.Merged.{IsMergedOf}
use Rattle.cet_note.proofs.MergeLemmas.{IsMergedOf-one, IsMergedOf-push}
use Rattle.cet_note.proofs.merging.join_all.Goals as goal

pub loop-input-init : goal.loop-input-init
loop-input-init c = IsMergedOf-one c.args.first.now c.in_ok-merged.merged c.in_ok-merged.ensures.joins c.in_ok-merged.ensures.note

pub loop-input-preserved : goal.loop-input-preserved
loop-input-preserved c =
    let i = c.loop-input.input-index in
    let others = c.args.others.now in
    let input = c.input-item.result in
    let front = c.args.first.now ∷ take i others in
    let more : take (i + 1) others ≡ take i others ++ input ∷ [] = take_more others i input c.loop-input-test.true ∙ ap (λ x. take i others ++ x ∷ []) (sym c.input-item.is) in
    let merged = IsMergedOf-push front input c.loop-input.merged c.in_ok-merged-2.merged c.loop-input.invariant c.in_ok-merged-2.ensures.joins c.in_ok-merged-2.ensures.note in
    subst (λ notes. IsMergedOf (c.args.first.now ∷ notes) c.in_ok-merged-2.merged) (sym more) merged
