use Rattle.std.proofs.Common.{◌∷◌, [], subst}
use Rattle.cet_elf.specs.Layout.{part_with}
use Rattle.cet_exec.specs.Layout.{Adds}
use Rattle.cet_exec.proofs.Layouts.{Adds-both}
use Rattle.cet_exec.proofs.tables.add_table.Goals as goal

pub returns : goal.returns
returns c =
    let part = part_with c.args.name.now c.args.content.now c.args.fields in
    let section = subst (λ k. Adds c.put.new.self c.add.new.self [] [] (record { part = part; place = k } ∷ [])) c.in_ok-place.ensures.place (c.in_ok-add.ensures c.args.content.now) in
    Adds-both c.args.layout.now c.put.new.self c.add.new.self _ _ c.in_ok-place.ensures.adds section
