use Rattle.cet_asm.proofs.Made.{kept_all}
use Rattle.cet_asm.proofs.object.kept_of.Goals as goal

pub returns : goal.returns
returns c =
    kept_all c.args.placed.now c.args.defined.now c.args.sizes c.keeps.result c.keeps-2.result c.keeps-3.result c.requires.sizes c.requires.defined c.keeps.ensures c.keeps-2.ensures c.keeps-3.ensures
