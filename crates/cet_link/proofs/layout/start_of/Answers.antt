use Rattle.std.proofs.Common.{arith}
use Rattle.cet_link.proofs.LayoutLemmas.{IsAlignment-bounds}
use Rattle.cet_link.proofs.layout.start_of.Goals as goal

pub returns-clause-high : goal.returns-clause-high
returns-clause-high c = let b = IsAlignment-bounds c.args.section.now.align c.requires.align in omega arith
