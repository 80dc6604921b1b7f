use Rattle.cet_image.proofs.Overlaps.{share_byte_by_meets}
use Rattle.cet_image.proofs.layout.share_byte.Goals as goal

pub returns : goal.returns
returns c = share_byte_by_meets c.args.s c.args.t c.meets.result c.meets.ensures
