use Rattle.cet_image.proofs.SegmentBytes.{segment_by}
use Rattle.cet_image.proofs.contents.segment_at.Goals as goal

pub returns : goal.returns
returns c = segment_by c.args.image.now c.args.at c.find_segment.result c.find_segment.ensures
