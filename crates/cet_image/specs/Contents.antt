-- The bytes of an image by their address.
use Rattle.std.specs.Prelude.{◌≡◌, ℕ, ◌+◌, ◌-◌, ◌<◌, ◌≤◌, ◌^◌, drop, length}
use Rattle.cet_rules.specs.declared.segment.Segment.{Segment}
use Rattle.cet_rules.specs.declared.image.Image.{Image}
use Rattle.cet_rules.specs.Image.{contents_of, bytes_from}

-- the segment that a lies in, whose bytes from a on are those of the image
pub record IsSegmentAt (image : Image) (a : ℕ) (s : Segment) : Type 0 where
  pub above : s.start ≤ a
  pub below : a < s.start + s.size
  pub bytes_fit : length s.bytes ≤ s.size
  pub in_range : s.start + s.size < 2 ^ 64
  pub bytes : bytes_from image.segments a ≡ drop (a - s.start) (contents_of s)
