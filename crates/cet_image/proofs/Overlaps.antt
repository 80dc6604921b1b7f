-- Segments that share a byte.
use Rattle.std.proofs.Common.{◌≡◌, ◌+◌, ◌<◌, ◌↔◌, Bool, IsTrue, max, min, Decides, arith}
use Rattle.std.proofs.lemmas.Bool.Decides.{Decides-ltb, Decides-like, same_from_decides}
use Rattle.cet_base.specs.declared.spans.Span.{Span}
use Rattle.cet_base.specs.Span.{Meets}
use Rattle.cet_image.specs.Faults.{share_byte}

later_start : (s t : Span) → max s.start t.start < min (s.start + s.len) (t.start + t.len) → Meets s t
later_start s t h = (max s.start t.start, (omega arith, omega arith), (omega arith, omega arith))

both_hold : (s t : Span) → Meets s t → max s.start t.start < min (s.start + s.len) (t.start + t.len)
both_hold s t m = omega (arith, m.1.0, m.1.1, m.2.0, m.2.1)

-- the test finds an address that lies in both
pub shared_address : (s t : Span) → Decides (share_byte s t) (Meets s t)
shared_address s t = Decides-like (share_byte s t) (later_start s t) (both_hold s t) (Decides-ltb (max s.start t.start) (min (s.start + s.len) (t.start + t.len)))

pub share_byte_by_meets : (s t : Span) (b : Bool) → IsTrue b ↔ Meets s t → b ≡ share_byte s t
share_byte_by_meets s t b h = same_from_decides b (share_byte s t) h (shared_address s t)
