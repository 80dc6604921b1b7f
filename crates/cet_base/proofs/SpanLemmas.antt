-- Spans that meet.
use Rattle.std.proofs.Common.{◌+◌, ◌<◌, ◌≤◌, arith}
use Rattle.cet_base.specs.declared.spans.Span.{Span}
use Rattle.cet_base.specs.Span.{Meets}

-- the later start of two spans lies in both, where that span is not empty and the other one does not end before
pub meets_at_second : (s o : Span) → s.start ≤ o.start → 0 < o.len → o.start < s.start + s.len → Meets s o
meets_at_second s o order some_o within = (o.start, (omega arith, omega arith), (omega arith, omega arith))

pub meets_at_first : (s o : Span) → o.start ≤ s.start → 0 < s.len → s.start < o.start + o.len → Meets s o
meets_at_first s o order some_s within = (s.start, (omega arith, omega arith), (omega arith, omega arith))
