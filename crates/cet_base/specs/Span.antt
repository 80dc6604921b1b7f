-- Spans of addresses. Every sum is exact: a span may end past the last address that 64 bits can name.
use Rattle.std.specs.Prelude.{ℕ, ◌+◌, ◌≤◌, ◌<◌}
use Rattle.cet_base.specs.declared.spans.Span.{Span}

-- the address a lies in s
abbrev pub LiesIn : ℕ → Span → Type 0
LiesIn a s = (s.start ≤ a) × (a < s.start + s.len)

-- s ends at or before the start of o
abbrev pub EndsBefore : Span → Span → Type 0
EndsBefore s o = s.start + s.len ≤ o.start

-- some address lies in both, so an empty span meets nothing
abbrev pub Meets : Span → Span → Type 0
Meets s o = (a : ℕ) × LiesIn a s × LiesIn a o

-- o starts and ends within s
abbrev pub Holds : Span → Span → Type 0
Holds s o = (s.start ≤ o.start) × (o.start + o.len ≤ s.start + s.len)
