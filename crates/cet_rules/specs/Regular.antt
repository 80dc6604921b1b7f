-- What every image keeps of its segments and functions.
use Rattle.std.specs.Prelude.{◌≡◌, ℕ, ◌+◌, ◌^◌, ◌<◌, ◌≤◌, List, length, slice_get, Some}
use Rattle.cet_rules.specs.declared.segment.Segment.{Segment}
use Rattle.cet_rules.specs.declared.function.Function.{Function}

-- Lengths are at most 16,777,216; addresses end at 2^47, where the user's half of a canonical address space ends (SDM
-- volume 1, 3.3.7.1).
pub record IsSegment (s : Segment) : Type 0 where
  pub not_empty : 0 < s.size
  pub bytes_fit : length s.bytes ≤ s.size
  pub short : s.size ≤ 16777216
  pub in_range : s.start + s.size ≤ 2 ^ 47

-- the two share no address
abbrev pub AreApart : Segment → Segment → Type 0
AreApart s t = (a : ℕ) → s.start ≤ a → a < s.start + s.size → t.start ≤ a → t.start + t.size ≤ a

pub record AreSegments (segments : List Segment) : Type 0 where
  pub few : length segments ≤ 16
  pub each : (k : ℕ) (s : Segment) → slice_get segments k ≡ Some s → IsSegment s
  pub apart : (j k : ℕ) (s t : Segment) → j < k → slice_get segments j ≡ Some s → slice_get segments k ≡ Some t → AreApart s t

-- f stands before g in the order of start, then size
abbrev pub Precedes : Function → Function → Type 0
Precedes f g = (f.start ≤ g.start) × (f.start ≡ g.start → f.size < g.size)

pub record IsFunction (f : Function) : Type 0 where
  pub not_empty : 0 < f.size
  pub in_range : f.start + f.size ≤ 2 ^ 47

pub record AreFunctions (functions : List Function) : Type 0 where
  pub few : length functions ≤ 65536
  pub each : (k : ℕ) (f : Function) → slice_get functions k ≡ Some f → IsFunction f
  pub ascending : (j k : ℕ) (f g : Function) → j < k → slice_get functions j ≡ Some f → slice_get functions k ≡ Some g → Precedes f g
