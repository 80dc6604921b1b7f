-- Regions in order of address.
use Rattle.std.specs.Prelude.{ℕ, ◌+◌, ◌≤◌, ◌<◌, List, [], ◌∷◌, length}
use Rattle.cet_machine.specs.declared.memory.Region.{Region}

-- each region of M starts at this address or past it
abbrev pub StartFrom : ℕ → List Region → Type 0
StartFrom a [] = Unit {0}
StartFrom a (q ∷ M) = (a ≤ q.start) × StartFrom a M

-- no region is empty, and each ends before the next ones start
abbrev pub AreInOrder : List Region → Type 0
AreInOrder [] = Unit {0}
AreInOrder (r ∷ M) = (0 < length r.bytes) × StartFrom (r.start + length r.bytes) M × AreInOrder M
