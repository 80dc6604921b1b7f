-- The lowest bit of a number that is 1, from a place on.
use Rattle.std.specs.Prelude.{◌≡◌, ℕ, ◌≤◌, ◌<◌, true, false, Option, Some, None}
use Rattle.cet_machine.specs.Arithmetic.{bit}

abbrev pub Lowest : ℕ → ℕ → Option ℕ → Type 0
Lowest n from None = (i : ℕ) → from ≤ i → bit n i ≡ false
Lowest n from (Some t) = (from ≤ t) × (bit n t ≡ true) × ((i : ℕ) → from ≤ i → i < t → bit n i ≡ false)
