-- The region that holds an interval, by its place.
use Rattle.std.specs.Prelude.{◌≡◌, ℕ, ◌<◌, true, List, length, slice_get, Some}
use Rattle.cet_machine.specs.declared.memory.Region.{Region}
use Rattle.cet_machine.specs.Memory.{holds, region_holding}

-- the region at place i of M holds the n addresses from a
pub record IsHolder (M : List Region) (a n i : ℕ) : Type 0 where
  pub region : Region
  pub within : i < length M
  pub there : slice_get M i ≡ Some region
  pub holds_it : holds a n region ≡ true
  pub found : region_holding M a n ≡ Some region
