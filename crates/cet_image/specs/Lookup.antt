-- Functions by their address.
use Rattle.std.specs.Prelude.{◌≡◌, ℕ, ◌<◌, ◌≤◌, List, slice_get, Some, Contains}
use Rattle.cet_rules.specs.declared.function.Function.{Function}
use Rattle.cet_rules.specs.declared.image.Image.{Image}
use Rattle.cet_image.specs.declared.lookup.FuncId.{FuncId}

-- of the functions that start at a, none is shorter than the one of this number
abbrev pub IsShortestAt : Image → ℕ → FuncId → Type 0
IsShortestAt image a id = (f g : Function) → slice_get image.functions id.0 ≡ Some f → Contains image.functions g → g.start ≡ a → f.size ≤ g.size

-- the first i functions, and no other, start before a
pub record StartsSplitAt (functions : List Function) (a i : ℕ) : Type 0 where
  pub before : (k : ℕ) (f : Function) → k < i → slice_get functions k ≡ Some f → f.start < a
  pub after : (k : ℕ) (f : Function) → i ≤ k → slice_get functions k ≡ Some f → a ≤ f.start
