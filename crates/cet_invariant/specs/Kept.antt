-- What is asked of a function, as far as the proof uses it: each rule that the function keeps is a field. A later rule adds a field.
use Rattle.std.specs.Prelude.{ℕ}
use Rattle.cet_rules.specs.declared.function.Function.{Function}
use Rattle.cet_rules.specs.declared.image.Image.{Image}
use Rattle.cet_rules.specs.Rule.{HasNoForm, JumpIsWrong, RunsOff, EntryIsNoLanding, BranchIsBare}

pub record KeepsRulesIn (image : Image) (f : Function) : Type 0 where
  -- rule 6: an instruction stands at each position
  pub instructions : (a : ℕ) → HasNoForm image f a → ⊥
  -- rule 8: a JMP within the function goes to the start of a piece
  pub jumps : (a : ℕ) → JumpIsWrong image f a → ⊥
  -- rule 11: the last piece doesn't go on
  pub last_piece : (a : ℕ) → RunsOff image f a → ⊥
  -- rule 18: a constant jump goes to an ENDBR64 at the start of a piece
  pub entries : (a : ℕ) → EntryIsNoLanding image f a → ⊥
  -- rule 19: there is no other indirect branch
  pub branches : (a : ℕ) → BranchIsBare image f a → ⊥
