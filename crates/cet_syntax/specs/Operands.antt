-- The operands of a statement: parted by commas, at most three.
use Rattle.std.specs.Prelude.{ℕ, ◌==◌, if◌then◌else◌, List, length, Option, Some, None, option_and_then}
use Rattle.std.specs.Option.{option_map}
use Rattle.cet_syntax.specs.declared.operand.Operand.{Operand}
use Rattle.cet_syntax.specs.declared.operands.Operands.{Operands}
use Rattle.cet_syntax.specs.declared.operands.Operands.TheVariants.{Zero, One, Two, Three}
use Rattle.cet_syntax.specs.Operand.{operand_of}
use Rattle.cet_syntax.specs.Pieces.{trimmed, before, behind}

-- the operand before the first comma
abbrev pub first_operand : List ℕ → Option Operand
first_operand cs = operand_of (trimmed (before 44 cs))

-- what stands behind the first comma, if there is one
abbrev pub more : List ℕ → Option (List ℕ)
more cs = behind 44 cs

-- a third operand, behind which no comma stands
abbrev pub third : Operand → Operand → Option (List ℕ) → Option Operands
third a b None = Some (Two a b)
third a b (Some cs) = option_map (λ c. Three a b c) (operand_of (trimmed cs))

abbrev pub second : Operand → Option (List ℕ) → Option Operands
second a None = Some (One a)
second a (Some cs) = option_and_then (λ b. third a b (more cs)) (first_operand cs)

abbrev pub operands_of : List ℕ → Option Operands
operands_of cs = if length cs == 0 then Some Zero else option_and_then (λ a. second a (more cs)) (first_operand cs)
