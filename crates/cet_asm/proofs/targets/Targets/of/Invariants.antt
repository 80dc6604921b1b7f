use Rattle.std.proofs.Common.{◌≡◌, ℕ, List, drop}
use Rattle.std.specs.Option.{option_or}
use Rattle.cet_syntax.specs.declared.statement.SectionName.{SectionName}
use Rattle.cet_asm.specs.Assembled.{targets_in}
use Rattle.cet_asm.specs.Tables.{targets_at}
use Rattle.cet_asm.proofs.targets.Targets.of.Given as goal

abbrev pub invariant-loop-d : goal.invariant-loop-d
invariant-loop-d l = (section : SectionName) (name : List ℕ) → option_or (targets_at l.targets section name) (targets_in (drop l.d-index l.defined) section name) ≡ targets_in l.defined section name
