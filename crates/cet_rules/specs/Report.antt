-- The text of a verdict.
use Rattle.std.specs.Prelude.{ℕ, List, ◌++◌, codes}
use Rattle.std.specs.Fmt.{decimal}
use Rattle.cet_base.specs.Text.{line, hexadecimal}
use Rattle.cet_rules.specs.declared.verdict.Verdict.{Verdict}
use Rattle.cet_rules.specs.declared.verdict.Verdict.TheVariants.{Accepted, Refused}

abbrev pub report : Verdict → List ℕ
report Accepted = line (codes "accepted")
report (Refused rule at) = line (codes "refused rule " ++ decimal rule ++ codes " at " ++ hexadecimal at)
