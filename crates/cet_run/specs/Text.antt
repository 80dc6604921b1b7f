-- The text of a report: three lines, whose words are this project's own. `cp` is #CP, with the error codes NEAR-RET, ENDBRANCH and RSTORSSP (SDM
-- volume 3, "Interrupt 21 - Control Protection Exception (#CP)"); `pf`, `ud`, `gp` and `de` are #PF, #UD, #GP and #DE (SDM volume 3, "Exception and
-- Interrupt Reference").
use Rattle.std.specs.Prelude.{ℕ, Bool, true, false, List, [], ◌∷◌, ◌++◌, length, count_by, codes}
use Rattle.std.specs.Fmt.{decimal}
use Rattle.hex.specs.Hex.{encode_lower}
use Rattle.cet_base.specs.Text.{line, hexadecimal}
use Rattle.cet_isa.specs.declared.fault.Fault.{Fault}
use Rattle.cet_isa.specs.declared.fault.Fault.TheVariants.{NearRet, EndBranch, Rstor, Page, Undefined, General, Divide}
use Rattle.cet_process.specs.declared.outcome.Outcome.{Outcome}
use Rattle.cet_process.specs.declared.outcome.Outcome.TheVariants as outcomes
use Rattle.cet_run.specs.declared.report.Done.{Done}
use Rattle.cet_run.specs.declared.report.RunEnd.{RunEnd}
use Rattle.cet_run.specs.declared.report.RunEnd.TheVariants.{Ended, Died, LimitReached, ChoicesEnded}
use Rattle.cet_run.specs.declared.report.Report.{Report}

abbrev pub is_ignored : Outcome → Bool
is_ignored outcomes.Ran = false
is_ignored outcomes.Ignored = true
is_ignored (outcomes.Ended status) = false
is_ignored (outcomes.Died t fault rip) = false

-- how many events were applied, and how many of them were ignored
abbrev pub counts : List Done → List ℕ
counts dones = codes "events " ++ decimal (length dones) ++ codes " ignored " ++ decimal (count_by (λ (d : Done). is_ignored d.outcome) dones)

-- two lower-case hexadecimal digits for each byte
abbrev pub bytes_text : List ℕ → List ℕ
bytes_text [] = codes "-"
bytes_text (byte ∷ bytes) = encode_lower (byte ∷ bytes)

abbrev pub fault_word : Fault → List ℕ
fault_word (NearRet popped shadow) = codes "cp 1"
fault_word EndBranch = codes "cp 3"
fault_word (Rstor word) = codes "cp 4"
fault_word (Page a) = codes "pf"
fault_word Undefined = codes "ud"
fault_word General = codes "gp"
fault_word Divide = codes "de"

-- what follows the address of the fault
abbrev pub fault_tail : Fault → List ℕ
fault_tail (NearRet popped shadow) = codes " popped " ++ hexadecimal popped ++ codes " shadow " ++ hexadecimal shadow
fault_tail EndBranch = []
fault_tail (Rstor word) = codes " word " ++ hexadecimal word
fault_tail (Page a) = codes " addr " ++ hexadecimal a
fault_tail Undefined = []
fault_tail General = []
fault_tail Divide = []

abbrev pub end_text : RunEnd → List ℕ
end_text (Ended status) = codes "ended " ++ decimal status
end_text (Died t fault rip) = codes "died thread " ++ decimal t ++ codes " " ++ fault_word fault ++ codes " at " ++ hexadecimal rip ++ fault_tail fault
end_text LimitReached = codes "stopped limit"
end_text ChoicesEnded = codes "stopped choices"

abbrev pub run_text : Report → List ℕ
run_text report = line (counts report.events) ++ line (codes "output " ++ bytes_text report.output) ++ line (end_text report.last)
