-- What follows for the files from a report.
use Rattle.std.proofs.Common.{◌≡◌, ℕ, ◌<◌, Bool, true, false, List, [], inl, inr, Option, Some, None, Result, Ok, Err, IfOk, refl, sym, ap, subst, arith}
use Rattle.std.specs.Prelude.{IsSomeAnd, IfErr, ◌==◌, if◌then◌else◌}
use Rattle.std.proofs.lemmas.List.{append-nil}
use Rattle.cet_base.specs.Files.{Contents, FileMeets}
use Rattle.cet_verbs.specs.declared.refusal.Refusal.{Refusal}
use Rattle.cet_base.specs.Sink.{Gains}
use Rattle.cet_process.specs.Chosen.{Plan}
use Rattle.cet_rules.specs.declared.verdict.Verdict.{Verdict}
use Rattle.cet_rules.specs.declared.verdict.Verdict.TheVariants.{Accepted, Refused}
use Rattle.cet_run.specs.declared.report.RunEnd.{RunEnd}
use Rattle.cet_run.specs.declared.report.RunEnd.TheVariants.{Ended, Died, LimitReached, ChoicesEnded}
use Rattle.cet_verbs.specs.Command.{Command, CheckRaw, Asm, Dis, Notes, Run, Link}
use Rattle.cet_verbs.specs.Runs.{run_status}
use Rattle.cet_verbs.specs.Answer.{IsReport, IsAnswer, status_of}

-- what is true of one content is true of the file that holds it
pub meets_more : (files : Option Contents) (name : List ℕ) (P Q : List ℕ → Type 0) → ((b : List ℕ) → P b → Q b) → FileMeets files name P → FileMeets files name Q
meets_more None name P Q more meets = meets
meets_more (Some contents) name P Q more meets = by_content (contents name) meets
  where
    by_content : (held : Option (List ℕ)) → IsSomeAnd held P → IsSomeAnd held Q
    by_content None absent = absent
    by_content (Some bytes) there = more bytes there

-- what was not written to is as before
pub gains_nothing : (old : Option (List ℕ)) → Gains old old []
gains_nothing None = refl
gains_nothing (Some bytes) = ap Some (sym (append-nil bytes))

-- a command that prints nothing gains nothing
pub reports_nothing : (r : Result ℕ Refusal) (files : Option Contents) (plans : List (Option Plan)) (command : Command) (out : Option (List ℕ)) → IfOk r (λ status. IsReport files plans command status [])
    → IfOk r (λ status. (text : List ℕ) × Gains out out text × IsReport files plans command status text)
reports_nothing (Ok status) files plans command out is = ([], gains_nothing out, is)
reports_nothing (Err refusal) files plans command out is = tt

-- a report that the output gained is the answer, where the files told what they hold
pub report_is_answer : (told : Option Contents) (held : Contents) (plans : List (Option Plan)) (asked command : Command) (status : ℕ) (out_before out_after err : Option (List ℕ)) (text : List ℕ)
    → told ≡ Some held → asked ≡ command → Gains out_before out_after text → IsReport told plans asked status text
    → (out_text : List ℕ) × (err_text : List ℕ) × IsAnswer held plans command status out_text err_text × Gains out_before out_after out_text × Gains err err err_text
report_is_answer told held plans asked command status out_before out_after err text tells same gains is_report =
    let here : IsReport (Some held) plans command status text = subst (λ (c : Command). IsReport (Some held) plans c status text) same (subst (λ (t : Option Contents). IsReport t plans asked status text) tells is_report) in
    (text, [], inl (here, refl), gains, gains_nothing err)

-- what holds anyway holds with either result
pub on_ok : {T E : Type 0} (r : Result T E) (P : Type 0) → P → IfOk r (λ x. P)
on_ok (Ok x) P holds = holds
on_ok (Err e) P holds = tt

pub on_err : {T E : Type 0} (r : Result T E) (P : E → Type 0) → ((e : E) → P e) → IfErr r P
on_err (Ok x) P holds = tt
on_err (Err e) P holds = holds e

-- ---- the status of a report

verdict_status : (v : Verdict) → status_of v < 2
verdict_status Accepted = omega arith
verdict_status (Refused rule at) = omega arith

end_status : (last : RunEnd) → run_status last < 2
end_status (Ended status) = by_test (status == 0)
  where
    by_test : (b : Bool) → (if b then 0 else 1) < 2
    by_test true = omega arith
    by_test false = omega arith
end_status (Died t fault rip) = omega arith
end_status LimitReached = omega arith
end_status ChoicesEnded = omega arith

pub report_status : (files : Option Contents) (plans : List (Option Plan)) (command : Command) (status : ℕ) (text : List ℕ) → IsReport files plans command status text → status < 2
report_status files plans (CheckRaw file) status text (bytes, verdict, meets, is, same, its) = let below = verdict_status verdict in omega (arith, same, below)
report_status files plans (Asm out file) status text (object, holds, zero, none) = omega (arith, zero)
report_status files plans (Dis file) status text (bytes, holds, some, is, zero) = omega (arith, zero)
report_status files plans (Notes names) status text (notes, merged, hold, is, zero, its) = omega (arith, zero)
report_status files plans (Run raw schedule input limit file) status text (r, is, same, its) = let below = end_status r.last in omega (arith, same, below)
report_status files plans (Link out start names) status text (inl (is, zero, none)) = omega (arith, zero)
report_status files plans (Link out start names) status text (inr (is, one)) = omega (arith, one)
