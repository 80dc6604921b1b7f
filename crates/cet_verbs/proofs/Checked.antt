-- What the check of raw code answers, from what its steps do.
use Rattle.std.proofs.Common.{◌≡◌, ℕ, List, [], Option, Result, Ok, Err, IfOk, refl, sym, subst}
use Rattle.std.specs.Prelude.{IfErr}
use Rattle.cet_base.specs.Faults.{Rose}
use Rattle.cet_base.specs.Files.{Contents, FileMeets}
use Rattle.cet_base.specs.Sink.{Gains, GainsPart}
use Rattle.cet_rules.specs.declared.image.Image.{Image}
use Rattle.cet_rules.specs.declared.verdict.Verdict.{Verdict}
use Rattle.cet_rules.specs.First.{IsFirst}
use Rattle.cet_rules.specs.Raw.{IsRaw}
use Rattle.cet_rules.specs.Report.{report}
use Rattle.cet_verbs.specs.declared.refusal.Refusal.{Refusal}
use Rattle.cet_verbs.specs.declared.refusal.Refusal.TheVariants.{Unwritten}
use Rattle.cet_verbs.specs.Command.{CheckRaw}
use Rattle.cet_verbs.specs.Answer.{IsReport, IsRawVerdict, status_of}
use Rattle.cet_verbs.specs.Refused.{Effects, HasCause}
use Rattle.cet_verbs.proofs.Reports.{meets_more}

-- the file holds the bytes that were read
pub held_is_read : (files : Option Contents) (name read : List ℕ) → FileMeets files name (λ whole. read ≡ whole) → FileMeets files name (λ held. held ≡ read)
held_is_read files name read = meets_more files name (λ whole. read ≡ whole) (λ held. held ≡ read) (λ held same. sym same)

-- the verdict on the bytes that were read, where the certifier was handed a slice of them
pub verdict_on_read : (read slice : List ℕ) (image : Image) (verdict : Verdict) → slice ≡ read → IsRaw image slice → IsFirst image verdict → IsRawVerdict read verdict
verdict_on_read read slice image verdict same raw first = (image, subst (λ (bytes : List ℕ). IsRaw image bytes) same raw, first)

-- what was written is the report
pub reported : (files : Option Contents) (file bytes : List ℕ) (verdict : Verdict) (r : Result ℕ Refusal) (old new : Option (List ℕ))
    → FileMeets files file (λ held. held ≡ bytes) → IsRawVerdict bytes verdict → IfOk r (λ status. (status ≡ status_of verdict) × Gains old new (report verdict))
    → IfOk r (λ status. (text : List ℕ) × Gains old new text × IsReport files [] (CheckRaw file) status text)
reported files file bytes verdict (Ok status) old new held is_verdict written = (report verdict, written.1, (bytes, verdict, held, is_verdict, written.0, refl))
reported files file bytes verdict (Err refusal) old new held is_verdict written = tt

-- an output that failed is a cause
pub unwritten : (e : Effects) (file bytes : List ℕ) (verdict : Verdict) (r : Result ℕ Refusal)
    → FileMeets e.files file (λ held. held ≡ bytes) → IsRawVerdict bytes verdict
    → IfErr r (λ refusal. (refusal ≡ Unwritten) × Rose e.out_faults_before e.out_faults_after × GainsPart e.out_before e.out_after (report verdict))
    → IfErr r (HasCause e (CheckRaw file))
unwritten e file bytes verdict (Ok status) held is_verdict failed = tt
unwritten e file bytes verdict (Err refusal) held is_verdict failed =
    subst (HasCause e (CheckRaw file)) (sym failed.0) (failed.1, (status_of verdict, report verdict, failed.2, (bytes, verdict, held, is_verdict, refl, refl)))
