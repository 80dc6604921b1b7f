-- What follows for the code from a report that accepts it.
use Rattle.std.proofs.Common.{◌≡◌, ℕ, List, Option, sym, subst, arith}
use Rattle.cet_base.specs.Files.{Contents, FileMeets}
use Rattle.cet_process.specs.Chosen.{Plan}
use Rattle.cet_rules.specs.declared.verdict.Verdict.{Verdict}
use Rattle.cet_rules.specs.declared.verdict.Verdict.TheVariants.{Accepted, Refused}
use Rattle.cet_rules.specs.Report.{report}
use Rattle.cet_sound.specs.Laws.{RawIsLoaded, RunIsCpFree}
use Rattle.cet_verbs.specs.Command.{CheckRaw}
use Rattle.cet_verbs.specs.Answer.{IsReport, IsRawVerdict, status_of}
use Rattle.cet_verbs.proofs.Reports.{meets_more}
use Rattle.cet.specs.Certified.{IsCertified}

-- a report of status 0 on raw code says that the code is certified
pub accepted_report : RawIsLoaded → RunIsCpFree → (files : Option Contents) (plans : List (Option Plan)) (file : List ℕ) (text : List ℕ) → IsReport files plans (CheckRaw file) 0 text → (text ≡ report Accepted) × FileMeets files file IsCertified
accepted_report loaded sound files plans file text (bytes, verdict, meets, is_verdict, status, is_text) = by_verdict verdict is_verdict status is_text
  where
    by_verdict : (v : Verdict) → IsRawVerdict bytes v → 0 ≡ status_of v → text ≡ report v → (text ≡ report Accepted) × FileMeets files file IsCertified
    by_verdict Accepted (image, raw, keeps) e t = (
      t,
      meets_more files file (λ held. held ≡ bytes) IsCertified (λ held same. subst IsCertified (sym same) (image, raw, keeps, (λ input. loaded image bytes input raw), (λ input events bytes in_range. sound image input events keeps bytes in_range))) meets,
    )
    by_verdict (Refused rule at) is e t = absurd (omega arith)
