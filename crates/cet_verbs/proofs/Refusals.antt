-- What a refusal that was told says of the command.
use Rattle.std.proofs.Common.{◌≡◌, ℕ, suc, ◌≤◌, List, [], ◌∷◌, ◌++◌, map, Option, Some, None, Result, Ok, Err, Contains, inl, inr, refl, sym, subst, ◌∙◌, arith}
use Rattle.std.specs.Prelude.{◌⊎◌, ◌≢◌, IfErr}
use Rattle.cet_base.specs.Faults.{Rose}
use Rattle.cet_base.specs.Files.{Contents, FileMeets, IsToldAbsent, OthersStay}
use Rattle.cet_base.specs.Sink.{Gains}
use Rattle.cet_process.specs.Chosen.{Plan}
use Rattle.cet_verbs.specs.declared.refusal.Refusal.{Refusal}
use Rattle.cet_verbs.specs.declared.refusal.Refusal.TheVariants.{Unread, Unfit, Unreplaced, NoMemory, Unwritten}
use Rattle.cet_verbs.specs.Command.{Command, CheckRaw, Asm, Dis, Notes, Run, Link, Names, RunsNothing, option_file, files_of, replaced_by}
use Rattle.cet_verbs.specs.declared.refusal.Unfit.{Unfit as Reason}
use Rattle.cet_verbs.specs.Unfit.{bad_line, IsUnfitFor}
use Rattle.cet_verbs.specs.Steps.{Step, Read, Schedule, Form, ItsNote, Join, Replace, Passes, forms_of, Reaches, ComesTo, step_of, IsUnfit}
use Rattle.cet_verbs.specs.Answer.{IsReport, IsAnswer, AreThere, GainsOrFails, Leaves, LeavesWith}
use Rattle.cet_verbs.specs.Refused.{Effects, HasCause, Tells, LeavesRefused, IsBeforeRun, IsUnread, IsUnreplaced}
use Rattle.cet_verbs.specs.Text.{file_line}

-- a read that a command comes to is that of one of its files
no_form_is_read : (P : Step → Type 0) (others replaced : List (List ℕ)) (name : List ℕ) → Reaches P (map Form others ++ map Replace replaced) (Read name) → ⊥
no_form_is_read P [] [] name reach = reach
no_form_is_read P [] (first ∷ replaced) name (inl same) = absurd cc
no_form_is_read P [] (first ∷ replaced) name (inr (passes, reach)) = no_form_is_read P [] replaced name reach
no_form_is_read P (other ∷ others) replaced name (inl same) = absurd cc
no_form_is_read P (other ∷ others) replaced name (inr (passes, reach)) = no_form_is_read P others replaced name reach

no_run_form_is_read : (P : Step → Type 0) (schedule : Option (List ℕ)) (file name : List ℕ) → Reaches P ((map Schedule (option_file schedule) ++ Form file ∷ []) ++ []) (Read name) → ⊥
no_run_form_is_read P None file name (inl same) = absurd cc
no_run_form_is_read P None file name (inr (passes, reach)) = reach
no_run_form_is_read P (Some schedule) file name (inl same) = absurd cc
no_run_form_is_read P (Some schedule) file name (inr (passes, inl same)) = absurd cc
no_run_form_is_read P (Some schedule) file name (inr (passes, inr (also, reach))) = reach

no_link_form_is_read : (P : Step → Type 0) (forms notes : List (List ℕ)) (out name : List ℕ) → Reaches P ((map Form forms ++ (map ItsNote notes ++ Join ∷ [])) ++ Replace out ∷ []) (Read name) → ⊥
no_link_form_is_read P [] [] out name (inl same) = absurd cc
no_link_form_is_read P [] [] out name (inr (passes, inl same)) = absurd cc
no_link_form_is_read P [] [] out name (inr (passes, inr (also, reach))) = reach
no_link_form_is_read P [] (note ∷ notes) out name (inl same) = absurd cc
no_link_form_is_read P [] (note ∷ notes) out name (inr (passes, reach)) = no_link_form_is_read P [] notes out name reach
no_link_form_is_read P (form ∷ forms) notes out name (inl same) = absurd cc
no_link_form_is_read P (form ∷ forms) notes out name (inr (passes, reach)) = no_link_form_is_read P forms notes out name reach

no_later_is_read : (P : Step → Type 0) (command : Command) (name : List ℕ) → Reaches P (forms_of command ++ map Replace (replaced_by command)) (Read name) → ⊥
no_later_is_read P (CheckRaw file) name reach = no_form_is_read P (file ∷ []) [] name reach
no_later_is_read P (Asm out file) name reach = no_form_is_read P (file ∷ []) (out ∷ []) name reach
no_later_is_read P (Dis file) name reach = no_form_is_read P (file ∷ []) [] name reach
no_later_is_read P (Notes files) name reach = no_form_is_read P files [] name reach
no_later_is_read P (Link out start files) name reach = no_link_form_is_read P files files out name reach
no_later_is_read P (Run raw schedule input limit file) name reach = no_run_form_is_read P schedule file name reach

reads_named : (P : Step → Type 0) (names : List (List ℕ)) (later : List Step) (name : List ℕ) → (Reaches P later (Read name) → ⊥) → Reaches P (map Read names ++ later) (Read name) → Contains names name
reads_named P [] later name none reach = absurd (none reach)
reads_named P (first ∷ names) later name none (inl same) = (0, omega arith, cc)
reads_named P (first ∷ names) later name none (inr (passes, reach)) =
    let (k, below, is) = reads_named P names later name none reach in (suc k, omega arith, is)

read_is_named : (told : Option Contents) (command : Command) (name : List ℕ) → ComesTo told command (Read name) → Names command name
read_is_named told command name comes =
    reads_named (Passes told command) (files_of command) (forms_of command ++ map Replace (replaced_by command)) name (no_later_is_read (Passes told command) command name) comes

-- status 3 is told of a file that could not be read or replaced
pub unread_told : (e : Effects) (now : Option Contents) (command : Command) (refusal : Refusal) (status : ℕ) (old new : Option (List ℕ)) (before after : ℕ) → HasCause e command refusal → LeavesRefused e.files now refusal → Tells refusal status old new before after → status ≡ 3
    → (name : List ℕ) × (IsUnread e.files now e.faults_before e.faults_after command name ⊎ IsUnreplaced e.files now e.faults_before e.faults_after command name) × GainsOrFails old new before after (file_line name)
unread_told e now command (Unread name) status old new before after cause left (inl told) three = (name.now, inl (cause.1.0, cause.1.1, left), told.1)
unread_told e now command (Unread name) status old new before after cause left (inr told) three = absurd (omega (arith, told.0))
unread_told e now command (Unfit name why) status old new before after cause left (inl told) three = absurd (omega (arith, told.0))
unread_told e now command (Unfit name why) status old new before after cause left (inr told) three = absurd (omega (arith, told.0))
unread_told e now command (Unreplaced name line) status old new before after cause left told three =
    (name.now, inr (cause.1.0, cause.1.1, left), subst (λ (text : List ℕ). GainsOrFails old new before after text) cause.1.2 told.1)
unread_told e now command NoMemory status old new before after cause left told three = absurd (omega (arith, told.0))
unread_told e now command Unwritten status old new before after cause left told three = absurd (omega (arith, told.0))

-- the files stay with every other status
pub refused_stays : (old now : Option Contents) (refusal : Refusal) (status : ℕ) (err_old err_new : Option (List ℕ)) (before after : ℕ) → LeavesRefused old now refusal → Tells refusal status err_old err_new before after → status ≢ 3 → now ≡ old
refused_stays old now (Unread name) status err_old err_new before after left told other = left
refused_stays old now (Unfit name why) status err_old err_new before after left told other = left
refused_stays old now (Unreplaced name line) status err_old err_new before after left told other = absurd (other told.0)
refused_stays old now NoMemory status err_old err_new before after left told other = left
refused_stays old now Unwritten status err_old err_new before after left told other = left

-- what is left with status 0
pub leaves_done : (old now : Option Contents) (command : Command) (status : ℕ) → LeavesWith status old now command → status ≡ 0 → Leaves old now command
leaves_done old now (CheckRaw file) status left zero = left
leaves_done old now (Asm out file) status left zero = left
leaves_done old now (Dis file) status left zero = left
leaves_done old now (Notes files) status left zero = left
leaves_done old now (Run raw schedule input limit file) status left zero = left
leaves_done old now (Link out start files) status (inl left) zero = left.1
leaves_done old now (Link out start files) status (inr left) zero = absurd (omega (arith, left.0))

-- and with 1, which `asm` does not answer
pub done_stays : (old now : Option Contents) (plans : List (Option Plan)) (command : Command) (status : ℕ) (text : List ℕ) → LeavesWith status old now command → IsReport old plans command status text → status ≢ 0 → now ≡ old
done_stays old now plans (CheckRaw file) status text left is other = left
done_stays old now plans (Asm out file) status text left (object, holds, zero, empty) other = absurd (other zero)
done_stays old now plans (Dis file) status text left is other = left
done_stays old now plans (Notes files) status text left is other = left
done_stays old now plans (Run raw schedule input limit file) status text left is other = left
done_stays old now plans (Link out start files) status text (inl left) is other = absurd (other left.0)
done_stays old now plans (Link out start files) status text (inr left) is other = left.1

-- files that stayed as they were are left so by every refusal
others_stay : (old : Option Contents) (name : List ℕ) → OthersStay old old name
others_stay None name = tt
others_stay (Some files) name = λ other differs. refl

pub stays_refused : (old now : Option Contents) (refusal : Refusal) → now ≡ old → LeavesRefused old now refusal
stays_refused old now (Unread name) same = same
stays_refused old now (Unfit name why) same = same
stays_refused old now (Unreplaced name line) same = subst (λ (c : Option Contents). OthersStay old c name.now) (sym same) (others_stay old name.now)
stays_refused old now NoMemory same = same
stays_refused old now Unwritten same = same

-- status 6 is told of a file that misses its form
pub unfit_told : (e : Effects) (command : Command) (refusal : Refusal) (status : ℕ) (old new : Option (List ℕ)) (before after : ℕ) → HasCause e command refusal → Tells refusal status old new before after → status ≡ 6
    → (name : List ℕ) × (why : Reason) × ComesTo e.files command (step_of why name) × FileMeets e.files name (IsUnfitFor command why) × GainsOrFails old new before after (bad_line name why)
unfit_told e command (Unread name) status old new before after cause (inl told) six = absurd (omega (arith, told.0))
unfit_told e command (Unread name) status old new before after cause (inr told) six = absurd (omega (arith, told.0))
unfit_told e command (Unfit name why) status old new before after cause (inl told) six = (name.now, why, cause.1.0, cause.1.1, told.1)
unfit_told e command (Unfit name why) status old new before after cause (inr told) six = absurd (omega (arith, told.0))
unfit_told e command (Unreplaced name line) status old new before after cause told six = absurd (omega (arith, told.0))
unfit_told e command NoMemory status old new before after cause told six = absurd (omega (arith, told.0))
unfit_told e command Unwritten status old new before after cause told six = absurd (omega (arith, told.0))

-- where every file is there and nothing failed, a refusal is the answer, or there was no memory
pub refusal_is_answer : (e : Effects) (held : Contents) (asked command : Command) (refusal : Refusal) (status : ℕ) (old new : Option (List ℕ)) (before after : ℕ)
    → e.files ≡ Some held → asked ≡ command → AreThere held command → ¬ Rose e.faults_before e.faults_after → ¬ Rose e.out_faults_before e.out_faults_after → ¬ Rose before after
    → HasCause e asked refusal → Tells refusal status old new before after
    → (status ≡ 4) ⊎ ((told : List ℕ) × (said : List ℕ) × IsAnswer held e.plans command status told said × Gains e.out_before e.out_after told × Gains old new said)
refusal_is_answer e held asked command (Unread name) status old new before after tells same there files_stood out_stood err_stood cause told = elim cause.1.1 [
  | inl rose ↦ absurd (files_stood rose)
  | inr absent ↦ (
      let named : Names command name.now = subst (λ (c : Command). Names c name.now) same (read_is_named e.files asked name.now cause.1.0) in
      let gone : held name.now ≡ None = subst (λ (t : Option Contents). IsToldAbsent t name.now) tells absent in
      let (bytes, is) = there name.now named in
      absurd (some_is_not_none bytes (sym is ∙ gone)))
]
  where
    some_is_not_none : (bytes : List ℕ) → Some bytes ≡ None → ⊥
    some_is_not_none bytes same = absurd cc
refusal_is_answer e held asked command (Unfit name why) status old new before after tells same there files_stood out_stood err_stood cause (inr told) = inl told.0
refusal_is_answer e held asked command (Unfit name why) status old new before after tells same there files_stood out_stood err_stood cause (inl told) = elim told.1 [
  | inl gains ↦ (
      let unfit : IsUnfit (Some held) command name.now why = subst (λ (t : Option Contents). IsUnfit t command name.now why) tells (subst (λ (c : Command). IsUnfit e.files c name.now why) same cause.1) in
      inr ([], _, inr (told.0, refl, (name.now, why, unfit, refl)), cause.0, gains))
  | inr rose ↦ absurd (err_stood rose.0)
]
refusal_is_answer e held asked command (Unreplaced name line) status old new before after tells same there files_stood out_stood err_stood cause told = absurd (files_stood cause.1.1)
refusal_is_answer e held asked command NoMemory status old new before after tells same there files_stood out_stood err_stood cause told = inl told.0
refusal_is_answer e held asked command Unwritten status old new before after tells same there files_stood out_stood err_stood cause told = absurd (out_stood cause.0)

-- ---- watchers

-- a refusal that is told by neither 4 nor 5 came before a run
pub told_before_run : (refusal : Refusal) (status : ℕ) (old new : Option (List ℕ)) (before after : ℕ) → Tells refusal status old new before after → status ≢ 4 → status ≢ 5 → IsBeforeRun refusal
told_before_run (Unread name) status old new before after told no_memory written = tt
told_before_run (Unfit name why) status old new before after told no_memory written = tt
told_before_run (Unreplaced name line) status old new before after told no_memory written = tt
told_before_run NoMemory status old new before after told no_memory written = no_memory told.0
told_before_run Unwritten status old new before after told no_memory written = written told.0

-- one that is told by 5 is that of the output
pub told_unwritten : (refusal : Refusal) (status : ℕ) (old new : Option (List ℕ)) (before after : ℕ) → Tells refusal status old new before after → status ≡ 5 → refusal ≡ Unwritten
told_unwritten (Unread name) status old new before after (inl told) five = absurd (omega (arith, told.0))
told_unwritten (Unread name) status old new before after (inr told) five = absurd (omega (arith, told.0))
told_unwritten (Unfit name why) status old new before after (inl told) five = absurd (omega (arith, told.0))
told_unwritten (Unfit name why) status old new before after (inr told) five = absurd (omega (arith, told.0))
told_unwritten (Unreplaced name line) status old new before after told five = absurd (omega (arith, told.0))
told_unwritten NoMemory status old new before after told five = absurd (omega (arith, told.0))
told_unwritten Unwritten status old new before after told five = refl

-- and none is told by 0 or 1
pub told_no_report : (refusal : Refusal) (status : ℕ) (old new : Option (List ℕ)) (before after : ℕ) → Tells refusal status old new before after → 2 ≤ status
told_no_report (Unread name) status old new before after (inl told) = omega (arith, told.0)
told_no_report (Unread name) status old new before after (inr told) = omega (arith, told.0)
told_no_report (Unfit name why) status old new before after (inl told) = omega (arith, told.0)
told_no_report (Unfit name why) status old new before after (inr told) = omega (arith, told.0)
told_no_report (Unreplaced name line) status old new before after told = omega (arith, told.0)
told_no_report NoMemory status old new before after told = omega (arith, told.0)
told_no_report Unwritten status old new before after told = omega (arith, told.0)

-- ---- a command that runs nothing has its cause whatever the choosers tell

cause_of : (e : Effects) (plans : List (Option Plan)) (command : Command) → RunsNothing command
    → ((status : ℕ) (text : List ℕ) → IsReport e.files plans command status text → IsReport e.files e.plans command status text)
    → (refusal : Refusal) → HasCause (record e { plans = plans }) command refusal → HasCause e command refusal
cause_of e plans command none more (Unread name) cause = cause
cause_of e plans command none more (Unfit name why) cause = cause
cause_of e plans command none more (Unreplaced name line) cause = cause
cause_of e plans command none more NoMemory cause = cause
cause_of e plans command none more Unwritten cause = let (rose, (status, text, part, is)) = cause in (rose, (status, text, part, more status text is))

pub any_plans : (e : Effects) (plans : List (Option Plan)) (command : Command) → RunsNothing command → (status : ℕ) (text : List ℕ)
    → IsReport e.files plans command status text → IsReport e.files e.plans command status text
any_plans e plans (CheckRaw file) none status text is = is
any_plans e plans (Asm out file) none status text is = is
any_plans e plans (Dis file) none status text is = is
any_plans e plans (Notes files) none status text is = is
any_plans e plans (Run raw schedule input limit file) none status text is = absurd none
any_plans e plans (Link out start files) none status text is = is

pub cause_by_any_plans : (r : Result ℕ Refusal) (e : Effects) (plans : List (Option Plan)) (command : Command) → RunsNothing command
    → IfErr r (HasCause (record e { plans = plans }) command) → IfErr r (HasCause e command)
cause_by_any_plans (Ok status) e plans command none cause = tt
cause_by_any_plans (Err refusal) e plans command none cause = cause_of e plans command none (any_plans e plans command none) refusal cause
