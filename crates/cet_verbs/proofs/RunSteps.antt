-- The steps of a run: which it comes to, and what a refusal at one of them says.
use Rattle.std.proofs.Common.{◌≡◌, ℕ, ◌≤◌, List, length, Bool, Option, Some, None, inl, inr, refl, sym, subst, lit≤}
use Rattle.cet_base.specs.declared.reading.TheConstants.{FILE_LIMIT}
use Rattle.cet_base.specs.Files.{Contents}
use Rattle.cet_process.specs.declared.event.Event.{Event}
use Rattle.cet_verbs.specs.declared.refusal.Refusal.{Refusal}
use Rattle.cet_verbs.specs.Command.{Command, Run}
use Rattle.cet_verbs.specs.Held.{HoldsBytes}
use Rattle.cet_verbs.specs.Runs.{IsSchedule, HoldsOption, HoldsSchedule}
use Rattle.cet_verbs.specs.Steps.{Read, Schedule, Form, Passes, ComesTo}
use Rattle.cet_verbs.specs.Refused.{IsAtStep, IsAtOption, IsAtSchedule, IsOfFiles}
use Rattle.cet_verbs.proofs.Reports.{meets_more}
use Rattle.cet_verbs.proofs.StepLemmas.{passes_read, of_files, at_later}

-- a file that holds the schedule of some events passes as one
passes_schedule : (told : Option Contents) (command : Command) (name : List ℕ) (events : List Event) → HoldsSchedule told (Some name) events → Passes told command (Schedule name)
passes_schedule told command name events (text, holds, is) =
    meets_more told name (λ held. held ≡ text) (λ held. (events : List Event) × IsSchedule held events) (λ held same. (events, subst (λ (b : List ℕ). IsSchedule b events) (sym same) is)) holds.0

-- the reads, in their order
comes_to_schedule : (told : Option Contents) (raw : Bool) (name : List ℕ) (input : Option (List ℕ)) (limit : ℕ) (file : List ℕ) → ComesTo told (Run raw (Some name) input limit file) (Read name)
comes_to_schedule told raw name input limit file = inl refl

comes_to_input : (told : Option Contents) (raw : Bool) (schedule : Option (List ℕ)) (name : List ℕ) (limit : ℕ) (file text : List ℕ) → HoldsOption told schedule text → ComesTo told (Run raw schedule (Some name) limit file) (Read name)
comes_to_input told raw None name limit file text holds = inl refl
comes_to_input told raw (Some s) name limit file text holds = inr (passes_read told (Run raw (Some s) (Some name) limit file) s text holds, inl refl)

comes_to_file : (told : Option Contents) (raw : Bool) (schedule input : Option (List ℕ)) (limit : ℕ) (file text bytes : List ℕ) → HoldsOption told schedule text → HoldsOption told input bytes → ComesTo told (Run raw schedule input limit file) (Read file)
comes_to_file told raw None None limit file text bytes s_holds i_holds = inl refl
comes_to_file told raw None (Some i) limit file text bytes s_holds i_holds = inr (passes_read told (Run raw None (Some i) limit file) i bytes i_holds, inl refl)
comes_to_file told raw (Some s) None limit file text bytes s_holds i_holds = inr (passes_read told (Run raw (Some s) None limit file) s text s_holds, inl refl)
comes_to_file told raw (Some s) (Some i) limit file text bytes s_holds i_holds =
    inr (passes_read told (Run raw (Some s) (Some i) limit file) s text s_holds, inr (passes_read told (Run raw (Some s) (Some i) limit file) i bytes i_holds, inl refl))

-- past the reads
comes_to_events : (told : Option Contents) (raw : Bool) (name : List ℕ) (input : Option (List ℕ)) (limit : ℕ) (file text bytes program : List ℕ)
    → HoldsBytes told name text → HoldsOption told input bytes → HoldsBytes told file program → ComesTo told (Run raw (Some name) input limit file) (Schedule name)
comes_to_events told raw name None limit file text bytes program s_holds i_holds holds =
    let command = Run raw (Some name) None limit file in
    inr (passes_read told command name text s_holds, inr (passes_read told command file program holds, inl refl))
comes_to_events told raw name (Some i) limit file text bytes program s_holds i_holds holds =
    let command = Run raw (Some name) (Some i) limit file in
    inr (passes_read told command name text s_holds, inr (passes_read told command i bytes i_holds, inr (passes_read told command file program holds, inl refl)))

-- past the reads, and past the schedule
comes_to_form : (told : Option Contents) (raw : Bool) (schedule input : Option (List ℕ)) (limit : ℕ) (file text bytes program : List ℕ) (events : List Event)
    → HoldsOption told schedule text → HoldsOption told input bytes → HoldsBytes told file program → HoldsSchedule told schedule events → ComesTo told (Run raw schedule input limit file) (Form file)
comes_to_form told raw None None limit file text bytes program events s_holds i_holds holds is = inr (passes_read told (Run raw None None limit file) file program holds, inl refl)
comes_to_form told raw None (Some i) limit file text bytes program events s_holds i_holds holds is =
    let command = Run raw None (Some i) limit file in
    inr (passes_read told command i bytes i_holds, inr (passes_read told command file program holds, inl refl))
comes_to_form told raw (Some s) None limit file text bytes program events s_holds i_holds holds is =
    let command = Run raw (Some s) None limit file in
    inr (passes_read told command s text s_holds, inr (passes_read told command file program holds, inr (passes_schedule told command s events is, inl refl)))
comes_to_form told raw (Some s) (Some i) limit file text bytes program events s_holds i_holds holds is =
    let command = Run raw (Some s) (Some i) limit file in
    inr (passes_read told command s text s_holds, inr (passes_read told command i bytes i_holds, inr (passes_read told command file program holds, inr (passes_schedule told command s events is, inl refl))))

-- ---- what a refusal at each of them says

pub schedule_read_refused : (told : Option Contents) (before after : ℕ) (raw : Bool) (schedule input : Option (List ℕ)) (limit : ℕ) (file : List ℕ) (refusal : Refusal)
    → IsAtOption told before after schedule refusal → IsOfFiles told before after (Run raw schedule input limit file) refusal
schedule_read_refused told before after raw schedule input limit file refusal refused =
    let command = Run raw schedule input limit file in
    let (word, is, at) = refused command in
    of_files told before after command (Read word) refusal (subst (λ (s : Option (List ℕ)). ComesTo told (Run raw s input limit file) (Read word)) (sym is) (comes_to_schedule told raw word input limit file)) at

pub input_refused : (told : Option Contents) (start before after : ℕ) (raw : Bool) (schedule input : Option (List ℕ)) (limit : ℕ) (file text : List ℕ) (refusal : Refusal)
    → HoldsOption told schedule text → start ≤ before → IsAtOption told before after input refusal → IsOfFiles told start after (Run raw schedule input limit file) refusal
input_refused told start before after raw schedule input limit file text refusal s_holds order refused =
    let command = Run raw schedule input limit file in
    let (word, is, at) = refused command in
    of_files told start after command (Read word) refusal
    (subst (λ (i : Option (List ℕ)). ComesTo told (Run raw schedule i limit file) (Read word)) (sym is) (comes_to_input told raw schedule word limit file text s_holds))
    (at_later told start before after command (Read word) refusal order at)

pub file_refused : (told : Option Contents) (start before after : ℕ) (raw : Bool) (schedule input : Option (List ℕ)) (limit : ℕ) (file text bytes : List ℕ) (refusal : Refusal)
    → HoldsOption told schedule text → HoldsOption told input bytes → start ≤ before → IsAtStep told before after (Run raw schedule input limit file) (Read file) refusal → IsOfFiles told start after (Run raw schedule input limit file) refusal
file_refused told start before after raw schedule input limit file text bytes refusal s_holds i_holds order at =
    let command = Run raw schedule input limit file in
    of_files told start after command (Read file) refusal (comes_to_file told raw schedule input limit file text bytes s_holds i_holds) (at_later told start before after command (Read file) refusal order at)

pub program_refused : (told : Option Contents) (before after : ℕ) (raw : Bool) (schedule input : Option (List ℕ)) (limit : ℕ) (file text bytes program : List ℕ) (events : List Event) (refusal : Refusal)
    → HoldsOption told schedule text → HoldsOption told input bytes → HoldsBytes told file program → HoldsSchedule told schedule events
    → IsAtStep told before after (Run raw schedule input limit file) (Form file) refusal → IsOfFiles told before after (Run raw schedule input limit file) refusal
program_refused told before after raw schedule input limit file text bytes program events refusal s_holds i_holds holds is at =
    of_files told before after (Run raw schedule input limit file) (Form file) refusal (comes_to_form told raw schedule input limit file text bytes program events s_holds i_holds holds is) at

pub schedule_refused : (told : Option Contents) (before after : ℕ) (raw : Bool) (schedule input : Option (List ℕ)) (limit : ℕ) (file text bytes program : List ℕ) (refusal : Refusal)
    → HoldsOption told schedule text → HoldsOption told input bytes → HoldsBytes told file program → IsAtSchedule told before after schedule refusal
    → IsOfFiles told before after (Run raw schedule input limit file) refusal
schedule_refused told before after raw schedule input limit file text bytes program refusal s_holds i_holds holds refused =
    let (name, is, at) = refused raw input limit file in
    let s_held : HoldsBytes told name text = subst (λ (s : Option (List ℕ)). HoldsOption told s text) is s_holds in
    let comes : ComesTo told (Run raw schedule input limit file) (Schedule name) =
    subst (λ (s : Option (List ℕ)). ComesTo told (Run raw s input limit file) (Schedule name)) (sym is) (comes_to_events told raw name input limit file text bytes program s_held i_holds holds) in
    of_files told before after (Run raw schedule input limit file) (Schedule name) refusal comes at

-- what was read is no longer than is read
pub option_short : (told : Option Contents) (option : Option (List ℕ)) (bytes : List ℕ) → HoldsOption told option bytes → length bytes ≤ FILE_LIMIT
option_short told None bytes none = subst (λ (b : List ℕ). length b ≤ FILE_LIMIT) (sym none) (lit≤ tt)
option_short told (Some name) bytes holds = holds.1
