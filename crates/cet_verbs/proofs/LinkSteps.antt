-- The steps of `link`, and what it answers.
use Rattle.std.proofs.Common.{◌≡◌, ℕ, suc, ◌+◌, ◌<◌, List, [], ◌∷◌, ◌++◌, length, map, get_or, take, Option, Some, Result, Ok, Err, inl, inr, refl, sym, ap, subst, ◌∙◌, arith, append_assoc}
use Rattle.std.specs.Prelude.{◌≢◌, ◌≤◌, IfOk, IfErr}
use Rattle.std.specs.List.{flat_map, enumerate_from}
use Rattle.cet_base.specs.Files.{Contents, FileMeets, Replaces}
use Rattle.cet_base.specs.Sink.{Gains}
use Rattle.cet_note.specs.Note.{Note}
use Rattle.cet_note.specs.declared.fault.NoteError.{NoteError}
use Rattle.cet_elf.specs.declared.object.Object.{Object}
use Rattle.cet_elf.specs.ObjectFile.{IsObjectFile}
use Rattle.cet_elf.specs.declared.exec.Exec.{Exec}
use Rattle.cet_link.specs.declared.error.LinkError.{LinkError}
use Rattle.cet_link.specs.declared.error.LinkError.TheVariants as errors
use Rattle.cet_link.specs.First.{first}
use Rattle.cet_link.specs.Links.{IsLinked, IsLinkFault}
use Rattle.cet_link.specs.Notes.{reading, note_fault, note_faults}
use Rattle.cet_verbs.specs.declared.refusal.Refusal.{Refusal}
use Rattle.cet_verbs.specs.declared.refusal.Refusal.TheVariants.{Unread, Unfit, Unreplaced, NoMemory, Unwritten}
use Rattle.cet_verbs.specs.declared.refusal.Unfit.{Unfit as Reason}
use Rattle.cet_verbs.specs.declared.refusal.Unfit.TheVariants.{NoInputNote}
use Rattle.cet_verbs.specs.Command.{Command, Link}
use Rattle.cet_verbs.specs.Held.{HoldsBytes}
use Rattle.cet_verbs.specs.Links.{HoldsObject, HoldObjects, HasObjectNote, IsOfLink, word_at, fault_line}
use Rattle.cet_verbs.specs.Notes.{AllBoth}
use Rattle.cet_verbs.specs.Unfit.{IsUnfitFor}
use Rattle.cet_verbs.specs.Steps.{Step, Read, Form, ItsNote, Join, Replace, Passes, Reaches, ComesTo, HasForm, IsUnfit}
use Rattle.cet_exec.specs.ExecFile.{IsExecFile}
use Rattle.cet_exec.specs.Written.{written as written_exec}
use Rattle.cet_verbs.specs.Answer.{IsReport, LeavesWith}
use Rattle.cet_verbs.specs.Refused.{Effects, HasCause, IsAtStep, IsOfFiles, IsNoLine, IsUntold, LeavesRefused}
use Rattle.cet_verbs.proofs.Reports.{meets_more, gains_nothing}
use Rattle.cet_verbs.proofs.Refusals.{stays_refused}
use Rattle.cet_verbs.proofs.StepLemmas.{passes_read, reads_pass, of_files, at_later, before_output, forms_come, hold_both}
use Rattle.cet_verbs.proofs.LinkFaults.{later_fault, of_link_known}

-- objects from their bytes
pub hold_objects : (told : Option Contents) (names held : List (List ℕ)) (objects : List Object) → AllBoth (HoldsBytes told) names held → AllBoth IsObjectFile held objects → HoldObjects told names objects
hold_objects told names held objects holds each = hold_both told IsObjectFile names held objects holds each

-- the form numbered i refused
pub link_form_refused : (told : Option Contents) (before after : ℕ) (to start : List ℕ) (names held : List (List ℕ)) (objects : List Object) (i : ℕ) (name : List ℕ) (refusal : Refusal) → i < length names → get_or names i name ≡ name
    → AllBoth (HoldsBytes told) names held → AllBoth IsObjectFile (take i held) objects → IsAtStep told before after (Link to start names) (Form name) refusal → IsOfFiles told before after (Link to start names) refusal
link_form_refused told before after to start names held objects i name refusal below is holds each at =
    let command = Link to start names in
    let P : Step → Type 0 = Passes told command in
    let X : List Step = map ItsNote names ++ Join ∷ [] in
    let Y : List Step = Replace to ∷ [] in
    let first : Reaches P (map Form names ++ (X ++ Y)) (Form (get_or names i name)) = forms_come told command IsObjectFile (λ b o file. (o, file)) names held objects (X ++ Y) i name below holds each in
    let later : Reaches P ((map Form names ++ X) ++ Y) (Form (get_or names i name)) =
    subst (λ (steps : List Step). Reaches P steps (Form (get_or names i name))) (sym (append_assoc (map Form names) X Y)) first in
    let comes : ComesTo told command (Form (get_or names i name)) = reads_pass told command names held ((map Form names ++ X) ++ Y) (Form (get_or names i name)) holds later in
    of_files told before after command (Form name) refusal (subst (λ (n : List ℕ). ComesTo told command (Form n)) is comes) at

-- ---- past the steps, with the objects

module _ (told : Option Contents) (to start : List ℕ) (all : List (List ℕ)) where
  -- past the reads
  objects_read : (names : List (List ℕ)) (objects : List Object) (rest : List Step) (step : Step) → HoldObjects told names objects → Reaches (Passes told (Link to start all)) rest step
      → Reaches (Passes told (Link to start all)) (map Read names ++ rest) step
  objects_read [] [] rest step holds reach = reach
  objects_read [] (o ∷ objects) rest step holds reach = absurd holds
  objects_read (name ∷ names) [] rest step holds reach = absurd holds
  objects_read (name ∷ names) (o ∷ objects) rest step holds reach = inr (passes_read told (Link to start all) name holds.0.0 holds.0.1, objects_read names objects rest step holds.1 reach)

  form_passes : (name : List ℕ) (o : Object) → HoldsObject told name o → FileMeets told name (HasForm (Link to start all))
  form_passes name o holds =
      meets_more told name (λ held. held ≡ holds.0) (HasForm (Link to start all)) (λ held same. (o, subst (λ (b : List ℕ). IsObjectFile b o) (sym same) holds.2)) holds.1.0

  -- past the forms
  objects_formed : (names : List (List ℕ)) (objects : List Object) (X Y : List Step) (step : Step) → HoldObjects told names objects → Reaches (Passes told (Link to start all)) (X ++ Y) step
      → Reaches (Passes told (Link to start all)) ((map Form names ++ X) ++ Y) step
  objects_formed [] [] X Y step holds reach = reach
  objects_formed [] (o ∷ objects) X Y step holds reach = absurd holds
  objects_formed (name ∷ names) [] X Y step holds reach = absurd holds
  objects_formed (name ∷ names) (o ∷ objects) X Y step holds reach = inr (form_passes name o holds.0, objects_formed names objects X Y step holds.1 reach)

  note_passes : (name : List ℕ) (o : Object) (note : Note) → HoldsObject told name o → reading o ≡ Ok note → FileMeets told name (λ held. (n : Note) × HasObjectNote held n)
  note_passes name o note holds is =
      meets_more told name (λ held. held ≡ holds.0) (λ held. (n : Note) × HasObjectNote held n) (λ held same. (note, (o, subst (λ (b : List ℕ). IsObjectFile b o) (sym same) holds.2, is))) holds.1.0

  -- past the notes
  objects_noted : (names : List (List ℕ)) (objects : List Object) (k : ℕ) (Y : List Step) (step : Step) → HoldObjects told names objects
      → flat_map (λ (i : ℕ × Object). note_fault i.0 (reading i.1)) (enumerate_from k objects) ≡ []
      → Reaches (Passes told (Link to start all)) ((Join ∷ []) ++ Y) step → Reaches (Passes told (Link to start all)) ((map ItsNote names ++ Join ∷ []) ++ Y) step
  objects_noted [] [] k Y step holds none reach = reach
  objects_noted [] (o ∷ objects) k Y step holds none reach = absurd holds
  objects_noted (name ∷ names) [] k Y step holds none reach = absurd holds
  objects_noted (name ∷ names) (o ∷ objects) k Y step holds none reach = by_reading (λ others. objects_noted names objects (k + 1) Y step holds.1 others reach) (reading o) refl none
    where
      by_reading : (flat_map (λ (i : ℕ × Object). note_fault i.0 (reading i.1)) (enumerate_from (k + 1) objects) ≡ [] → Reaches (Passes told (Link to start all)) ((map ItsNote names ++ Join ∷ []) ++ Y) step)
          → (r : Result Note NoteError) → reading o ≡ r → note_fault k r ++ flat_map (λ (i : ℕ × Object). note_fault i.0 (reading i.1)) (enumerate_from (k + 1) objects) ≡ []
          → Reaches (Passes told (Link to start all)) ((map ItsNote (name ∷ names) ++ Join ∷ []) ++ Y) step
      by_reading go (Err fault) is some = absurd cc
      by_reading go (Ok note) is others = inr (note_passes name o note holds.0 is, go others)

  -- to the first note that cannot be read
  notes_come : (names : List (List ℕ)) (objects : List Object) (k input : ℕ) (fault : NoteError) (Y : List Step) → HoldObjects told names objects
      → first (flat_map (λ (i : ℕ × Object). note_fault i.0 (reading i.1)) (enumerate_from k objects)) ≡ Some (errors.Note input fault)
      → (i : ℕ) × (input ≡ k + i) × Reaches (Passes told (Link to start all)) ((map ItsNote names ++ Join ∷ []) ++ Y) (ItsNote (word_at names i))
      × FileMeets told (word_at names i) (IsUnfitFor (Link to start all) (NoInputNote fault))
  notes_come [] [] k input fault Y holds is = absurd cc
  notes_come [] (o ∷ objects) k input fault Y holds is = absurd holds
  notes_come (name ∷ names) [] k input fault Y holds is = absurd holds
  notes_come (name ∷ names) (o ∷ objects) k input fault Y holds is = by_reading (λ later. notes_come names objects (k + 1) input fault Y holds.1 later) (reading o) refl is
    where
      by_reading : (first (flat_map (λ (i : ℕ × Object). note_fault i.0 (reading i.1)) (enumerate_from (k + 1) objects)) ≡ Some (errors.Note input fault)
          → (i : ℕ) × (input ≡ k + 1 + i) × Reaches (Passes told (Link to start all)) ((map ItsNote names ++ Join ∷ []) ++ Y) (ItsNote (word_at names i))
          × FileMeets told (word_at names i) (IsUnfitFor (Link to start all) (NoInputNote fault)))
          → (r : Result Note NoteError) → reading o ≡ r
          → first (note_fault k r ++ flat_map (λ (i : ℕ × Object). note_fault i.0 (reading i.1)) (enumerate_from (k + 1) objects)) ≡ Some (errors.Note input fault)
          → (i : ℕ) × (input ≡ k + i) × Reaches (Passes told (Link to start all)) ((map ItsNote (name ∷ names) ++ Join ∷ []) ++ Y) (ItsNote (word_at (name ∷ names) i))
          × FileMeets told (word_at (name ∷ names) i) (IsUnfitFor (Link to start all) (NoInputNote fault))
      by_reading go (Err found) read same =
          let its : k ≡ input = cc in
          let why : found ≡ fault = cc in (
            0,
            omega (arith, its),
            inl refl,
            meets_more told name (λ held. held ≡ holds.0.0) (IsUnfitFor (Link to start all) (NoInputNote fault))
                (λ held eq. (o, subst (λ (b : List ℕ). IsObjectFile b o) (sym eq) holds.0.2, read ∙ ap Err why)) holds.0.1.0,
          )
      by_reading go (Ok note) read same =
          let (i, its, comes, meets) = go same in
          (suc i, omega (arith, its), inr (note_passes name o note holds.0 read, comes), meets)

-- ---- what is refused

first_of_notes : (objects : List Object) → note_faults objects ≡ flat_map (λ (i : ℕ × Object). note_fault i.0 (reading i.1)) (enumerate_from 0 objects)
unfolding note_faults
first_of_notes objects = refl

-- the fault of a note is that of a file
pub link_note_unfit : (told : Option Contents) (to start : List ℕ) (names : List (List ℕ)) (objects : List Object) (input : ℕ) (fault : NoteError) → HoldObjects told names objects
    → IsLinkFault objects start (errors.Note input fault) → IsUnfit told (Link to start names) (word_at names input) (NoInputNote fault)
link_note_unfit told to start names objects input fault holds (inr later) = absurd (later_fault objects start later.0 (errors.Note input fault) later.2)
link_note_unfit told to start names objects input fault holds (inl early) =
    let command = Link to start names in
    let (i, its, comes, meets) = notes_come told to start names names objects 0 input fault (Replace to ∷ []) holds (sym (ap first (first_of_notes objects)) ∙ early) in
    let same : i ≡ input = omega (arith, its) in
    let here : IsUnfit told command (word_at names i) (NoInputNote fault) = (
      objects_read told to start names names objects _ (ItsNote (word_at names i)) holds
          (objects_formed told to start names names objects (map ItsNote names ++ Join ∷ []) (Replace to ∷ []) (ItsNote (word_at names i)) holds comes),
      meets,
    ) in
    subst (λ (n : ℕ). IsUnfit told command (word_at names n) (NoInputNote fault)) same here

-- what is linked is written
pub link_replaces : (told : Option Contents) (to start : List ℕ) (names : List (List ℕ)) (objects : List Object) (exec : Exec) → HoldObjects told names objects
    → IsLinked objects start exec → ComesTo told (Link to start names) (Replace to)
link_replaces told to start names objects exec holds linked =
    objects_read told to start names names objects _ (Replace to) holds
    (objects_formed told to start names names objects (map ItsNote names ++ Join ∷ []) (Replace to ∷ []) (Replace to) holds
    (objects_noted told to start names names objects 0 (Replace to ∷ []) (Replace to) holds (sym (first_of_notes objects) ∙ linked.1.0)
    (inr ((exec, (objects, holds, linked)), inl refl))))

-- the fault of a note is not want of memory
note_known : (fault : LinkError) (input : ℕ) (error : NoteError) → fault ≡ errors.Note input error → fault ≢ errors.NoMemory
note_known fault input error is same = absurd cc

-- a fault that was not told
pub link_untold : (e : Effects) (to start : List ℕ) (names : List (List ℕ)) (objects : List Object) (fault : LinkError) (refusal : Refusal) → HoldObjects e.files names objects
    → (fault ≢ errors.NoMemory → IsLinkFault objects start fault)
    → IsUntold e.out_before e.out_after e.out_faults_before e.out_faults_after start names objects fault refusal → HasCause e (Link to start names) refusal
link_untold e to start names objects fault (Unread name) holds is untold = absurd untold.1
link_untold e to start names objects fault (Unfit name why) holds is untold =
    let (input, error, its, word, reason) = untold.1 in
    let command = Link to start names in
    let first : IsLinkFault objects start (errors.Note input error) = subst (λ (f : LinkError). IsLinkFault objects start f) its (is (note_known fault input error its)) in
    let unfit : IsUnfit e.files command (word_at names input) (NoInputNote error) = link_note_unfit e.files to start names objects input error holds first in
    (untold.0, subst (λ (w : Reason). IsUnfit e.files command name.now w) (sym reason) (subst (λ (n : List ℕ). IsUnfit e.files command n (NoInputNote error)) (sym word) unfit))
link_untold e to start names objects fault (Unreplaced name line) holds is untold = absurd untold.1
link_untold e to start names objects fault NoMemory holds is untold = (untold.0, tt)
link_untold e to start names objects fault Unwritten holds is untold =
    let of_link : IsOfLink fault = untold.2 in
    (untold.0, (1, fault_line start names objects fault, untold.1, inr ((objects, fault, holds, is (of_link_known fault of_link), of_link, refl), refl)))

-- what is no line is not told
pub no_line_untold : (old : Option (List ℕ)) (before after : ℕ) (start : List ℕ) (names : List (List ℕ)) (objects : List Object) (fault : LinkError) (refusal : Refusal) → IsNoLine names fault refusal
    → IsUntold old old before after start names objects fault refusal
no_line_untold old before after start names objects fault (Unread name) none = absurd none
no_line_untold old before after start names objects fault (Unfit name why) none = (gains_nothing old, none)
no_line_untold old before after start names objects fault (Unreplaced name line) none = absurd none
no_line_untold old before after start names objects fault NoMemory none = (gains_nothing old, tt)
no_line_untold old before after start names objects fault Unwritten none = absurd none

-- ---- what `link` answers, by what it does last

module _ (told : Option Contents) (to start : List ℕ) (names : List (List ℕ)) (objects : List Object) (holds : HoldObjects told names objects) where
  -- the executable was written, or could not be
  pub save_left : (r : Result ℕ Refusal) (now : Option Contents) (exec : Exec) → IsLinked objects start exec → IfOk r (λ status. status ≡ 0) → IfOk r (λ status. IsExecFile (written_exec exec) exec)
      → IfOk r (λ status. Replaces told now to (written_exec exec)) → IfOk r (λ status. LeavesWith status told now (Link to start names))
  save_left (Ok status) now exec linked done file replaced = inl (done, (exec, (objects, holds, linked), file, replaced))
  save_left (Err refusal) now exec linked done file replaced = tt

  pub save_reported : (r : Result ℕ Refusal) (out : Option (List ℕ)) (exec : Exec) → IsLinked objects start exec → IfOk r (λ status. status ≡ 0)
      → IfOk r (λ status. (text : List ℕ) × Gains out out text × IsReport told [] (Link to start names) status text)
  save_reported (Ok status) out exec linked done = ([], gains_nothing out, inl ((exec, (objects, holds, linked)), done, refl))
  save_reported (Err refusal) out exec linked done = tt

  pub save_refused : (r : Result ℕ Refusal) (e : Effects) (middle : ℕ) (exec : Exec) → e.files ≡ told → e.out_after ≡ e.out_before → e.faults_before ≤ middle → IsLinked objects start exec
      → IfErr r (λ refusal. (command : Command) → IsAtStep told middle e.faults_after command (Replace to) refusal) → IfErr r (HasCause e (Link to start names))
  save_refused (Ok status) e middle exec same silent order linked at = tt
  save_refused (Err refusal) e middle exec same silent order linked at =
      let command = Link to start names in
      let here : IsOfFiles told e.faults_before e.faults_after command refusal =
      of_files told e.faults_before e.faults_after command (Replace to) refusal (link_replaces told to start names objects exec holds linked)
      (at_later told e.faults_before middle e.faults_after command (Replace to) refusal order (at command)) in
      before_output e command refusal (subst (λ (o : Option (List ℕ)). Gains e.out_before o []) (sym silent) (gains_nothing e.out_before))
      (subst (λ (t : Option Contents). IsOfFiles t e.faults_before e.faults_after command refusal) (sym same) here)

  -- the fault was told, or could not be
  pub tell_left : (r : Result ℕ Refusal) (now : Option Contents) → now ≡ told → IfOk r (λ status. status ≡ 1) → IfOk r (λ status. LeavesWith status told now (Link to start names))
  tell_left (Ok status) now same one = inr (one, same)
  tell_left (Err refusal) now same one = tt

  pub tell_left_refused : (r : Result ℕ Refusal) (now : Option Contents) → now ≡ told → IfErr r (LeavesRefused told now)
  tell_left_refused (Ok status) now same = tt
  tell_left_refused (Err refusal) now same = stays_refused told now refusal same

  pub tell_reported : (r : Result ℕ Refusal) (old new : Option (List ℕ)) (fault : LinkError) → (fault ≢ errors.NoMemory → IsLinkFault objects start fault) → IfOk r (λ status. status ≡ 1) → IfOk r (λ status. IsOfLink fault)
      → IfOk r (λ status. Gains old new (fault_line start names objects fault)) → IfOk r (λ status. (text : List ℕ) × Gains old new text × IsReport told [] (Link to start names) status text)
  tell_reported (Ok status) old new fault is one of_link gains =
      (fault_line start names objects fault, gains, inr ((objects, fault, holds, is (of_link_known fault of_link), of_link, refl), one))
  tell_reported (Err refusal) old new fault is one of_link gains = tt

  pub tell_refused : (r : Result ℕ Refusal) (e : Effects) (fault : LinkError) → e.files ≡ told → (fault ≢ errors.NoMemory → IsLinkFault objects start fault)
      → IfErr r (IsUntold e.out_before e.out_after e.out_faults_before e.out_faults_after start names objects fault) → IfErr r (HasCause e (Link to start names))
  tell_refused (Ok status) e fault same is untold = tt
  tell_refused (Err refusal) e fault same is untold =
      link_untold e to start names objects fault refusal (subst (λ (t : Option Contents). HoldObjects t names objects) (sym same) holds) is untold
