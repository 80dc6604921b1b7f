-- The steps of a command: which it comes to, and what a refusal at one of them says.
use Rattle.std.proofs.Common.{◌≡◌, ℕ, zero, suc, ◌<◌, ◌≤◌, List, [], ◌∷◌, ◌++◌, length, map, get_or, take, Option, inl, inr, refl, sym, subst, arith, Bor}
use Rattle.cet_base.specs.declared.reading.TheConstants.{FILE_LIMIT}
use Rattle.cet_base.specs.Files.{Contents, FileMeets}
use Rattle.cet_base.specs.Sink.{Gains}
use Rattle.cet_base.proofs.SinkLemmas.{Rose-later}
use Rattle.cet_note.specs.Note.{Note}
use Rattle.cet_elf.specs.declared.object.Object.{Object}
use Rattle.cet_asm.specs.Assembled.{Assembles}
use Rattle.cet_verbs.specs.declared.refusal.Refusal.{Refusal}
use Rattle.cet_verbs.specs.declared.refusal.Refusal.TheVariants.{Unread, Unfit, Unreplaced, NoMemory, Unwritten}
use Rattle.cet_verbs.specs.Command.{Command, Asm, Notes, files_of, replaced_by}
use Rattle.cet_verbs.specs.Named.{names_of}
use Rattle.cet_verbs.specs.Held.{HoldsBytes}
use Rattle.cet_verbs.specs.Notes.{AllBoth, HoldsNote, IsFileNote}
use Rattle.cet_verbs.specs.Steps.{Step, Read, Form, Replace, Passes, Reaches, ComesTo, HasForm, forms_of}
use Rattle.cet_verbs.specs.Refused.{Effects, HasCause, IsAtStep, IsOfFiles}
use Rattle.cet_verbs.proofs.Reports.{meets_more}
use Rattle.cet_verbs.proofs.NameLemmas.{name_at, length-names_of}

-- files that hold notes, from their bytes
pub hold_notes : (told : Option Contents) (names held : List (List ℕ)) (notes : List Note) → AllBoth (HoldsBytes told) names held → AllBoth IsFileNote held notes → AllBoth (HoldsNote told) names notes
hold_notes told [] [] [] holds each = tt
hold_notes told [] [] (note ∷ notes) holds each = absurd each
hold_notes told [] (bytes ∷ held) notes holds each = absurd holds
hold_notes told (name ∷ names) [] notes holds each = absurd holds
hold_notes told (name ∷ names) (bytes ∷ held) [] holds each = absurd each
hold_notes told (name ∷ names) (bytes ∷ held) (note ∷ notes) holds each = ((bytes, holds.0, each.0), hold_notes told names held notes holds.1 each.1)

-- a file whose bytes were read passes its read
pub passes_read : (told : Option Contents) (command : Command) (name bytes : List ℕ) → HoldsBytes told name bytes → Passes told command (Read name)
passes_read told command name bytes holds =
    meets_more told name (λ held. held ≡ bytes) (λ held. length held ≤ FILE_LIMIT) (λ held same. subst (λ (b : List ℕ). length b ≤ FILE_LIMIT) (sym same) holds.1) holds.0

-- to the read numbered i
reads_come : (told : Option Contents) (command : Command) (names held : List (List ℕ)) (rest : List Step) (i : ℕ) (d : List ℕ) → i < length names → AllBoth (HoldsBytes told) (take i names) held
    → Reaches (Passes told command) (map Read names ++ rest) (Read (get_or names i d))
reads_come told command [] held rest i d below holds = absurd (omega arith)
reads_come told command (name ∷ names) held rest zero d below holds = inl refl
reads_come told command (name ∷ names) [] rest (suc i) d below holds = absurd holds
reads_come told command (name ∷ names) (bytes ∷ held) rest (suc i) d below holds = inr (passes_read told command name bytes holds.0, reads_come told command names held rest i d (omega arith) holds.1)

-- past the reads
pub reads_pass : (told : Option Contents) (command : Command) (names held : List (List ℕ)) (rest : List Step) (step : Step) → AllBoth (HoldsBytes told) names held
    → Reaches (Passes told command) rest step → Reaches (Passes told command) (map Read names ++ rest) step
reads_pass told command [] [] rest step holds reach = reach
reads_pass told command [] (bytes ∷ held) rest step holds reach = absurd holds
reads_pass told command (name ∷ names) [] rest step holds reach = absurd holds
reads_pass told command (name ∷ names) (bytes ∷ held) rest step holds reach = inr (passes_read told command name bytes holds.0, reads_pass told command names held rest step holds.1 reach)

-- what the files hold is what their bytes are
pub hold_both : {X : Type 0} (told : Option Contents) (R : List ℕ → X → Type 0) (names held : List (List ℕ)) (xs : List X) → AllBoth (HoldsBytes told) names held → AllBoth R held xs
    → AllBoth (λ name x. (bytes : List ℕ) × HoldsBytes told name bytes × R bytes x) names xs
hold_both told R [] [] [] holds each = tt
hold_both told R [] [] (x ∷ xs) holds each = absurd each
hold_both told R [] (bytes ∷ held) xs holds each = absurd holds
hold_both told R (name ∷ names) [] xs holds each = absurd holds
hold_both told R (name ∷ names) (bytes ∷ held) [] holds each = absurd each
hold_both told R (name ∷ names) (bytes ∷ held) (x ∷ xs) holds each = ((bytes, holds.0, each.0), hold_both told R names held xs holds.1 each.1)

-- a command whose form is that the bytes are something
module _ {X : Type 0} (told : Option Contents) (command : Command) (R : List ℕ → X → Type 0) (form : (held : List ℕ) (x : X) → R held x → HasForm command held) where
  -- a file whose bytes were read passes its form where they are
  pub passes_form : (name bytes : List ℕ) (x : X) → HoldsBytes told name bytes → R bytes x → Passes told command (Form name)
  passes_form name bytes x holds is =
      meets_more told name (λ held. held ≡ bytes) (HasForm command) (λ held same. form held x (subst (λ (b : List ℕ). R b x) (sym same) is)) holds.0

  -- to the form numbered i
  pub forms_come : (names held : List (List ℕ)) (xs : List X) (rest : List Step) (i : ℕ) (d : List ℕ) → i < length names → AllBoth (HoldsBytes told) names held → AllBoth R (take i held) xs → Reaches (Passes told command) (map Form names ++ rest) (Form (get_or names i d))
  forms_come [] held xs rest i d below holds each = absurd (omega arith)
  forms_come (name ∷ names) held xs rest zero d below holds each = inl refl
  forms_come (name ∷ names) [] xs rest (suc i) d below holds each = absurd holds
  forms_come (name ∷ names) (bytes ∷ held) [] rest (suc i) d below holds each = absurd each
  forms_come (name ∷ names) (bytes ∷ held) (x ∷ xs) rest (suc i) d below holds each =
      inr (passes_form name bytes x holds.0 each.0, forms_come names held xs rest i d (omega arith) holds.1 each.1)

-- a refusal at a step that the command comes to
pub of_files : (told : Option Contents) (before after : ℕ) (command : Command) (step : Step) (refusal : Refusal) → ComesTo told command step → IsAtStep told before after command step refusal → IsOfFiles told before after command refusal
of_files told before after command step (Unread name) comes is = (subst (λ (s : Step). ComesTo told command s) is.0 comes, is.1)
of_files told before after command step (Unfit name why) comes is = (subst (λ (s : Step). ComesTo told command s) is.0 comes, is.1)
of_files told before after command step (Unreplaced name line) comes is = (subst (λ (s : Step). ComesTo told command s) is.0 comes, is.1, is.2)
of_files told before after command step NoMemory comes is = tt
of_files told before after command step Unwritten comes is = is

-- a count that rose after another time
pub at_later : (told : Option Contents) (start before after : ℕ) (command : Command) (step : Step) (refusal : Refusal) → start ≤ before → IsAtStep told before after command step refusal → IsAtStep told start after command step refusal
at_later told start before after command step (Unread name) order is =
    (is.0, elim is.1 [ inl rose ↦ inl (Rose-later start before after order rose) | inr absent ↦ inr absent ])
at_later told start before after command step (Unfit name why) order is = is
at_later told start before after command step (Unreplaced name line) order is = (is.0, Rose-later start before after order is.1, is.2)
at_later told start before after command step NoMemory order is = is
at_later told start before after command step Unwritten order is = is

-- a refusal that left the output alone
pub before_output : (e : Effects) (command : Command) (refusal : Refusal) → Gains e.out_before e.out_after [] → IsOfFiles e.files e.faults_before e.faults_after command refusal → HasCause e command refusal
before_output e command (Unread name) silent cause = (silent, cause)
before_output e command (Unfit name why) silent cause = (silent, cause)
before_output e command (Unreplaced name line) silent cause = (silent, cause)
before_output e command NoMemory silent cause = (silent, cause)
before_output e command Unwritten silent cause = absurd cause

-- a command of one file refused at its read, and at its form
pub one_read_refused : (told : Option Contents) (before after : ℕ) (command : Command) (name : List ℕ) (refusal : Refusal) → files_of command ≡ name ∷ [] → IsAtStep told before after command (Read name) refusal → IsOfFiles told before after command refusal
one_read_refused told before after command name refusal one at =
    of_files told before after command (Read name) refusal (subst (λ (names : List (List ℕ)). Reaches (Passes told command) (map Read names ++ (forms_of command ++ map Replace (replaced_by command))) (Read name)) (sym one) (inl refl)) at

pub one_form_refused : (told : Option Contents) (before after : ℕ) (command : Command) (name bytes : List ℕ) (refusal : Refusal) → files_of command ≡ name ∷ [] → forms_of command ≡ Form name ∷ [] → HoldsBytes told name bytes → IsAtStep told before after command (Form name) refusal → IsOfFiles told before after command refusal
one_form_refused told before after command name bytes refusal one form holds at =
    of_files told before after command (Form name) refusal
    (subst (λ (names : List (List ℕ)). Reaches (Passes told command) (map Read names ++ (forms_of command ++ map Replace (replaced_by command))) (Form name)) (sym one)
    (inr (passes_read told command name bytes holds, subst (λ (forms : List Step). Reaches (Passes told command) (forms ++ map Replace (replaced_by command)) (Form name)) (sym form) (inl refl))))
    at

-- `asm` comes to the replacement of its file where the other one holds the text of an object
pub asm_replaces : (told : Option Contents) (out file text : List ℕ) (object : Object) → HoldsBytes told file text → Assembles text object → ComesTo told (Asm out file) (Replace out)
asm_replaces told out file text object holds is =
    let form : FileMeets told file (HasForm (Asm out file)) = meets_more told file (λ held. held ≡ text) (HasForm (Asm out file)) (λ held same. (object, subst (λ (b : List ℕ). Assembles b object) (sym same) is)) holds.0 in
    inr (passes_read told (Asm out file) file text holds, inr (form, inl refl))

-- the read numbered i refused
pub read_refused : (told : Option Contents) (start before after : ℕ) (command : Command) (names held : List (List ℕ)) (i : ℕ) (name : List ℕ) (refusal : Refusal) → files_of command ≡ names → i < length names → get_or names i name ≡ name
    → AllBoth (HoldsBytes told) (take i names) held → start ≤ before → IsAtStep told before after command (Read name) refusal → IsOfFiles told start after command refusal
read_refused told start before after command names held i name refusal same below is holds order at =
    let later : List Step = forms_of command ++ map Replace (replaced_by command) in
    let comes : Reaches (Passes told command) (map Read names ++ later) (Read name) =
    subst (λ (n : List ℕ). Reaches (Passes told command) (map Read names ++ later) (Read n)) is (reads_come told command names held later i name below holds) in
    of_files told start after command (Read name) refusal
    (subst (λ (all : List (List ℕ)). Reaches (Passes told command) (map Read all ++ later) (Read name)) (sym same) comes)
    (at_later told start before after command (Read name) refusal order at)

-- the form numbered i refused
pub form_refused : (told : Option Contents) (before after : ℕ) (names held : List (List ℕ)) (notes : List Note) (i : ℕ) (name : List ℕ) (refusal : Refusal) → i < length names → get_or names i name ≡ name → AllBoth (HoldsBytes told) names held → AllBoth IsFileNote (take i held) notes → IsAtStep told before after (Notes names) (Form name) refusal → IsOfFiles told before after (Notes names) refusal
form_refused told before after names held notes i name refusal below is holds each at =
    of_files told before after (Notes names) (Form name) refusal
    (subst (λ (n : List ℕ). ComesTo told (Notes names) (Form n)) is
    (reads_pass told (Notes names) names held (map Form names ++ []) (Form (get_or names i name)) holds (forms_come told (Notes names) IsFileNote (λ b note is. (note, is)) names held notes [] i name below holds each)))
    at

-- the bytes of the file numbered i
pub bytes_at : (told : Option Contents) (names held : List (List ℕ)) (i : ℕ) (name d : List ℕ) → i < length names → AllBoth (HoldsBytes told) names held → FileMeets told (get_or names i name) (λ b. b ≡ get_or held i d)
bytes_at told [] held i name d below holds = absurd (omega arith)
bytes_at told (n ∷ names) [] i name d below holds = absurd holds
bytes_at told (n ∷ names) (b ∷ held) zero name d below holds = holds.0.0
bytes_at told (n ∷ names) (b ∷ held) (suc i) name d below holds = bytes_at told names held i name d (omega arith) holds.1

-- the same by the name at place i
pub meets_at : (told : Option Contents) (names : List (Bor (List ℕ))) (held : List (List ℕ)) (i : ℕ) (name : Bor (List ℕ)) (bytes : List ℕ) → i < length names
    → get_or held i bytes ≡ bytes → AllBoth (HoldsBytes told) (names_of names) held → FileMeets told (get_or names i name).now (λ b. b ≡ bytes)
meets_at told names held i name bytes below its holds =
    let within : i < length (names_of names) = omega (arith, length-names_of names) in
    subst (λ (n : List ℕ). FileMeets told n (λ b. b ≡ bytes)) (name_at names i name [] below)
    (subst (λ (x : List ℕ). FileMeets told (get_or (names_of names) i []) (λ b. b ≡ x)) its (bytes_at told (names_of names) held i [] bytes within holds))
