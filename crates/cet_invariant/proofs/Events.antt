-- The laws: an event keeps a sound state sound and is no death by control protection, and so is no list of events.
use Rattle.std.proofs.Common.{◌≡◌, ℕ, zero, suc, inl, inr, ⊎_elim, Bool, true, false, nat_lt, List, [], ◌∷◌, length, take, slice_get, slice_set, All, Option, Some, None, is_some, option_map, refl, sym, ap, ◌∙◌, subst, if◌then◌else◌}
use Rattle.std.specs.Option.{option_and_then}
use Rattle.std.proofs.lemmas.Bool.{cases_Bool, cond-true, cond-false, both_ways}
use Rattle.std.proofs.lemmas.List.Elements.{All-head}
use Rattle.cet_isa.specs.declared.registers.Mode.{Mode}
use Rattle.cet_isa.specs.declared.registers.Regs.{Regs}
use Rattle.cet_machine.specs.declared.action.Action.{Action}
use Rattle.cet_machine.specs.Machine.{Machine}
use Rattle.cet_machine.specs.Step as machine
use Rattle.cet_machine.specs.Step.{StepEnd, step}
use Rattle.cet_rules.specs.declared.covered.Covered.TheVariants.{EndBr64, MovEax}
use Rattle.cet_rules.specs.declared.function.Function.{Function}
use Rattle.cet_rules.specs.declared.image.Image.{Image}
use Rattle.cet_rules.specs.declared.piece.Piece.{Piece}
use Rattle.cet_rules.specs.First.{KeepsRules}
use Rattle.cet_rules.specs.Piece.{instruction_at, IsPiece}
use Rattle.cet_process.specs.declared.event.Event.{Event}
use Rattle.cet_process.specs.declared.event.Event.TheVariants.{Step, Signal}
use Rattle.cet_process.specs.declared.outcome.Outcome.TheVariants.{Ran, Ignored}
use Rattle.cet_process.specs.State.{State, regs_of, action_of}
use Rattle.cet_process.specs.Start.{start}
use Rattle.cet_process.specs.After.{After, with_machine, after_step_end, after_step, after_signal, after_living, after}
use Rattle.cet_process.specs.Laws.{HasRegisters}
use Rattle.cet_process.specs.Run.{is_cp_death, state_after, DiedOfControlProtection, CpFree}
use Rattle.cet_invariant.specs.Contexts.{HasImage, HasOwners, Sorts, IsSound}
use Rattle.cet_invariant.specs.Standing.{EndBranchAt, Stands}
use Rattle.cet_invariant.specs.Standing.StandsAt.{prologue, piece, inside}
use Rattle.cet_invariant.proofs.Cuts.{Standing, standing}
use Rattle.cet_invariant.proofs.Cuts.Standing.{one, two}
use Rattle.cet_invariant.proofs.Instructions.{one_instruction}
use Rattle.cet_invariant.proofs.Steps.{EndsSoundly}
use Rattle.cet_invariant.proofs.Prologue.{prologue_is_sound}
use Rattle.cet_invariant.proofs.Single.{single_is_sound}
use Rattle.cet_invariant.proofs.ConstJump.{constant_is_sound, inside_is_sound}
use Rattle.cet_invariant.proofs.Entry.{IsEntered, entered}
use Rattle.cet_invariant.proofs.Ends.{event_ends}
use Rattle.cet_invariant.proofs.Frame.{sorts_after}
use Rattle.cet_invariant.proofs.Started.{start_sorts, start_lives}

-- ---- a step of a thread that stands in the entry's function

-- at the start of a piece
piece_is_sound : (image : Image) (f : Function) (p : Piece) (mode : Mode) (free : ℕ) (m : Machine) → HasImage image m.memory → IsEntered image f → length m.regs.r ≡ 16
    → IsPiece image f p → m.regs.rip ≡ p.at → (m.regs.waiting ≡ true → EndBranchAt image f m.regs.rip) → Standing image f p.at p → EndsSoundly image f (step mode free m)
piece_is_sound image f p mode free m has is sixteen stands at tracker (one i n e next kind) =
    let here : instruction_at image f m.regs.rip ≡ Some (i, n) = subst (λ (a : ℕ). instruction_at image f a ≡ Some (i, n)) (sym at) e in
    single_is_sound image f p i n mode free m has is.regular is.keeps is.stays stands at (λ waits. let marked = tracker waits in one_instruction image f m.regs.rip i EndBr64 n marked.0 here marked.1) e next kind
piece_is_sound image f p mode free m has is sixteen stands at tracker (two imm n k e later next kind) =
    let here : instruction_at image f m.regs.rip ≡ Some (MovEax imm, n) = subst (λ (a : ℕ). instruction_at image f a ≡ Some (MovEax imm, n)) (sym at) e in
    constant_is_sound image f p imm n mode free m has is.regular is.keeps sixteen stands at (λ waits. let marked = tracker waits in let is = one_instruction image f m.regs.rip (MovEax imm) EndBr64 n marked.0 here marked.1 in cc) e kind

-- wherever it stands
stands_on : (image : Image) (f : Function) (mode : Mode) (free : ℕ) (m : Machine) → HasImage image m.memory → IsEntered image f → length m.regs.r ≡ 16
    → Stands image f m.regs → EndsSoundly image f (step mode free m)
stands_on image f mode free m has is sixteen stands = elim (stands.at) [
  | prologue p is_prologue at ↦ prologue_is_sound image f p mode free m has is.regular is.keeps is_prologue at
  | piece p is_piece at ↦ piece_is_sound image f p mode free m has is sixteen is_piece at stands.tracker (standing image f p.at p is_piece.stands).1
  | inside p is_piece facts ↦ inside_is_sound image f p p.kind mode free m has is.regular is.keeps is_piece refl facts stands.tracker
]

-- ---- what an event comes to

-- a sound state, by another outcome than a death by control protection
pub record Survives (image : Image) (x : After) : Type 0 where
  pub sound : IsSound image x.0
  pub no_death : is_cp_death (Some x.1) ≡ false

pub no_cp_death : (image : Image) (x : After) → Survives image x → is_cp_death (Some x.1) ≡ true → ⊥
no_cp_death image x survives died = both_ways (is_cp_death (Some x.1)) survives.no_death died

ignored : (image : Image) (S : State) (x : After) → IsSound image S → x ≡ (S, Ignored) → Survives image x
ignored image S x sound e = subst (Survives image) (sym e) (record { sound = sound; no_death = refl })

-- ---- a step

sixteen_registers : (S : State) (R : Regs) → All HasRegisters S.threads → S.threads ≡ Some R ∷ [] → length R.r ≡ 16
sixteen_registers S R have threads = All-head HasRegisters (Some R) [] (subst (All HasRegisters) threads have)

regs_in : List (Option Regs) → ℕ → Option Regs
regs_in threads t = option_and_then (λ thread. thread) (slice_get threads t)

-- the only thread of a sorted process makes a step that ends soundly
after_end : (image : Image) (S : State) (event : Event) (free answer : ℕ) (e : StepEnd) (sorted : Sorts image S) → after S event ≡ after_step_end zero answer sorted.owners.regs e S
    → EndsSoundly image sorted.owners.context.function e → Survives image (after_step_end zero answer sorted.owners.regs e S)
after_end image S event free answer (machine.Next m) sorted comes sound =
    let owners : HasOwners image (with_machine zero m S) = record {
      regs = m.regs;
      threads = ap (λ (l : List (Option Regs)). slice_set l 0 (Some m.regs)) sorted.owners.threads;
      context = record { function = sorted.owners.context.function; is_root = sorted.owners.context.is_root; stands = sound };
    } in
    record { sound = inr (sorts_after image S event (with_machine zero m S) Ran sorted comes sorted.actions owners); no_death = refl }
after_end image S event free answer (machine.Syscall R) sorted comes sound = absurd sound
after_end image S event free answer (machine.Faulted fault) sorted comes sound = record { sound = inl refl; no_death = sound }

-- a step of any thread, with any free flags and answer
step_survives : (image : Image) (S : State) (t free answer : ℕ) → KeepsRules image → Sorts image S → after S (Step t free answer) ≡ after_step t free answer (regs_of S t) S
    → Survives image (after S (Step t free answer))
unfolding regs_in
step_survives image S (suc t) free answer keeps sorted living =
    ignored image S _ (inr sorted) (living ∙ ap (λ (l : List (Option Regs)). after_step (suc t) free answer (regs_in l (suc t)) S) sorted.owners.threads)
step_survives image S zero free answer keeps sorted living =
    of_free (nat_lt 15 free) (living ∙ ap (λ (l : List (Option Regs)). after_step zero free answer (regs_in l zero) S) sorted.owners.threads)
  where
    of_free : (other : Bool) → after S (Step zero free answer)
        ≡ (if other then (S, Ignored) else after_step_end zero answer sorted.owners.regs (step S.mode free (record { memory = S.memory; regs = sorted.owners.regs })) S)
        → Survives image (after S (Step zero free answer))
    of_free true comes = ignored image S _ (inr sorted) comes
    of_free false comes =
        let R = sorted.owners.regs in
        let m : Machine = record { memory = S.memory; regs = R } in
        let context = sorted.owners.context in
        let is = entered image context.function keeps context.is_root in
        let sixteen = sixteen_registers S R sorted.process.registers sorted.owners.threads in
        let sound = stands_on image context.function S.mode free m sorted.memory is sixteen context.stands in
        subst (Survives image) (sym comes) (after_end image S (Step zero free answer) free answer (step S.mode free m) sorted comes sound)

-- ---- a signal, for which no action is registered

signal_is_ignored : (t signo : ℕ) (thread : Option Regs) (action : Option Action) (S : State) → ((a : Action) → action ≡ Some a → ⊥) → after_signal t signo thread action S ≡ (S, Ignored)
signal_is_ignored t signo None action S none = refl
signal_is_ignored t signo (Some R) None S none = refl
signal_is_ignored t signo (Some R) (Some action) S none = absurd (none action refl)

-- ---- any event

living_survives : (image : Image) (S : State) (e : Event) → KeepsRules image → Sorts image S → after S e ≡ after_living S e → Survives image (after S e)
living_survives image S (Step t free answer) keeps sorted living = step_survives image S t free answer keeps sorted living
living_survives image S (Signal t signo) keeps sorted living =
    ignored image S _ (inr sorted) (living ∙ signal_is_ignored t signo (regs_of S t) (action_of S signo) S (sorted.actions signo))

ended_ignores : (S : State) (e : Event) → is_some S.end ≡ true → after S e ≡ (S, Ignored)
unfolding after
ended_ignores S e ended = cond-true (is_some S.end) (S, Ignored) (after_living S e) ended

lives_on : (S : State) (e : Event) → is_some S.end ≡ false → after S e ≡ after_living S e
unfolding after
lives_on S e lives = cond-false (is_some S.end) (S, Ignored) (after_living S e) lives

pub event_survives : (image : Image) (S : State) (e : Event) → KeepsRules image → IsSound image S → Survives image (after S e)
event_survives image S e keeps sound = elim (cases_Bool (is_some S.end)) [
  | inl ended ↦ ignored image S (after S e) sound (ended_ignores S e ended)
  | inr lives ↦ ⊎_elim (λ ended. absurd (both_ways (is_some S.end) lives ended)) (λ sorted. living_survives image S e keeps sorted (lives_on S e lives)) sound
]

-- ---- a list of events

no_death_in : (image : Image) (events : List Event) (S : State) → KeepsRules image → IsSound image S → is_cp_death S.end ≡ false → is_cp_death (state_after S events).end ≡ false
unfolding state_after
no_death_in image [] S keeps sound alive = alive
no_death_in image (e ∷ events) S keeps sound alive =
    let survives = event_survives image S e keeps sound in
    let still : is_cp_death (after S e).0.end ≡ false = ⊎_elim (λ same. ap is_cp_death same ∙ alive) (λ by_outcome. ap is_cp_death by_outcome ∙ survives.no_death) (event_ends S e) in
    no_death_in image events (after S e).0 keeps survives.sound still

-- no process of the image dies by control protection
pub events_are_cp_free : (image : Image) (input : List ℕ) (events : List Event) → KeepsRules image → CpFree image input events
events_are_cp_free image input events keeps n = of_start (start image input) refl
  where
    of_start : (o : Option State) → start image input ≡ o → DiedOfControlProtection (option_map (λ S. state_after S (take n events)) o) → ⊥
    of_start None e died = died
    of_start (Some S) e died =
        let sorted = start_sorts image input S keeps e in
        let alive : is_cp_death S.end ≡ false = start_lives image input S e in
        both_ways _ (no_death_in image (take n events) S keeps (inr sorted) alive) died
