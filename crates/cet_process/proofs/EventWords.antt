-- What an event leaves below 2^64.
use Rattle.std.proofs.Common.{◌≡◌, ℕ, ◌+◌, ◌-◌, ◌^◌, ◌<◌, ◌≤◌, inl, inr, Bool, true, false, ◌==◌, nat_lt, length, All, bit_or, Option, Some, None, is_some, is_none, Result, Ok, Err, IfOk, ok_or, refl, sym, subst, arith, if◌then◌else◌, lit<}
use Rattle.std.specs.List.{list_all}
use Rattle.std.specs.Option.{option_and_then}
use Rattle.std.proofs.Math.Pow.{pow-lt}
use Rattle.std.proofs.lemmas.Nat.{or_lt}
use Rattle.std.proofs.lemmas.List.Elements.{All-set, All-get_or}
use Rattle.std.proofs.lemmas.Option.{slice_get_cases}
use Rattle.cet_isa.specs.declared.register.Reg.TheVariants.{Rax, Rdx, Rsp, Rsi, Rdi}
use Rattle.cet_isa.specs.declared.fault.Fault.{Fault}
use Rattle.cet_isa.specs.declared.fault.Fault.TheVariants.{Page}
use Rattle.cet_isa.specs.declared.registers.Regs.{Regs}
use Rattle.cet_isa.specs.declared.registers.Mode.{Mode}
use Rattle.cet_machine.specs.declared.action.Action.{Action}
use Rattle.cet_machine.specs.Memory.{is_write, stored}
use Rattle.cet_machine.specs.MemoryLaws.{HaveBytes}
use Rattle.cet_machine.specs.MachineLaws as machine_laws
use Rattle.cet_machine.specs.MachineLaws.{KeepsRegions}
use Rattle.cet_machine.specs.Machine.{Machine}
use Rattle.cet_machine.specs.Operand.{value, with_value}
use Rattle.cet_machine.specs.ShadowEffect.{shadow_pushed}
use Rattle.cet_machine.specs.Signal.{deliver, sigreturn, frame_address, frame, bytes_of_words, marked, shadow_frame, at_handler, handler_mask, has_nodefer}
use Rattle.cet_machine.specs.Step as machine
use Rattle.cet_machine.specs.Step.{StepEnd, step}
use Rattle.cet_machine.proofs.Keeps.{write_keeps, after_ok, ok_or_some}
use Rattle.cet_machine.proofs.StepKeeps.{are_bytes}
use Rattle.cet_machine.proofs.Words.{memory_words}
use Rattle.cet_machine.proofs.EffectWords.{either_effect_words}
use Rattle.cet_machine.proofs.TransferWords.{wrapped, shadow_pushed_words, step_keeps_words, syscall_keeps_words}
use Rattle.cet_process.specs.declared.event.Event.{Event}
use Rattle.cet_process.specs.declared.event.Event.TheVariants.{Step, Signal}
use Rattle.cet_process.specs.State.{State, regs_of, with_thread, action_of}
use Rattle.cet_process.specs.Call.{Answer, refused, enosys, thread_limit, read, write, mmap, rt_sigaction, sched_yield, clone, arch_prctl, gettid, map_shadow_stack}
use Rattle.cet_process.specs.After.{After, died, rt_sigreturn, exit, exited, exit_group, answered, called, with_machine, after_step_end, after_step, after_delivery, is_blocked, after_signal, after_living, after}
use Rattle.cet_process.specs.Run.{InRange}
use Rattle.cet_process.specs.Laws.{IsWellFormed, AreWords, ThreadHasWords, ActionHasWords, HasWords, EventKeepsWords}
use Rattle.cet_process.proofs.Numbers.{to_machine, from_machine, with_value_words, returned_words}
use Rattle.cet_process.proofs.CallWords.{Answers, Holds, stays, refuses, read_answers, write_answers, mmap_answers, map_shadow_stack_answers, rt_sigaction_answers, clone_answers, arch_prctl_answers}
use Rattle.cet_process.proofs.Events.{event_keeps}

-- ---- what stands in a state

thread_words : (t : ℕ) (S : State) → All ThreadHasWords S.threads → ThreadHasWords (regs_of S t)
thread_words t S all = elim ((slice_get_cases S.threads t).1) [
  | inl (x, below, found, same) ↦
      subst (λ (o : Option (Option Regs)). ThreadHasWords (option_and_then (λ thread. thread) o)) (sym found)
      (subst ThreadHasWords same (All-get_or ThreadHasWords S.threads t x below all))
  | inr (past, none) ↦ subst (λ (o : Option (Option Regs)). ThreadHasWords (option_and_then (λ thread. thread) o)) (sym none) tt
]

-- an action for a signal up to 64
ActionFits : ℕ → Option Action → Type 0
ActionFits signo None = Unit {0}
ActionFits signo (Some action) = ActionHasWords (Some action) × (signo - 1 < 64)

action_fits_at : (signo : ℕ) (o : Option Action) → ActionHasWords o → signo - 1 < 64 → ActionFits signo o
unfolding ActionFits
action_fits_at signo None words below = tt
action_fits_at signo (Some action) words below = (words, below)

none_or_fits : (b : Bool) (signo : ℕ) (o : Option Action) → ActionFits signo o → ActionFits signo (if b then None else o)
unfolding ActionFits
none_or_fits true signo o h = tt
none_or_fits false signo o h = h

action_fits : (signo : ℕ) (S : State) → length S.actions ≡ 64 → All ActionHasWords S.actions → ActionFits signo (action_of S signo)
unfolding ActionFits
action_fits signo S count all = none_or_fits (signo == 0) signo _ (elim ((slice_get_cases S.actions (signo - 1)).1) [
  | inl (x, below, found, same) ↦
      subst (λ (o : Option (Option Action)). ActionFits signo (option_and_then (λ action. action) o)) (sym found)
      (action_fits_at signo x (subst ActionHasWords same (All-get_or ActionHasWords S.actions (signo - 1) x below all)) (subst (λ (n : ℕ). signo - 1 < n) count below))
  | inr (past, none) ↦ subst (λ (o : Option (Option Action)). ActionFits signo (option_and_then (λ action. action) o)) (sym none) tt
])

-- ---- changes of a state

thread_holds : (t : ℕ) (thread : Option Regs) (S : State) → Holds S → ThreadHasWords thread → Holds (with_thread t thread S)
thread_holds t thread S h words = record { threads = All-set ThreadHasWords S.threads t thread words h.threads; actions = h.actions }

same_holds : (S T : State) → T.threads ≡ S.threads → T.actions ≡ S.actions → Holds S → Holds T
same_holds S T threads actions h = record { threads = subst (All ThreadHasWords) (sym threads) h.threads; actions = subst (All ActionHasWords) (sym actions) h.actions }

either : (b : Bool) (x y : After) → Holds x.0 → Holds y.0 → Holds (if b then x else y).0
either true x y h k = h
either false x y h k = k

died_holds : (t : ℕ) (R : Regs) (fault : Fault) (S : State) → Holds S → Holds (died t R fault S).0
died_holds t R fault S h = same_holds S _ refl refl h

answered_holds : (t : ℕ) (R : Regs) (x : Answer) → AreWords R → Answers x → Holds (answered t R x).0
answered_holds t R x words a =
    thread_holds t (Some (with_value R Rax x.1)) x.0 (record { threads = a.threads; actions = a.actions }) (with_value_words R Rax x.1 words a.answer)

exit_holds : (t status : ℕ) (S : State) → Holds S → Holds (exit t status S).0
exit_holds t status S h =
    let rest = with_thread t None S in
    let k = thread_holds t None S h tt in
    either (list_all is_none rest.threads) _ _ (same_holds rest (exited status rest).0 refl refl k) k

sigreturn_holds : (t : ℕ) (R : Regs) (x : Result Regs Fault) (S : State) → Holds S → IfOk x AreWords → Holds (rt_sigreturn t R x S).0
sigreturn_holds t R (Ok restored) S h words = thread_holds t (Some restored) S h words
sigreturn_holds t R (Err fault) S h words = died_holds t R fault S h

called_holds : (t answer : ℕ) (R R' : Regs) (S : State) → Holds S → HaveBytes S.memory → length S.threads ≤ thread_limit → AreWords R' → t < 2 ^ 32 → answer < 2 ^ 64
    → Holds (called t answer R R' S).0
unfolding called gettid sched_yield
called_holds t answer R R' S h bytes few words number_fits answer_fits =
    let n = value R' Rax in
    either (n == 0) _ _ (answered_holds t R' (read answer R' S) words (read_answers answer R' S h words))
    (either (n == 1) _ _ (answered_holds t R' (write R' S) words (write_answers R' S h words))
    (either (n == 9) _ _ (answered_holds t R' (mmap answer R' S) words (mmap_answers answer R' S h answer_fits))
    (either (n == 13) _ _ (answered_holds t R' (rt_sigaction R' S) words (rt_sigaction_answers R' S h bytes))
    (either (n == 15) _ _
    (sigreturn_holds t R (sigreturn S.mode (record { memory = S.memory; regs = R' })) S h (returned_words S.mode (record { memory = S.memory; regs = R' }) bytes words.ssp))
    (either (n == 24) _ _ (answered_holds t R' (sched_yield S) words (stays S 0 h (lit< tt)))
    (either (n == 56) _ _ (answered_holds t R' (clone answer R' S) words (clone_answers answer R' S h few words))
    (either (n == 60) _ _ (exit_holds t (value R' Rdi) S h)
    (either (n == 158) _ _ (answered_holds t R' (arch_prctl R' S) words (arch_prctl_answers R' S h))
    (either (n == 186) _ _ (answered_holds t R' (gettid t S) words (stays S (t + 1) h (omega (arith, number_fits))))
    (either (n == 231) _ _ (same_holds (with_thread t (Some R') S) (exit_group t R' (value R' Rdi) S).0 refl refl (thread_holds t (Some R') S h words))
    (either (n == 453) _ _ (answered_holds t R' (map_shadow_stack answer R' S) words (map_shadow_stack_answers answer R' S h answer_fits))
    (answered_holds t R' (refused enosys S) words (refuses enosys S h (lit< tt))))))))))))))

machine_holds : (t : ℕ) (m : Machine) (S : State) → Holds S → AreWords m.regs → Holds (with_machine t m S)
machine_holds t m S h words = thread_holds t (Some m.regs) (record S { memory = m.memory }) (same_holds S _ refl refl h) words

-- ---- a step

step_end_holds : (t answer : ℕ) (R : Regs) (e : StepEnd) (S : State) → Holds S → HaveBytes S.memory → length S.threads ≤ thread_limit → t < 2 ^ 32 → answer < 2 ^ 64
    → ((m : Machine) → e ≡ machine.Next m → AreWords m.regs)
    → ((R' : Regs) → e ≡ machine.Syscall R' → AreWords R')
    → Holds (after_step_end t answer R e S).0
step_end_holds t answer R (machine.Next m) S h bytes few number_fits answer_fits next enters = machine_holds t m S h (next m refl)
step_end_holds t answer R (machine.Syscall R') S h bytes few number_fits answer_fits next enters = called_holds t answer R R' S h bytes few (enters R' refl) number_fits answer_fits
step_end_holds t answer R (machine.Faulted fault) S h bytes few number_fits answer_fits next enters = died_holds t R fault S h

after_step_holds : (t free answer : ℕ) (thread : Option Regs) (S : State) → Holds S → HaveBytes S.memory → length S.threads ≤ thread_limit → t < 2 ^ 32 → answer < 2 ^ 64
    → ThreadHasWords thread → Holds (after_step t free answer thread S).0
after_step_holds t free answer None S h bytes few number_fits answer_fits words = h
after_step_holds t free answer (Some R) S h bytes few number_fits answer_fits words =
    let m : Machine = record { memory = S.memory; regs = R } in
    let real : machine_laws.HasWords m = to_machine S.memory R bytes words in
    either (nat_lt 15 free) _ _ h
    (step_end_holds t answer R (step S.mode free m) S h bytes few number_fits answer_fits
    (λ n e. from_machine n (step_keeps_words S.mode free m n real e))
    (λ R' e. from_machine (record { memory = S.memory; regs = R' }) (syscall_keeps_words S.mode free m R' real e)))

-- ---- a signal

shadow_frame_words : (mode : Mode) (action : Action) (m : Machine) → machine_laws.HasWords m → IfOk (shadow_frame mode action m) machine_laws.HasWords
shadow_frame_words mode action m h =
    either_effect_words mode.shstk _ (Ok m)
    (after_ok (shadow_pushed (marked m.regs.ssp) m) _ machine_laws.HasWords machine_laws.HasWords (shadow_pushed_words (marked m.regs.ssp) m h)
    (λ n k. shadow_pushed_words action.restorer n k)) h

either_below : (b : Bool) (x y : ℕ) → x < 2 ^ 64 → y < 2 ^ 64 → (if b then x else y) < 2 ^ 64
either_below true x y h k = h
either_below false x y h k = k

handler_mask_fits : (action : Action) (signo mask : ℕ) → mask < 2 ^ 64 → action.mask < 2 ^ 64 → signo - 1 < 64 → handler_mask action signo mask < 2 ^ 64
handler_mask_fits action signo mask of_mask of_action below =
    let blocked : bit_or mask action.mask < 2 ^ 64 = or_lt 64 mask action.mask of_mask of_action in
    either_below (has_nodefer action) _ _ blocked (or_lt 64 (bit_or mask action.mask) (2 ^ (signo - 1)) blocked (pow-lt below))

handler_words : (mode : Mode) (action : Action) (signo a : ℕ) (R : Regs) → AreWords R → ActionHasWords (Some action) → signo - 1 < 64 → a < 2 ^ 64 → AreWords (at_handler mode action signo a R)
handler_words mode action signo a R words of_action below of_a =
    let first = with_value R Rsp a in
    let second = with_value first Rax 0 in
    let third = with_value second Rdx 0 in
    let fourth = with_value third Rsi 0 in
    let one = with_value_words R Rsp a words of_a in
    let two = with_value_words first Rax 0 one (lit< tt) in
    let three = with_value_words second Rdx 0 two (lit< tt) in
    let four = with_value_words third Rsi 0 three (lit< tt) in
    let five = with_value_words fourth Rdi signo four (omega (arith, below)) in
    record { registers = five.registers; rip = of_action.0; ssp = words.ssp; mask = handler_mask_fits action signo R.mask words.mask of_action.2 below }

delivered_words : (mode : Mode) (action : Action) (signo : ℕ) (m : Machine) → machine_laws.HasWords m → ActionHasWords (Some action) → signo - 1 < 64
    → IfOk (deliver mode action signo m) (λ n. AreWords n.regs)
unfolding deliver
delivered_words mode action signo m h of_action below =
    let a = frame_address (value m.regs Rsp) in
    let bytes = bytes_of_words (frame action signo m.regs) in
    after_ok (ok_or (stored is_write m.memory a bytes) (Page a)) _ (KeepsRegions m.memory) (λ n. AreWords n.regs)
    (ok_or_some (stored is_write m.memory a bytes) (Page a) (KeepsRegions m.memory) (λ N e. write_keeps m.memory N a bytes (are_bytes (frame action signo m.regs)) e))
    (λ N k. after_ok (shadow_frame mode action (record m { memory = N })) _ machine_laws.HasWords (λ n. AreWords n.regs)
    (shadow_frame_words mode action (record m { memory = N }) (memory_words m N h (k.bytes h.memory)))
    (λ n l. handler_words mode action signo a n.regs (from_machine n l) of_action below (wrapped _)))

delivery_holds : (t : ℕ) (R : Regs) (x : Result Machine Fault) (S : State) → Holds S → IfOk x (λ n. AreWords n.regs) → Holds (after_delivery t R x S).0
delivery_holds t R (Ok m) S h words = machine_holds t m S h words
delivery_holds t R (Err fault) S h words = died_holds t R fault S h

after_signal_holds : (t signo : ℕ) (thread : Option Regs) (action : Option Action) (S : State) → Holds S → HaveBytes S.memory → ThreadHasWords thread → ActionFits signo action
    → Holds (after_signal t signo thread action S).0
unfolding ActionFits
after_signal_holds t signo None action S h bytes words fits = h
after_signal_holds t signo (Some R) None S h bytes words fits = h
after_signal_holds t signo (Some R) (Some action) S h bytes words fits =
    let m : Machine = record { memory = S.memory; regs = R } in
    either (is_blocked signo R) _ _ h
    (delivery_holds t R (deliver S.mode action signo m) S h (delivered_words S.mode action signo m (to_machine S.memory R bytes words) fits.0 fits.1))

-- ---- events

living_holds : (S : State) (e : Event) → IsWellFormed S → InRange e → HasWords S → Holds (after_living S e).0
living_holds S (Step t free answer) w range h =
    after_step_holds t free answer (regs_of S t) S (record { threads = h.threads; actions = h.actions }) h.bytes.memory w.threads range.0 range.2 (thread_words t S h.threads)
living_holds S (Signal t signo) w range h =
    after_signal_holds t signo (regs_of S t) (action_of S signo) S (record { threads = h.threads; actions = h.actions }) h.bytes.memory (thread_words t S h.threads)
    (action_fits signo S w.actions h.actions)

event_holds : (S : State) (e : Event) → IsWellFormed S → InRange e → HasWords S → Holds (after S e).0
unfolding after
event_holds S e w range h = either (is_some S.end) _ _ (record { threads = h.threads; actions = h.actions }) (living_holds S e w range h)

pub event_keeps_words : EventKeepsWords
event_keeps_words S e w range h =
    let k = event_holds S e w range h in
    record { bytes = (event_keeps S e w).bytes h.bytes; threads = k.threads; actions = k.actions }
