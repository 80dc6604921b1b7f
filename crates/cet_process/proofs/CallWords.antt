-- What a system call and a signal leave below 2^64.
use Rattle.std.proofs.Common.{◌≡◌, ℕ, ◌+◌, ◌-◌, ◌%◌, ◌^◌, ◌<◌, ◌≤◌, Bool, true, false, not, ◌&&◌, ◌||◌, ◌==◌, nat_lt, nat_le, min, ◌++◌, length, take, drop, All, Some, None, unwrap_or, refl, sym, subst, arith, if◌then◌else◌, lit<}
use Rattle.std.specs.Int.{from_bool}
use Rattle.std.proofs.lemmas.Bool.{not-false, and_parts, leb-true}
use Rattle.std.proofs.lemmas.List.Elements.{All-set, All-push}
use Rattle.cet_isa.specs.declared.register.Reg.TheVariants.{Rax, Rdx, Rsp, Rsi, Rdi, R10}
use Rattle.cet_isa.specs.declared.registers.Regs.{Regs}
use Rattle.cet_machine.specs.declared.action.Action.{Action}
use Rattle.cet_machine.specs.declared.memory.Kind.TheVariants.{Write, Shadow}
use Rattle.cet_machine.specs.Memory.{store, legal, is_range_of_pages, is_free, gap}
use Rattle.cet_machine.specs.MemoryLaws.{IsByteList, HaveBytes}
use Rattle.cet_machine.specs.Operand.{value, with_value}
use Rattle.cet_machine.specs.Signal.{are_action_flags, words_of_bytes}
use Rattle.cet_machine.proofs.MemoryBytes.{IsByteList-take}
use Rattle.cet_machine.proofs.Words.{value_fits}
use Rattle.cet_process.specs.State.{State}
use Rattle.cet_process.specs.Start.{page_above, shadow_stack_size}
use Rattle.cet_process.specs.Call.{Answer, refused, is_readable, is_writable, buffer, with_buffer, with_mapping, output_limit, maps_private_memory, maps_shadow_stack, with_token, action_at, registered, takes_action, thread_limit, child_regs, with_child, changes_features, read, write, mmap, map_shadow_stack, rt_sigaction, clone, arch_prctl, einval, enomem, eopnotsupp, efault, ebadf, enospc, eagain, eperm}
use Rattle.cet_process.specs.Laws.{AreWords, ThreadHasWords, ActionHasWords}
use Rattle.cet_process.proofs.Numbers.{with_value_words, words_fit, bytes_at_are, index_fits}

-- threads and actions that have words, and an answer that is one
pub record Answers (x : Answer) : Type 0 where
  pub threads : All ThreadHasWords x.0.threads
  pub actions : All ActionHasWords x.0.actions
  pub answer : x.1 < 2 ^ 64

pub record Holds (S : State) : Type 0 where
  pub threads : All ThreadHasWords S.threads
  pub actions : All ActionHasWords S.actions

answer_with : (S T : State) (v : ℕ) → Holds S → T.threads ≡ S.threads → T.actions ≡ S.actions → v < 2 ^ 64 → Answers (T, v)
answer_with S T v h same_threads same_actions fits = record {
  threads = subst (All ThreadHasWords) (sym same_threads) h.threads;
  actions = subst (All ActionHasWords) (sym same_actions) h.actions;
  answer = fits;
}

-- the same state
pub stays : (S : State) (v : ℕ) → Holds S → v < 2 ^ 64 → Answers (S, v)
stays S v h fits = answer_with S S v h refl refl fits

either : (b : Bool) (x y : Answer) → Answers x → Answers y → Answers (if b then x else y)
either true x y h k = h
either false x y h k = k

either_known : (b : Bool) (x y : Answer) → (b ≡ true → Answers x) → (b ≡ false → Answers y) → Answers (if b then x else y)
either_known true x y h k = h refl
either_known false x y h k = k refl

-- an error
error_fits : (error : ℕ) → 0 < error → 2 ^ 64 - error < 2 ^ 64
error_fits error some = omega (arith, some)

pub refuses : (error : ℕ) (S : State) → Holds S → 0 < error → Answers (refused error S)
refuses error S h some = stays S (2 ^ 64 - error) h (error_fits error some)

-- ---- calls

pub read_answers : (answer : ℕ) (R : Regs) (S : State) → Holds S → AreWords R → Answers (read answer R S)
unfolding read
read_answers answer R S h words =
    let size : value R Rdx < 2 ^ 64 = value_fits R Rdx words.registers in
    let n = min (value R Rdx) (min (length S.input) answer) in
    either (not (value R Rdi == 0)) (refused ebadf S) _ (refuses ebadf S h (lit< tt))
    (either (value R Rdx == 0) (S, 0) _ (stays S 0 h (lit< tt))
    (either (not (is_writable S (value R Rsi) (value R Rdx))) (refused efault S) _ (refuses efault S h (lit< tt))
    (answer_with S (with_buffer (value R Rsi) (take n S.input) (record S { input = drop n S.input })) n h refl refl (omega (arith, size)))))

pub write_answers : (R : Regs) (S : State) → Holds S → AreWords R → Answers (write R S)
unfolding write
write_answers R S h words =
    let size : value R Rdx < 2 ^ 64 = value_fits R Rdx words.registers in
    let n = min (value R Rdx) (output_limit - length S.output) in
    either (not ((value R Rdi == 1) || (value R Rdi == 2))) (refused ebadf S) _ (refuses ebadf S h (lit< tt))
    (either (value R Rdx == 0) (S, 0) _ (stays S 0 h (lit< tt))
    (either (not (is_readable S (value R Rsi) (value R Rdx))) (refused efault S) _ (refuses efault S h (lit< tt))
    (either (nat_le output_limit (length S.output)) (refused enospc S) _ (refuses enospc S h (lit< tt))
    (answer_with S (record S { output = S.output ++ take n (buffer S (value R Rsi) (value R Rdx)) }) n h refl refl (omega (arith, size))))))

pub mmap_answers : (answer : ℕ) (R : Regs) (S : State) → Holds S → answer < 2 ^ 64 → Answers (mmap answer R S)
unfolding mmap
mmap_answers answer R S h fits =
    let len = page_above (value R Rsi) in
    either (not (maps_private_memory R)) (refused einval S) _ (refuses einval S h (lit< tt))
    (either (not (legal S.memory answer len)) (refused enomem S) _ (refuses enomem S h (lit< tt)) (answer_with S (with_mapping answer len Write S) answer h refl refl fits))

-- with a token or without
mapped_answers : (b : Bool) (S T U : State) (v : ℕ) → Holds S → T.threads ≡ S.threads → T.actions ≡ S.actions → U.threads ≡ S.threads → U.actions ≡ S.actions → v < 2 ^ 64
    → Answers ((if b then T else U), v)
mapped_answers true S T U v h t a u b fits = answer_with S T v h t a fits
mapped_answers false S T U v h t a u b fits = answer_with S U v h u b fits

pub map_shadow_stack_answers : (answer : ℕ) (R : Regs) (S : State) → Holds S → answer < 2 ^ 64 → Answers (map_shadow_stack answer R S)
unfolding map_shadow_stack
map_shadow_stack_answers answer R S h fits =
    let mapped = with_mapping answer (value R Rsi) Shadow S in
    either (not S.mode.shstk) (refused eopnotsupp S) _ (refuses eopnotsupp S h (lit< tt))
    (either (not (maps_shadow_stack R)) (refused einval S) _ (refuses einval S h (lit< tt))
    (either (not (legal S.memory answer (value R Rsi))) (refused enomem S) _ (refuses enomem S h (lit< tt))
    (mapped_answers (value R Rdx == 1) S (with_token (answer + value R Rsi) mapped) mapped answer h refl refl refl refl fits)))

registered_words : (action : Action) → ActionHasWords (Some action) → ActionHasWords (registered action)
registered_words action words = either_action (nat_le action.handler 1) words
  where
    either_action : (b : Bool) → ActionHasWords (Some action) → ActionHasWords (if b then None else Some action)
    either_action true h = tt
    either_action false h = h

pub rt_sigaction_answers : (R : Regs) (S : State) → Holds S → HaveBytes S.memory → Answers (rt_sigaction R S)
unfolding rt_sigaction
rt_sigaction_answers R S h bytes =
    let are : IsByteList (buffer S (value R Rsi) 32) = IsByteList-take 32 _ (bytes_at_are S.memory (value R Rsi) 32 bytes) in
    let words = words_fit 4 (buffer S (value R Rsi) 32) are in
    let action = action_at S (value R Rsi) in
    either (not (value R R10 == 8)) (refused einval S) _ (refuses einval S h (lit< tt))
    (either (not (takes_action (value R Rdi))) (refused einval S) _ (refuses einval S h (lit< tt))
    (either (not (value R Rdx == 0)) (refused einval S) _ (refuses einval S h (lit< tt))
    (either (value R Rsi == 0) (S, 0) _ (stays S 0 h (lit< tt))
    (either (not (is_readable S (value R Rsi) 32)) (refused efault S) _ (refuses efault S h (lit< tt))
    (either (not (are_action_flags action.flags)) (refused einval S) _ (refuses einval S h (lit< tt)) (record {
      threads = h.threads;
      actions = All-set ActionHasWords S.actions (value R Rdi - 1) (registered action)
          (registered_words action (index_fits (words_of_bytes 4 (buffer S (value R Rsi) 32)) 0 words, index_fits (words_of_bytes 4 (buffer S (value R Rsi) 32)) 2 words, index_fits (words_of_bytes 4 (buffer S (value R Rsi) 32)) 3 words))
          h.actions;
      answer = lit< tt;
    }))))))

child_answers : (S : State) (child : Regs) → Holds S → length S.threads ≤ thread_limit → AreWords child → Answers (with_child child S)
child_answers S child h few words = record {
  threads = All-push ThreadHasWords S.threads (Some child) h.threads words;
  actions = h.actions;
  answer = omega (arith, few);
}

child_words : (R : Regs) → AreWords R → AreWords (child_regs R)
child_words R words =
    let moved = with_value_words (with_value R Rax 0) Rsp (value R Rsi) (with_value_words R Rax 0 words (lit< tt)) (value_fits R Rsi words.registers) in
    record { registers = moved.registers; rip = moved.rip; ssp = moved.ssp; mask = moved.mask }

-- a legal range ends within 2^47
legal_end : (S : State) (at len : ℕ) → legal S.memory at len ≡ true → at + len < 2 ^ 64
unfolding legal
legal_end S at len e =
    let parts = and_parts (is_range_of_pages at len && nat_le (2 ^ 32) at) (is_free S.memory (at - gap) (at + len + gap)) e in
    let pages = and_parts (is_range_of_pages at len) (nat_le (2 ^ 32) at) parts.0 in
    let whole = and_parts ((at % 4096 == 0) && (len % 4096 == 0) && nat_lt 0 len) (nat_le (at + len) (2 ^ 47)) pages.0 in
    let ends : at + len ≤ 2 ^ 47 = leb-true (at + len) (2 ^ 47) whole.1 in
    omega (arith, ends)

pub clone_answers : (answer : ℕ) (R : Regs) (S : State) → Holds S → length S.threads ≤ thread_limit → AreWords R → Answers (clone answer R S)
unfolding clone
clone_answers answer R S h few words =
    let mapped = with_mapping answer shadow_stack_size Shadow S in
    let child = child_words R words in
    either (not (value R Rdi == 0x50f00) || (value R Rsi == 0)) (refused einval S) _ (refuses einval S h (lit< tt))
    (either (nat_le thread_limit (length S.threads)) (refused eagain S) _ (refuses eagain S h (lit< tt))
    (either (not S.mode.shstk) (with_child (child_regs R) S) _ (child_answers S (child_regs R) h few child)
    (either_known (not (legal S.memory answer shadow_stack_size)) (refused enomem S) _ (λ illegal. refuses enomem S h (lit< tt)) (λ allowed.
    child_answers mapped (record (child_regs R) { ssp = answer + shadow_stack_size }) (record { threads = h.threads; actions = h.actions }) few (record {
      registers = child.registers;
      rip = child.rip;
      ssp = legal_end S answer shadow_stack_size (not-false (legal S.memory answer shadow_stack_size) allowed);
      mask = child.mask;
    })))))

pub arch_prctl_answers : (R : Regs) (S : State) → Holds S → Answers (arch_prctl R S)
unfolding arch_prctl
arch_prctl_answers R S h =
    either (changes_features (value R Rdi)) _ _
    (either ((value R Rsi == 0) || nat_lt 3 (value R Rsi)) (refused einval S) (refused eperm S) (refuses einval S h (lit< tt)) (refuses eperm S h (lit< tt)))
    (either (value R Rdi == 0x5003) (S, 0) _ (stays S 0 h (lit< tt))
    (either (not (value R Rdi == 0x5005)) (refused einval S) _ (refuses einval S h (lit< tt))
    (either (not (is_writable S (value R Rsi) 8)) (refused efault S) _ (refuses efault S h (lit< tt))
    (answer_with S (record S { memory = unwrap_or (store S.memory (value R Rsi) 8 (from_bool S.mode.shstk)) S.memory }) 0 h refl refl (lit< tt)))))
