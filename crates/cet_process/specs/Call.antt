-- The system calls (Linux for x86-64, arch/x86/entry/syscalls/syscall_64.tbl), in this project's profile of their arguments. A call sees the registers
-- as SYSCALL left them: rip next, rcx and r11 set. Its refusals stand in their order. It comes to a state and to what goes to rax.
use Rattle.std.specs.Prelude.{ℕ, ◌+◌, ◌-◌, ◌%◌, ◌^◌, nat_lt, nat_le, max, min, List, [], ◌∷◌, ◌++◌, length, take, drop, slice_set, slice_index, Bool, false, not, ◌&&◌, ◌||◌, ◌==◌, if◌then◌else◌, Option, Some, None, is_some, unwrap_or}
use Rattle.std.specs.Result.{result_unwrap_or}
use Rattle.std.specs.Int.{from_bool}
use Rattle.cet_isa.specs.declared.register.Reg.TheVariants.{Rax, Rdx, Rsp, Rsi, Rdi, R8, R9, R10}
use Rattle.cet_isa.specs.declared.registers.Regs.{Regs}
use Rattle.cet_machine.specs.declared.memory.Kind.{Kind}
use Rattle.cet_machine.specs.declared.memory.Kind.TheVariants.{Write, Shadow}
use Rattle.cet_machine.specs.declared.action.Action.{Action}
use Rattle.cet_machine.specs.Memory.{is_any, is_write, bytes_at, stored, store, place, legal, gap}
use Rattle.cet_machine.specs.Operand.{value, with_value}
use Rattle.cet_machine.specs.Shadow.{set_token}
use Rattle.cet_machine.specs.Signal.{are_action_flags, words_of_bytes}
use Rattle.cet_process.specs.Start.{page_above, shadow_stack_size}
use Rattle.cet_process.specs.State.{State}

-- ---- what a call comes to

-- a state, and what goes to rax
abbrev pub Answer : Type 0
Answer = State × ℕ

-- an error is answered as its negative, in two's complement
abbrev pub refused : ℕ → State → Answer
refused error S = (S, 2 ^ 64 - error)

-- the errors (Linux, include/uapi/asm-generic/errno-base.h and errno.h)
abbrev pub eperm : ℕ
eperm = 1

abbrev pub ebadf : ℕ
ebadf = 9

abbrev pub eagain : ℕ
eagain = 11

abbrev pub enomem : ℕ
enomem = 12

abbrev pub efault : ℕ
efault = 14

abbrev pub einval : ℕ
einval = 22

abbrev pub enospc : ℕ
enospc = 28

abbrev pub enosys : ℕ
enosys = 38

abbrev pub eopnotsupp : ℕ
eopnotsupp = 95

-- ---- buffers and mappings

-- one region holds the n bytes from a
abbrev pub is_readable : State → ℕ → ℕ → Bool
is_readable S a n = is_some (bytes_at is_any S.memory a n)

-- one Write region holds them
abbrev pub is_writable : State → ℕ → ℕ → Bool
is_writable S a n = is_some (bytes_at is_write S.memory a n)

-- the n bytes from a, where one region holds them
abbrev pub buffer : State → ℕ → ℕ → List ℕ
buffer S a n = take n (unwrap_or (bytes_at is_any S.memory a n) [])

-- S with bytes at a, where one Write region holds them
abbrev pub with_buffer : ℕ → List ℕ → State → State
with_buffer a bytes S = record S { memory = unwrap_or (stored is_write S.memory a bytes) S.memory }

-- S with a region of zeros at a legal place; no address is used again
abbrev pub with_mapping : ℕ → ℕ → Kind → State → State
with_mapping a len kind S = record S { memory = unwrap_or (place S.memory a len kind) S.memory; fresh = max S.fresh (a + len + gap) }

-- ---- files: 0 read, 1 write

-- read(rdi, rsi, rdx): as many bytes as are asked for and left, and no more than the event says, from the input to the buffer
unfoldable pub read : ℕ → Regs → State → Answer
read answer R S =
    let a = value R Rsi in
    let size = value R Rdx in
    if not (value R Rdi == 0) then refused ebadf S else
    if size == 0 then (S, 0) else
    if not (is_writable S a size) then refused efault S else
    let n = min size (min (length S.input) answer) in
    (with_buffer a (take n S.input) (record S { input = drop n S.input }), n)

abbrev pub output_limit : ℕ
output_limit = 1048576

-- write(rdi, rsi, rdx): as many bytes as are given and have room, from the buffer to the output
unfoldable pub write : Regs → State → Answer
write R S =
    let a = value R Rsi in
    let size = value R Rdx in
    if not ((value R Rdi == 1) || (value R Rdi == 2)) then refused ebadf S else
    if size == 0 then (S, 0) else
    if not (is_readable S a size) then refused efault S else
    if nat_le output_limit (length S.output) then refused enospc S else
    let n = min size (output_limit - length S.output) in
    (record S { output = S.output ++ take n (buffer S a size) }, n)

-- ---- memory: 9 mmap, 453 map_shadow_stack. The event's answer is the place of the region.

-- PROT_READ | PROT_WRITE; MAP_PRIVATE | MAP_ANONYMOUS, with or without MAP_STACK; no file
abbrev pub maps_private_memory : Regs → Bool
maps_private_memory R =
    (value R Rdi == 0) && nat_le 1 (value R Rsi) && nat_le (value R Rsi) 16777216 && (value R Rdx == 3)
    && ((value R R10 == 0x22) || (value R R10 == 0x20022)) && (value R R8 == 2 ^ 64 - 1) && (value R R9 == 0)

-- mmap(rdi, rsi, rdx, r10, r8, r9)
unfoldable pub mmap : ℕ → Regs → State → Answer
mmap answer R S =
    let len = page_above (value R Rsi) in
    if not (maps_private_memory R) then refused einval S else
    if not (legal S.memory answer len) then refused enomem S else
    (with_mapping answer len Write S, answer)

abbrev pub maps_shadow_stack : Regs → Bool
maps_shadow_stack R =
    (value R Rdi == 0) && (value R Rsi % 4096 == 0) && nat_le 4096 (value R Rsi) && nat_le (value R Rsi) 1048576
    && ((value R Rdx == 0) || (value R Rdx == 1))

-- SHADOW_STACK_SET_TOKEN: a restore token in the top word of the region that ends at `top`
abbrev pub with_token : ℕ → State → State
with_token top S = record S { memory = result_unwrap_or (set_token S.memory top) S.memory }

-- map_shadow_stack(rdi, rsi, rdx)
unfoldable pub map_shadow_stack : ℕ → Regs → State → Answer
map_shadow_stack answer R S =
    let len = value R Rsi in
    if not S.mode.shstk then refused eopnotsupp S else
    if not (maps_shadow_stack R) then refused einval S else
    if not (legal S.memory answer len) then refused enomem S else
    let mapped = with_mapping answer len Shadow S in
    (if value R Rdx == 1 then with_token (answer + len) mapped else mapped, answer)

-- ---- signals: 13 rt_sigaction

-- the record of 32 bytes at a: handler, flags, restorer and mask
abbrev pub action_at : State → ℕ → Action
action_at S a =
    let words = words_of_bytes 4 (buffer S a 32) in
    record { handler = slice_index words 0; flags = slice_index words 1; restorer = slice_index words 2; mask = slice_index words 3 }

-- a handler 0 or 1, SIG_DFL or SIG_IGN, is none
abbrev pub registered : Action → Option Action
registered action = if nat_le action.handler 1 then None else Some action

-- 1 to 64, and not SIGKILL or SIGSTOP
abbrev pub takes_action : ℕ → Bool
takes_action signo = nat_le 1 signo && nat_le signo 64 && not ((signo == 9) || (signo == 19))

-- rt_sigaction(rdi, rsi, rdx, r10)
unfoldable pub rt_sigaction : Regs → State → Answer
rt_sigaction R S =
    let signo = value R Rdi in
    let a = value R Rsi in
    if not (value R R10 == 8) then refused einval S else
    if not (takes_action signo) then refused einval S else
    if not (value R Rdx == 0) then refused einval S else
    if a == 0 then (S, 0) else
    if not (is_readable S a 32) then refused efault S else
    let action = action_at S a in
    if not (are_action_flags action.flags) then refused einval S else
    (record S { actions = slice_set S.actions (signo - 1) (registered action) }, 0)

-- ---- threads: 24 sched_yield, 56 clone, 186 gettid

abbrev pub thread_limit : ℕ
thread_limit = 64

-- the caller's registers, flags and mask, but rax 0, rsp as given, and an idle tracker
abbrev pub child_regs : Regs → Regs
child_regs R = record (with_value (with_value R Rax 0) Rsp (value R Rsi)) { waiting = false }

-- S with one more thread; it is answered by its id
abbrev pub with_child : Regs → State → Answer
with_child child S = (record S { threads = S.threads ++ Some child ∷ [] }, length S.threads + 1)

-- clone(rdi, rsi): CLONE_VM, CLONE_FS, CLONE_FILES, CLONE_SIGHAND, CLONE_THREAD and CLONE_SYSVSEM. With SHSTK the thread gets a shadow stack at the event's answer.
unfoldable pub clone : ℕ → Regs → State → Answer
clone answer R S =
    if not (value R Rdi == 0x50f00) || (value R Rsi == 0) then refused einval S else
    if nat_le thread_limit (length S.threads) then refused eagain S else
    if not S.mode.shstk then with_child (child_regs R) S else
    if not (legal S.memory answer shadow_stack_size) then refused enomem S else
    with_child (record (child_regs R) { ssp = answer + shadow_stack_size }) (with_mapping answer shadow_stack_size Shadow S)

-- the id of thread t
unfoldable pub gettid : ℕ → State → Answer
gettid t S = (S, t + 1)

unfoldable pub sched_yield : State → Answer
sched_yield S = (S, 0)

-- ---- CET: 158 arch_prctl

-- ARCH_SHSTK_ENABLE, ARCH_SHSTK_DISABLE and ARCH_SHSTK_UNLOCK (Linux, arch/x86/include/uapi/asm/prctl.h): the features are locked
abbrev pub changes_features : ℕ → Bool
changes_features code = (code == 0x5001) || (code == 0x5002) || (code == 0x5004)

-- arch_prctl(rdi, rsi). 0x5003 is ARCH_SHSTK_LOCK; 0x5005, ARCH_SHSTK_STATUS, stores the features that are on.
unfoldable pub arch_prctl : Regs → State → Answer
arch_prctl R S =
    let code = value R Rdi in
    let a = value R Rsi in
    if changes_features code then (if (a == 0) || nat_lt 3 a then refused einval S else refused eperm S) else
    if code == 0x5003 then (S, 0) else
    if not (code == 0x5005) then refused einval S else
    if not (is_writable S a 8) then refused efault S else
    (record S { memory = unwrap_or (store S.memory a 8 (from_bool S.mode.shstk)) S.memory }, 0)
