-- Parts of the definitions of system calls, as single methods compute them.
use Rattle.std.specs.Prelude.{ℕ, ◌-◌, nat_le, min, length, take, drop, ◌++◌, not, ◌==◌, if◌then◌else◌, unwrap_or}
use Rattle.std.specs.Int.{from_bool}
use Rattle.cet_isa.specs.declared.registers.Regs.{Regs}
use Rattle.cet_machine.specs.Memory.{store}
use Rattle.cet_process.specs.State.{State}
use Rattle.cet_process.specs.Call.{Answer, refused, efault, enospc, enosys, is_readable, is_writable, buffer, with_buffer, output_limit, read, write, mmap, rt_sigaction, sched_yield, clone, arch_prctl, gettid, map_shadow_stack}

-- as much of the input as is left, and no more than `most`, goes to a
abbrev pub taken : ℕ → ℕ → State → Answer
taken a most S =
    let n = min (length S.input) most in
    (with_buffer a (take n S.input) (record S { input = drop n S.input }), n)

-- write, once its file is known and there is something to write
abbrev pub appended : ℕ → ℕ → State → Answer
appended a size S =
    if not (is_readable S a size) then refused efault S else
    if nat_le output_limit (length S.output) then refused enospc S else
    let n = min size (output_limit - length S.output) in
    (record S { output = S.output ++ take n (buffer S a size) }, n)

-- ARCH_SHSTK_STATUS
abbrev pub status_stored : ℕ → State → Answer
status_stored a S =
    if not (is_writable S a 8) then refused efault S else
    (record S { memory = unwrap_or (store S.memory a 8 (from_bool S.mode.shstk)) S.memory }, 0)

-- the calls that answer in rax, but for rt_sigreturn, exit and exit_group, which do not
abbrev pub answer_of : ℕ → ℕ → ℕ → Regs → State → Answer
answer_of number t answer R S =
    if number == 0 then read answer R S else
    if number == 1 then write R S else
    if number == 9 then mmap answer R S else
    if number == 13 then rt_sigaction R S else
    if number == 24 then sched_yield S else
    if number == 56 then clone answer R S else
    if number == 158 then arch_prctl R S else
    if number == 186 then gettid t S else
    if number == 453 then map_shadow_stack answer R S else
    refused enosys S
