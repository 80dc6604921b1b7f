-- What a process is seen as, and what holds of its parts: this project's own.
use Rattle.std.specs.Prelude.{◌≡◌, ◌≤◌, drop, All, Option, Some, None, vec_capacity, vec_len}
use Rattle.cet_isa.specs.declared.registers.Regs.{Regs}
use Rattle.cet_process.specs.State.{State, live_bits}
use Rattle.cet_process.specs.Call.{output_limit, thread_limit}
use Rattle.cet_signal.specs.Aligned.{IsAligned}
use Rattle.cet_kernel.specs.declared.process.Process.TheInside.{Inside}

-- the input that is left is what has not been read
abbrev pub state_of : Inside → State
state_of p = record {
  memory = p.memory;
  mode = p.mode;
  threads = p.threads.items;
  actions = p.actions.items;
  input = drop p.read p.input.items;
  output = p.output.items;
  fresh = p.fresh;
  end = p.end;
}

abbrev pub IsAlignedThread : Option Regs → Type 0
IsAlignedThread None = Unit {0}
IsAlignedThread (Some R) = IsAligned R

pub record IsSound (p : Inside) : Type 0 where
  pub aligned : All IsAlignedThread p.threads.items
  pub live : p.live ≡ live_bits p.threads.items
  pub threads : vec_len p.threads ≤ thread_limit
  pub actions : vec_len p.actions ≡ 64
  pub read : p.read ≤ vec_len p.input
  pub output : vec_len p.output ≤ output_limit
  -- reserved, so that an event that maps nothing takes no memory
  pub thread_room : thread_limit ≤ vec_capacity p.threads
  pub output_room : output_limit ≤ vec_capacity p.output
