-- What events keep of a process.
use Rattle.std.proofs.Common.{◌≡◌, ℕ, ◌+◌, ◌-◌, ◌<◌, ◌≤◌, Bool, true, false, not, ◌||◌, ◌==◌, nat_lt, nat_le, min, List, [], ◌∷◌, ◌++◌, length, take, drop, slice_set, Option, Some, None, unwrap_or, is_none, refl, sym, subst, ◌∙◌, arith, ok_or, if◌then◌else◌}
use Rattle.std.specs.List.{list_all}
use Rattle.std.specs.Result.{result_unwrap_or}
use Rattle.std.specs.Int.{from_bool}
use Rattle.std.proofs.lemmas.Bool.{leb-false, not-false}
use Rattle.std.proofs.lemmas.List.{length-set, length-append, length-take}
use Rattle.std.proofs.lemmas.List.Elements.{All-set, All-push}
use Rattle.cet_isa.specs.declared.register.Reg.TheVariants.{Rax, Rdx, Rsp, Rsi, Rdi, R10}
use Rattle.cet_isa.specs.declared.registers.Regs.{Regs}
use Rattle.cet_isa.specs.Canonical.{number}
use Rattle.cet_machine.specs.declared.action.Action.{Action}
use Rattle.cet_machine.specs.declared.memory.Kind.{Kind}
use Rattle.cet_machine.specs.declared.memory.Kind.TheVariants.{Write, Shadow}
use Rattle.cet_machine.specs.declared.memory.Region.{Region}
use Rattle.cet_machine.specs.declared.shadow_fault.ShadowFault.TheVariants.{Pf}
use Rattle.cet_machine.specs.Memory.{AreDisjoint, is_write, stored, store, shadow_store, low_bytes, place, legal}
use Rattle.cet_machine.specs.MemoryLaws.{IsByteList, HaveBytes}
use Rattle.cet_machine.specs.MachineLaws.{KeepsRegions}
use Rattle.cet_machine.specs.Machine.{minus}
use Rattle.cet_machine.specs.Operand.{value, with_value}
use Rattle.cet_machine.specs.Shadow.{set_token, restore_token}
use Rattle.cet_machine.specs.Signal.{are_action_flags}
use Rattle.cet_machine.proofs.MemoryBytes.{IsByteList-take, IsByteList-drop, IsByteList-low_bytes}
use Rattle.cet_machine.proofs.MemoryRegions.{same_shape_disjoint}
use Rattle.cet_machine.proofs.MemoryPlace.{place_keeps_disjoint, place_keeps_bytes}
use Rattle.cet_machine.proofs.Keeps.{other_than_write, write_keeps, shadow_keeps}
use Rattle.cet_machine.proofs.MemoryReads.{stored_keeps_shape, stored_keeps_reads_of_other_kinds, stored_keeps_bytes}
use Rattle.cet_process.specs.declared.outcome.Outcome.{Outcome}
use Rattle.cet_process.specs.State.{State, with_thread}
use Rattle.cet_process.specs.Start.{page_above, shadow_stack_size}
use Rattle.cet_process.specs.Call.{Answer, is_readable, is_writable, buffer, with_buffer, with_mapping, with_token, output_limit, maps_private_memory, maps_shadow_stack, action_at, registered, takes_action, thread_limit, child_regs, with_child, changes_features, read, write, mmap, map_shadow_stack, rt_sigaction, clone, arch_prctl}
use Rattle.cet_process.specs.After.{exited, answered, exit, exit_group}
use Rattle.cet_process.specs.Laws.{HasRegisters, AreFar, HasBytes, IsWellFormed, KeepsFixed, Keeps}
use Rattle.cet_process.proofs.Regions.{place_keeps_reads}
use Rattle.cet_process.proofs.Far.{same_shape_far, legal_far, placed_far}

-- ---- one after another

fixed_refl : (M : List Region) → KeepsFixed M M
fixed_refl M kinds no_write no_shadow a n some = refl

pub keeps_all : (S : State) → IsWellFormed S → Keeps S S
keeps_all S w = record { mode = refl; well_formed = w; fixed = fixed_refl S.memory; bytes = λ h. h }

pub keeps_then : (S T U : State) → Keeps S T → Keeps T U → Keeps S U
keeps_then S T U k l = record {
  mode = l.mode ∙ k.mode;
  well_formed = l.well_formed;
  fixed = λ kinds no_write no_shadow a n some. l.fixed kinds no_write no_shadow a n some ∙ k.fixed kinds no_write no_shadow a n some;
  bytes = λ h. l.bytes (k.bytes h);
}

-- either of two, as the test says
pub either : {B : Type 0} (b : Bool) (S : State) (x y : State × B) → Keeps S x.0 → Keeps S y.0 → Keeps S (if b then x else y).0
either true S x y h k = h
either false S x y h k = k

pub either_known : {B : Type 0} (b : Bool) (S : State) (x y : State × B) → (b ≡ true → Keeps S x.0) → (b ≡ false → Keeps S y.0) → Keeps S (if b then x else y).0
either_known true S x y h k = h refl
either_known false S x y h k = k refl

either_state : (b : Bool) (S T U : State) → Keeps S T → Keeps S U → Keeps S (if b then T else U)
either_state true S T U h k = h
either_state false S T U h k = k

-- ---- changes of one part

-- other memory
memory_kept : (S : State) (N : List Region) → IsWellFormed S → AreDisjoint N → AreFar N → (HasBytes S → HaveBytes N) → KeepsFixed S.memory N → Keeps S (record S { memory = N })
memory_kept S N w disjoint far bytes fixed = record {
  mode = refl;
  well_formed = record { disjoint = disjoint; far = far; registers = w.registers; threads = w.threads; actions = w.actions; output = w.output };
  fixed = fixed;
  bytes = λ h. record { memory = bytes h; input = h.input };
}

pub regions_kept : (S : State) (N : List Region) → IsWellFormed S → KeepsRegions S.memory N → Keeps S (record S { memory = N })
regions_kept S N w keeps =
    memory_kept S N w (same_shape_disjoint S.memory N keeps.shape w.disjoint) (same_shape_far S.memory N keeps.shape w.far) (λ h. keeps.bytes h.memory)
    (λ kinds no_write no_shadow a n some. keeps.reads kinds no_write no_shadow a n)

-- memory after something that may be refused, and then is as it was
perhaps_kept : (S : State) (o : Option (List Region)) → IsWellFormed S → ((N : List Region) → o ≡ Some N → Keeps S (record S { memory = N }))
    → Keeps S (record S { memory = unwrap_or o S.memory })
perhaps_kept S None w h = keeps_all S w
perhaps_kept S (Some N) w h = h N refl

-- a thread that has its registers, or ends
pub thread_kept : (S : State) (t : ℕ) (thread : Option Regs) → IsWellFormed S → HasRegisters thread → Keeps S (with_thread t thread S)
thread_kept S t thread w has = record {
  mode = refl;
  well_formed = record {
    disjoint = w.disjoint;
    far = w.far;
    registers = All-set HasRegisters S.threads t thread has w.registers;
    threads = subst (λ (n : ℕ). n ≤ thread_limit) (sym (length-set S.threads t thread)) w.threads;
    actions = w.actions;
    output = w.output;
  };
  fixed = fixed_refl S.memory;
  bytes = λ h. record { memory = h.memory; input = h.input };
}

pub end_kept : (S : State) (end : Outcome) → IsWellFormed S → Keeps S (record S { end = Some end })
end_kept S end w = record {
  mode = refl;
  well_formed = record { disjoint = w.disjoint; far = w.far; registers = w.registers; threads = w.threads; actions = w.actions; output = w.output };
  fixed = fixed_refl S.memory;
  bytes = λ h. record { memory = h.memory; input = h.input };
}

fresh_kept : (S : State) (fresh : ℕ) → IsWellFormed S → Keeps S (record S { fresh = fresh })
fresh_kept S fresh w = record {
  mode = refl;
  well_formed = record { disjoint = w.disjoint; far = w.far; registers = w.registers; threads = w.threads; actions = w.actions; output = w.output };
  fixed = fixed_refl S.memory;
  bytes = λ h. record { memory = h.memory; input = h.input };
}

input_kept : (S : State) (rest : List ℕ) → IsWellFormed S → (HasBytes S → IsByteList rest) → Keeps S (record S { input = rest })
input_kept S rest w are = record {
  mode = refl;
  well_formed = record { disjoint = w.disjoint; far = w.far; registers = w.registers; threads = w.threads; actions = w.actions; output = w.output };
  fixed = fixed_refl S.memory;
  bytes = λ h. record { memory = h.memory; input = are h };
}

output_kept : (S : State) (more : List ℕ) → IsWellFormed S → length S.output + length more ≤ output_limit → Keeps S (record S { output = S.output ++ more })
output_kept S more w fits = record {
  mode = refl;
  well_formed = record {
    disjoint = w.disjoint;
    far = w.far;
    registers = w.registers;
    threads = w.threads;
    actions = w.actions;
    output = subst (λ (n : ℕ). n ≤ output_limit) (sym (length-append S.output more)) fits;
  };
  fixed = fixed_refl S.memory;
  bytes = λ h. record { memory = h.memory; input = h.input };
}

action_kept : (S : State) (i : ℕ) (action : Option Action) → IsWellFormed S → Keeps S (record S { actions = slice_set S.actions i action })
action_kept S i action w = record {
  mode = refl;
  well_formed = record {
    disjoint = w.disjoint;
    far = w.far;
    registers = w.registers;
    threads = w.threads;
    actions = length-set S.actions i action ∙ w.actions;
    output = w.output;
  };
  fixed = fixed_refl S.memory;
  bytes = λ h. record { memory = h.memory; input = h.input };
}

-- one thread more, where there is room
child_kept : (S : State) (child : Regs) → IsWellFormed S → length S.threads < thread_limit → length child.r ≡ 16 → Keeps S (with_child child S).0
child_kept S child w room has = record {
  mode = refl;
  well_formed = record {
    disjoint = w.disjoint;
    far = w.far;
    registers = All-push HasRegisters S.threads (Some child) w.registers has;
    threads = subst (λ (n : ℕ). n ≤ thread_limit) (sym (length-append S.threads (Some child ∷ []))) (omega (arith, room));
    actions = w.actions;
    output = w.output;
  };
  fixed = fixed_refl S.memory;
  bytes = λ h. record { memory = h.memory; input = h.input };
}

buffer_kept : (S : State) (a : ℕ) (bytes : List ℕ) → IsWellFormed S → (HasBytes S → IsByteList bytes) → Keeps S (with_buffer a bytes S)
buffer_kept S a bytes w are =
    perhaps_kept S (stored is_write S.memory a bytes) w (λ N e.
    memory_kept S N w (same_shape_disjoint S.memory N (stored_keeps_shape is_write S.memory N a bytes e) w.disjoint)
    (same_shape_far S.memory N (stored_keeps_shape is_write S.memory N a bytes e) w.far)
    (λ h. stored_keeps_bytes is_write S.memory N a bytes e (are h) h.memory)
    (λ kinds no_write no_shadow b n some. stored_keeps_reads_of_other_kinds is_write kinds S.memory N a bytes e (other_than_write kinds no_write) b n))

-- a new region of a kind that is Write or Shadow
mapping_kept : (S : State) (a len : ℕ) (kind : Kind) → IsWellFormed S → legal S.memory a len ≡ true → ((kinds : Kind → Bool) → kinds Write ≡ false → kinds Shadow ≡ false → kinds kind ≡ false)
    → Keeps S (with_mapping a len kind S)
mapping_kept S a len kind w is_legal either_kind =
    let placed = record S { memory = unwrap_or (place S.memory a len kind) S.memory } in
    let first : Keeps S placed = perhaps_kept S (place S.memory a len kind) w (λ N e.
    memory_kept S N w (place_keeps_disjoint S.memory N a len kind e w.disjoint) (placed_far S.memory N a len kind e w.far (legal_far S.memory a len kind is_legal)) (λ h. place_keeps_bytes S.memory N a len kind e h.memory)
    (λ kinds no_write no_shadow b n some. place_keeps_reads S.memory N a len kind e kinds (either_kind kinds no_write no_shadow) b n some)) in
    keeps_then S placed (with_mapping a len kind S) first (fresh_kept placed _ first.well_formed)

write_mapping_kept : (S : State) (a len : ℕ) → IsWellFormed S → legal S.memory a len ≡ true → Keeps S (with_mapping a len Write S)
write_mapping_kept S a len w is_legal = mapping_kept S a len Write w is_legal (λ kinds no_write no_shadow. no_write)

shadow_mapping_kept : (S : State) (a len : ℕ) → IsWellFormed S → legal S.memory a len ≡ true → Keeps S (with_mapping a len Shadow S)
shadow_mapping_kept S a len w is_legal = mapping_kept S a len Shadow w is_legal (λ kinds no_write no_shadow. no_shadow)

-- a restore token, where it can be stored
result_kept : (S : State) (a word : ℕ) (o : Option (List Region)) → IsWellFormed S → ((N : List Region) → o ≡ Some N → Keeps S (record S { memory = N }))
    → Keeps S (record S { memory = result_unwrap_or (ok_or o (Pf a)) S.memory })
result_kept S a word None w h = keeps_all S w
result_kept S a word (Some N) w h = h N refl

token_kept : (S : State) (top : ℕ) → IsWellFormed S → Keeps S (with_token top S)
unfolding set_token
token_kept S top w =
    let a = minus top 8 in
    let word = restore_token top in
    result_kept S a word (shadow_store S.memory a word) w (λ N e. regions_kept S N w (shadow_keeps S.memory N a (low_bytes 8 word) (IsByteList-low_bytes 8 word) e))

-- ---- system calls

pub read_keeps : (answer : ℕ) (R : Regs) (S : State) → IsWellFormed S → Keeps S (read answer R S).0
unfolding read
read_keeps answer R S w =
    let n = min (value R Rdx) (min (length S.input) answer) in
    let filled = with_buffer (value R Rsi) (take n S.input) S in
    let first : Keeps S filled = buffer_kept S (value R Rsi) (take n S.input) w (λ h. IsByteList-take n S.input h.input) in
    either (not (value R Rdi == 0)) S _ _ (keeps_all S w)
    (either (value R Rdx == 0) S _ _ (keeps_all S w)
    (either (not (is_writable S (value R Rsi) (value R Rdx))) S _ _ (keeps_all S w)
    (keeps_then S filled (record filled { input = drop n S.input }) first
    (input_kept filled (drop n S.input) first.well_formed (λ h. IsByteList-drop n S.input h.input)))))

pub write_call_keeps : (R : Regs) (S : State) → IsWellFormed S → Keeps S (write R S).0
unfolding write
write_call_keeps R S w =
    let n = min (value R Rdx) (output_limit - length S.output) in
    let bytes = buffer S (value R Rsi) (value R Rdx) in
    either (not ((value R Rdi == 1) || (value R Rdi == 2))) S _ _ (keeps_all S w)
    (either (value R Rdx == 0) S _ _ (keeps_all S w)
    (either (not (is_readable S (value R Rsi) (value R Rdx))) S _ _ (keeps_all S w)
    (either_known (nat_le output_limit (length S.output)) S _ _ (λ full. keeps_all S w) (λ room.
    let below : length S.output < output_limit = leb-false output_limit (length S.output) room in
    let short : length (take n bytes) ≡ min n (length bytes) = length-take n bytes in
    output_kept S (take n bytes) w (omega (arith, below, short))))))

pub mmap_keeps : (answer : ℕ) (R : Regs) (S : State) → IsWellFormed S → Keeps S (mmap answer R S).0
unfolding mmap
mmap_keeps answer R S w =
    either (not (maps_private_memory R)) S _ _ (keeps_all S w)
    (either_known (not (legal S.memory answer (page_above (value R Rsi)))) S _ _ (λ illegal. keeps_all S w) (λ allowed.
    write_mapping_kept S answer (page_above (value R Rsi)) w (not-false (legal S.memory answer (page_above (value R Rsi))) allowed)))

pub map_shadow_stack_keeps : (answer : ℕ) (R : Regs) (S : State) → IsWellFormed S → Keeps S (map_shadow_stack answer R S).0
unfolding map_shadow_stack
map_shadow_stack_keeps answer R S w =
    let mapped = with_mapping answer (value R Rsi) Shadow S in
    either (not S.mode.shstk) S _ _ (keeps_all S w)
    (either (not (maps_shadow_stack R)) S _ _ (keeps_all S w)
    (either_known (not (legal S.memory answer (value R Rsi))) S _ _ (λ illegal. keeps_all S w) (λ allowed.
    let first : Keeps S mapped = shadow_mapping_kept S answer (value R Rsi) w (not-false (legal S.memory answer (value R Rsi)) allowed) in
    either_state (value R Rdx == 1) S _ _
    (keeps_then S mapped (with_token (answer + value R Rsi) mapped) first (token_kept mapped (answer + value R Rsi) first.well_formed)) first)))

pub rt_sigaction_keeps : (R : Regs) (S : State) → IsWellFormed S → Keeps S (rt_sigaction R S).0
unfolding rt_sigaction
rt_sigaction_keeps R S w =
    either (not (value R R10 == 8)) S _ _ (keeps_all S w)
    (either (not (takes_action (value R Rdi))) S _ _ (keeps_all S w)
    (either (not (value R Rdx == 0)) S _ _ (keeps_all S w)
    (either (value R Rsi == 0) S _ _ (keeps_all S w)
    (either (not (is_readable S (value R Rsi) 32)) S _ _ (keeps_all S w)
    (either (not (are_action_flags (action_at S (value R Rsi)).flags)) S _ _ (keeps_all S w)
    (action_kept S (value R Rdi - 1) (registered (action_at S (value R Rsi))) w))))))

child_count : (R : Regs) → length (child_regs R).r ≡ length R.r
child_count R = length-set (with_value R Rax 0).r (number Rsp) (value R Rsi) ∙ length-set R.r (number Rax) 0

pub clone_keeps : (answer : ℕ) (R : Regs) (S : State) → IsWellFormed S → length R.r ≡ 16 → Keeps S (clone answer R S).0
unfolding clone
clone_keeps answer R S w has =
    let mapped = with_mapping answer shadow_stack_size Shadow S in
    let child = record (child_regs R) { ssp = answer + shadow_stack_size } in
    either (not (value R Rdi == 0x50f00) || (value R Rsi == 0)) S _ _ (keeps_all S w)
    (either_known (nat_le thread_limit (length S.threads)) S _ _ (λ full. keeps_all S w) (λ room.
    let below : length S.threads < thread_limit = leb-false thread_limit (length S.threads) room in
    either (not S.mode.shstk) S _ _ (child_kept S (child_regs R) w below (child_count R ∙ has))
    (either_known (not (legal S.memory answer shadow_stack_size)) S _ _ (λ illegal. keeps_all S w) (λ allowed.
    let first : Keeps S mapped = shadow_mapping_kept S answer shadow_stack_size w (not-false (legal S.memory answer shadow_stack_size) allowed) in
    keeps_then S mapped (with_child child mapped).0 first (child_kept mapped child first.well_formed below (child_count R ∙ has))))))

pub arch_prctl_keeps : (R : Regs) (S : State) → IsWellFormed S → Keeps S (arch_prctl R S).0
unfolding arch_prctl
arch_prctl_keeps R S w =
    let stored_word = from_bool S.mode.shstk in
    either (changes_features (value R Rdi)) S _ _
    (either ((value R Rsi == 0) || nat_lt 3 (value R Rsi)) S _ _ (keeps_all S w) (keeps_all S w))
    (either (value R Rdi == 0x5003) S _ _ (keeps_all S w)
    (either (not (value R Rdi == 0x5005)) S _ _ (keeps_all S w)
    (either (not (is_writable S (value R Rsi) 8)) S _ _ (keeps_all S w)
    (perhaps_kept S (store S.memory (value R Rsi) 8 stored_word) w (λ N e.
    regions_kept S N w (write_keeps S.memory N (value R Rsi) (low_bytes 8 stored_word) (IsByteList-low_bytes 8 stored_word) e))))))

-- ---- what the answer of a call changes

pub answered_keeps : (t : ℕ) (R : Regs) (x : Answer) (S : State) → length R.r ≡ 16 → Keeps S x.0 → Keeps S (answered t R x).0
answered_keeps t R x S has k =
    keeps_then S x.0 (answered t R x).0 k (thread_kept x.0 t (Some (with_value R Rax x.1)) k.well_formed (length-set R.r (number Rax) x.1 ∙ has))

pub exit_keeps : (t status : ℕ) (S : State) → IsWellFormed S → Keeps S (exit t status S).0
exit_keeps t status S w =
    let rest = with_thread t None S in
    let first : Keeps S rest = thread_kept S t None w tt in
    either (list_all is_none rest.threads) S _ _ (keeps_then S rest (exited status rest).0 first (end_kept rest _ first.well_formed)) first

pub exit_group_keeps : (t : ℕ) (R : Regs) (status : ℕ) (S : State) → IsWellFormed S → length R.r ≡ 16 → Keeps S (exit_group t R status S).0
exit_group_keeps t R status S w has =
    let rest = with_thread t (Some R) S in
    let first : Keeps S rest = thread_kept S t (Some R) w has in
    keeps_then S rest (exited status rest).0 first (end_kept rest _ first.well_formed)
