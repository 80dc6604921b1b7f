-- A process after one part of it has changed.
use Rattle.std.specs.Prelude.{is_ok, if◌then◌else◌, IsSome, OnOk, OnErr, IfErr, vec_len, vec_capacity}
use Rattle.std.proofs.Common.{◌≡◌, ℕ, ◌+◌, ◌-◌, ◌*◌, ◌^◌, ◌%◌, ◌<◌, ◌≤◌, true, false, min, ◌==◌, List, [], ◌∷◌, ◌++◌, length, take, drop, set, Option, Some, None, is_some, Result, Ok, Err, All, Vec, Global, unwrap_or, refl, sym, ap, subst, ◌∙◌, arith, pow_mono, drop-drop}
use Rattle.std.specs.Vec.{with_item}
use Rattle.std.specs.Int.{from_bool}
use Rattle.std.specs.List.{list_all}
use Rattle.std.specs.Option.{is_none}
use Rattle.std.proofs.lemmas.List.{take_rest}
use Rattle.std.proofs.lemmas.List.Elements.{All-set, All-push}
use Rattle.cet_isa.specs.declared.registers.Regs.{Regs}
use Rattle.cet_machine.specs.declared.memory.Region.{Region}
use Rattle.cet_machine.specs.Memory.{is_write, bytes_at, stored, store}
use Rattle.cet_mem.specs.declared.memory.Pf.{Pf}
use Rattle.cet_process.specs.State.{State, regs_of, live_bits}
use Rattle.cet_process.specs.Call.{Answer, thread_limit}
use Rattle.cet_kernel.specs.declared.process.Process.TheInside.{Inside}
use Rattle.cet_signal.specs.Aligned.{IsAligned}
use Rattle.cet_kernel.specs.Inside.{state_of, IsAlignedThread, IsSound}
use Rattle.cet_kernel.specs.Parts.{taken, status_stored}
use Rattle.cet_kernel.proofs.Threads.{thread_at, Lives, lives, live_same, live_less, live_bound, live_more, none_live}
use Rattle.cet_kernel.proofs.Accesses.{nothing_stored, stored_there, stored_not}

-- ---- threads

pub lives_inside : (p : Inside) (t : ℕ) (S : State) → state_of p ≡ S → IsSome (regs_of S t) → Lives p.threads.items t
lives_inside p t S view living = lives p.threads.items t (ap (λ (T : State). is_some (thread_at T.threads t)) view ∙ living)

-- a thread that lives has a number below 64
pub number_below : (p : Inside) (t : ℕ) → IsSound p → t < length p.threads.items → t < 64
number_below p t sound within =
    let size : p.threads.len ≡ length p.threads.items = p.threads.ok.0 in
    let few : p.threads.len ≤ 64 = sound.threads in
    omega (arith, size, few, within)

shifted : (n : ℕ) → n < 64 → (1 * 2 ^ n) % 2 ^ 64 ≡ 2 ^ n
shifted n small =
    let bound : 2 ^ n ≤ 2 ^ 63 = pow_mono {i = n} {j = 63} (omega (arith, small)) in
    omega (arith, bound)

pub sound_same : (p : Inside) (t : ℕ) (R : Regs) (S : State) → IsSound p → state_of p ≡ S → IsSome (regs_of S t) → IsAligned R
    → IsSound (record p { threads = with_item p.threads t (Some R) })
sound_same p t R S sound view living aligned =
    let l = lives_inside p t S view living in
    record {
      aligned = All-set IsAlignedThread p.threads.items t (Some R) aligned sound.aligned;
      live = sound.live ∙ sym (live_same p.threads.items t R l.regs l.there);
      threads = sound.threads;
      actions = sound.actions;
      read = sound.read;
      output = sound.output;
      thread_room = sound.thread_room;
      output_room = sound.output_room;
    }

pub bit_within : (p : Inside) (t : ℕ) (S : State) → IsSound p → state_of p ≡ S → IsSome (regs_of S t) → (1 * 2 ^ t) % 2 ^ 64 ≤ p.live
bit_within p t S sound view living =
    let l = lives_inside p t S view living in
    let less = live_less p.threads.items t l.regs l.there in
    let bit = shifted t (number_below p t sound l.within) in
    let live : p.live ≡ live_bits p.threads.items = sound.live in
    omega (arith, less, bit, live)

pub bits_less : (p : Inside) (t : ℕ) (S : State) → IsSound p → state_of p ≡ S → IsSome (regs_of S t) → p.live - (1 * 2 ^ t) % 2 ^ 64 ≡ live_bits (set p.threads.items t None)
bits_less p t S sound view living =
    let l = lives_inside p t S view living in
    let less = live_less p.threads.items t l.regs l.there in
    let bit = shifted t (number_below p t sound l.within) in
    let live : p.live ≡ live_bits p.threads.items = sound.live in
    omega (arith, less, bit, live)

pub sound_less : (p : Inside) (t : ℕ) (S : State) → IsSound p → state_of p ≡ S → IsSome (regs_of S t)
    → IsSound (record p { threads = with_item p.threads t None; live = p.live - (1 * 2 ^ t) % 2 ^ 64 })
sound_less p t S sound view living = record {
  aligned = All-set IsAlignedThread p.threads.items t None tt sound.aligned;
  live = bits_less p t S sound view living;
  threads = sound.threads;
  actions = sound.actions;
  read = sound.read;
  output = sound.output;
  thread_room = sound.thread_room;
  output_room = sound.output_room;
}

pub last_ends : (p : Inside) (t : ℕ) (S : State) → IsSound p → state_of p ≡ S → IsSome (regs_of S t)
    → (p.live - (1 * 2 ^ t) % 2 ^ 64 == 0) ≡ list_all is_none (set p.threads.items t None)
last_ends p t S sound view living = ap (λ (n : ℕ). n == 0) (bits_less p t S sound view living) ∙ none_live (set p.threads.items t None)

-- one more thread
pub record IsRoom (p : Inside) (n : ℕ) : Type 0 where
  pub size : n ≡ length p.threads.items
  pub few : n < 64

pub is_room : (p : Inside) (n : ℕ) (S : State) → n ≡ vec_len p.threads → state_of p ≡ S → length S.threads < thread_limit → IsRoom p n
is_room p n S of_len view few =
    let size : n ≡ length p.threads.items = of_len ∙ p.threads.ok.0 in
    record { size = size; few = subst (λ (k : ℕ). k < 64) (sym (size ∙ ap (λ (T : State). length T.threads) view)) few }

pub bits_fit : (p : Inside) (n : ℕ) → IsSound p → IsRoom p n → p.live + (1 * 2 ^ n) % 2 ^ 64 < 2 ^ 64
bits_fit p n sound room =
    let bound : live_bits p.threads.items < 2 ^ n = subst (λ (k : ℕ). live_bits p.threads.items < 2 ^ k) (sym room.size) (live_bound p.threads.items) in
    let live : p.live ≡ live_bits p.threads.items = sound.live in
    let bit = shifted n room.few in
    let most : 2 ^ n ≤ 2 ^ 63 = pow_mono {i = n} {j = 63} (omega (arith, room.few)) in
    omega (arith, bound, live, bit, most)

pub sound_more : (p : Inside) (n : ℕ) (R : Regs) (v : Vec (Option Regs) Global) → IsSound p → IsRoom p n → IsAligned R → v.items ≡ p.threads.items ++ Some R ∷ []
    → vec_len v ≡ vec_len p.threads + 1 → vec_capacity p.threads ≤ vec_capacity v → IsSound (record p { threads = v; live = p.live + (1 * 2 ^ n) % 2 ^ 64 })
sound_more p n R v sound room aligned items size room_stays =
    let bit : (1 * 2 ^ n) % 2 ^ 64 ≡ 2 ^ length p.threads.items = shifted n room.few ∙ ap (λ (k : ℕ). 2 ^ k) room.size in
    let before : p.threads.len ≡ length p.threads.items = p.threads.ok.0 in
    let few : n < 64 = room.few in
    let number : n ≡ length p.threads.items = room.size in
    let room_before : thread_limit ≤ vec_capacity p.threads = sound.thread_room in
    record {
      aligned = subst (All IsAlignedThread) (sym items) (All-push IsAlignedThread p.threads.items (Some R) sound.aligned aligned);
      live = ap (λ (k : ℕ). k + (1 * 2 ^ n) % 2 ^ 64) sound.live ∙ ap (λ (k : ℕ). live_bits p.threads.items + k) bit ∙ sym (live_more p.threads.items R) ∙ ap live_bits (sym items);
      threads = omega (arith, size, before, few, number);
      actions = sound.actions;
      read = sound.read;
      output = sound.output;
      thread_room = omega (arith, room_before, room_stays);
      output_room = sound.output_room;
    }

-- what a push leaves that succeeded
pub pushed : {E X : Type 0} (r : Result (Unit {0}) E) (u : Unit {0}) (x y : X) → r ≡ Ok u → (if is_ok r then x else y) ≡ x
pushed r u x y e = ap (λ q. if is_ok q then x else y) e

-- ---- input that is taken

stored_now : (M N : List Region) (a : ℕ) (bytes : List ℕ) (r : Result (Unit {0}) Pf) → OnOk r (stored is_write M a bytes ≡ Some N)
    → IfErr r (λ e. (e.addr ≡ a) × (stored is_write M a bytes ≡ None)) → OnErr r (N ≡ M) → N ≡ unwrap_or (stored is_write M a bytes) M
stored_now M N a bytes (Ok x) ok err same = sym (ap (λ (o : Option (List Region)). unwrap_or o M) ok)
stored_now M N a bytes (Err e) ok err same = same ∙ sym (ap (λ (o : Option (List Region)). unwrap_or o M) err.1)

-- n bytes of the input that is left went to a
taken_is : (p : Inside) (S : State) (a most n : ℕ) (N : List Region) → state_of p ≡ S → n ≡ min (length (drop p.read p.input.items)) most
    → N ≡ unwrap_or (stored is_write p.memory a (take n (drop p.read p.input.items))) p.memory
    → ◌≡◌ {A = Answer} (state_of (record p { memory = N; read = p.read + n }), n) (taken a most S)
taken_is p S a most n N view count now =
    ap (λ (M : List Region). (state_of (record p { memory = M; read = p.read + n }), n)) now
    ∙ ap (λ (l : List ℕ). (record (state_of p) { memory = unwrap_or (stored is_write p.memory a (take n (drop p.read p.input.items))) p.memory; input = l }, n)) (sym (drop-drop n p.read p.input.items))
    ∙ ap (λ (k : ℕ). (record (state_of p) { memory = unwrap_or (stored is_write p.memory a (take k (drop p.read p.input.items))) p.memory; input = drop k (drop p.read p.input.items) }, k)) count
    ∙ ap (taken a most) view

left_is : (p : Inside) (L : List ℕ) → L ≡ p.input.items → take (length L - p.read) (drop p.read L) ≡ drop p.read p.input.items
left_is p L of_l = take_rest L p.read ∙ ap (drop p.read) of_l

pub taken_some : (p : Inside) (S : State) (a most n : ℕ) (L : List ℕ) (N : List Region) (r : Result (Unit {0}) Pf) → state_of p ≡ S → L ≡ p.input.items
    → n ≡ min (length (take (length L - p.read) (drop p.read L))) most
    → OnOk r (stored is_write p.memory a (take n (take (length L - p.read) (drop p.read L))) ≡ Some N)
    → IfErr r (λ e. (e.addr ≡ a) × (stored is_write p.memory a (take n (take (length L - p.read) (drop p.read L))) ≡ None)) → OnErr r (N ≡ p.memory)
    → ◌≡◌ {A = Answer} (state_of (record p { memory = N; read = p.read + n }), n) (taken a most S)
taken_some p S a most n L N r view of_l count ok err same =
    let left = left_is p L of_l in
    taken_is p S a most n N view (count ∙ ap (λ (l : List ℕ). min (length l) most) left)
    (stored_now p.memory N a (take n (take (length L - p.read) (drop p.read L))) r ok err same
    ∙ ap (λ (l : List ℕ). unwrap_or (stored is_write p.memory a (take n l)) p.memory) left)

pub taken_none : (p : Inside) (S : State) (a most n : ℕ) (L : List ℕ) → state_of p ≡ S → L ≡ p.input.items → n ≡ min (length (take (length L - p.read) (drop p.read L))) most → n ≤ 0
    → ◌≡◌ {A = Answer} (state_of (record p { read = p.read + n }), n) (taken a most S)
taken_none p S a most n L view of_l count none =
    let zero_is : 0 ≡ n = omega (arith, none) in
    taken_is p S a most n p.memory view (count ∙ ap (λ (l : List ℕ). min (length l) most) (left_is p L of_l))
    (sym (nothing_stored p.memory a) ∙ ap (λ (k : ℕ). unwrap_or (stored is_write p.memory a (take k (drop p.read p.input.items))) p.memory) zero_is)

-- ---- the status of shadow stacks

pub status_done : (p : Inside) (S : State) (a v : ℕ) (N : List Region) (x : ℕ) → state_of p ≡ S → v ≡ from_bool p.mode.shstk → store p.memory a 8 v ≡ Some N → x ≡ 0
    → ◌≡◌ {A = Answer} (state_of (record p { memory = N }), x) (status_stored a S)
status_done p S a v N x view of_v done of_x =
    let there : is_some (bytes_at is_write p.memory a 8) ≡ true = stored_there p.memory N a v done in
    let now : store p.memory a 8 (from_bool p.mode.shstk) ≡ Some N = ap (store p.memory a 8) (sym of_v) ∙ done in
    rw of_x (subst (λ (T : State). ◌≡◌ {A = Answer} (state_of (record p { memory = N }), 0) (status_stored a T)) view (rw there (rw now refl)))

pub status_refused : (p : Inside) (S : State) (a v : ℕ) (N : List Region) (x : ℕ) → state_of p ≡ S → store p.memory a 8 v ≡ None → N ≡ p.memory → x ≡ 2 ^ 64 - 14
    → ◌≡◌ {A = Answer} (state_of (record p { memory = N }), x) (status_stored a S)
status_refused p S a v N x view none same of_x =
    let there : is_some (bytes_at is_write p.memory a 8) ≡ false = stored_not p.memory a v none in
    rw of_x (rw same (subst (λ (T : State). ◌≡◌ {A = Answer} (state_of p, 2 ^ 64 - 14) (status_stored a T)) view (rw there refl)))
