-- The threads of a process: which live, their bits, and that SSP is a multiple of 8 in each.
use Rattle.std.specs.Prelude.{IfSome}
use Rattle.std.proofs.Common.{◌≡◌, ℕ, zero, suc, ◌+◌, ◌*◌, ◌^◌, ◌<◌, ◌≤◌, Bool, true, false, ◌==◌, List, [], ◌∷◌, ◌++◌, length, set, slice_get, All, Option, Some, None, is_some, is_none, refl, sym, ap, subst, ◌∙◌, arith}
use Rattle.std.specs.Int.{from_bool}
use Rattle.std.specs.List.{list_all}
use Rattle.std.specs.Option.{option_and_then}
use Rattle.std.proofs.Math.Nat.{pow-suc}
use Rattle.std.proofs.lemmas.Bool.{ne_eqb}
use Rattle.std.proofs.lemmas.Option.{slice_get_within, get_or_from_slice_get}
use Rattle.cet_isa.specs.declared.registers.Regs.{Regs}
use Rattle.cet_process.specs.State.{live_bits}
use Rattle.cet_signal.specs.Aligned.{IsAligned}
use Rattle.cet_kernel.specs.Inside.{IsAlignedThread}

-- the registers of a thread, if it lives
abbrev pub thread_at : List (Option Regs) → ℕ → Option Regs
thread_at ts t = option_and_then (λ thread. thread) (slice_get ts t)

-- a thread that lives, at its place
pub record Lives (ts : List (Option Regs)) (t : ℕ) : Type 0 where
  pub regs : Regs
  pub there : slice_get ts t ≡ Some (Some regs)
  pub within : t < length ts

living : (o : Option (Option Regs)) → is_some (option_and_then (λ thread. thread) o) ≡ true → (R : Regs) × (o ≡ Some (Some R))
living None e = absurd (cc)
living (Some None) e = absurd (cc)
living (Some (Some R)) e = (R, refl)

pub lives : (ts : List (Option Regs)) (t : ℕ) → is_some (thread_at ts t) ≡ true → Lives ts t
lives ts t e =
    let (R, there) = living (slice_get ts t) e in
    record { regs = R; there = there; within = slice_get_within ts t (Some R) there }

-- ---- bits

pub live_same : (ts : List (Option Regs)) (t : ℕ) (R Q : Regs) → slice_get ts t ≡ Some (Some Q) → live_bits (set ts t (Some R)) ≡ live_bits ts
live_same [] t R Q e = absurd (cc)
live_same (x ∷ ts) zero R Q e =
    let same : x ≡ Some Q = cc in
    ap (λ (y : Option Regs). from_bool (is_some y) + 2 * live_bits ts) (sym same)
live_same (x ∷ ts) (suc t) R Q e = ap (λ (n : ℕ). from_bool (is_some x) + 2 * n) (live_same ts t R Q e)

pub live_less : (ts : List (Option Regs)) (t : ℕ) (Q : Regs) → slice_get ts t ≡ Some (Some Q) → live_bits (set ts t None) + 2 ^ t ≡ live_bits ts
live_less [] t Q e = absurd (cc)
live_less (x ∷ ts) zero Q e =
    let same : x ≡ Some Q = cc in
    let one : from_bool (is_some x) ≡ 1 = ap (λ (y : Option Regs). from_bool (is_some y)) same in
    omega (arith, one)
live_less (x ∷ ts) (suc t) Q e =
    let rest = live_less ts t Q e in
    let power : 2 ^ suc t ≡ 2 ^ t * 2 = pow-suc 2 t in
    omega (arith, rest, power)

bit_bound : (b : Bool) → from_bool b ≤ 1
bit_bound true = omega arith
bit_bound false = omega arith

pub live_bound : (ts : List (Option Regs)) → live_bits ts < 2 ^ length ts
live_bound [] = omega arith
live_bound (x ∷ ts) =
    let rest = live_bound ts in
    let one = bit_bound (is_some x) in
    let power : 2 ^ suc (length ts) ≡ 2 ^ length ts * 2 = pow-suc 2 (length ts) in
    omega (arith, rest, one, power)

pub live_more : (ts : List (Option Regs)) (R : Regs) → live_bits (ts ++ Some R ∷ []) ≡ live_bits ts + 2 ^ length ts
live_more [] R = refl
live_more (x ∷ ts) R =
    let rest = live_more ts R in
    let power : 2 ^ suc (length ts) ≡ 2 ^ length ts * 2 = pow-suc 2 (length ts) in
    omega (arith, rest, power)

doubled : (n : ℕ) → (2 * n == 0) ≡ (n == 0)
doubled zero = refl
doubled (suc n) = ne_eqb (2 * suc n) 0 (λ e. omega (arith, e)) ∙ sym (ne_eqb (suc n) 0 (λ e. omega (arith, e)))

pub none_live : (ts : List (Option Regs)) → (live_bits ts == 0) ≡ list_all is_none ts
none_live [] = refl
none_live (None ∷ ts) =
    let plain : from_bool false + 2 * live_bits ts ≡ 2 * live_bits ts = omega arith in
    ap (λ (n : ℕ). n == 0) plain ∙ doubled (live_bits ts) ∙ none_live ts
none_live (Some R ∷ ts) = ne_eqb (1 + 2 * live_bits ts) 0 (λ e. omega (arith, e))

-- ---- SSP

aligned_of : (ts : List (Option Regs)) (t : ℕ) (o : Option (Option Regs)) → All IsAlignedThread ts → slice_get ts t ≡ o → IfSome (option_and_then (λ thread. thread) o) IsAligned
aligned_of ts t None h e = tt
aligned_of ts t (Some None) h e = tt
aligned_of ts t (Some (Some R)) h e =
    subst IsAlignedThread (get_or_from_slice_get ts t (Some R) None e) (h t None (slice_get_within ts t (Some R) e))

pub aligned_at : (ts : List (Option Regs)) (t : ℕ) → All IsAlignedThread ts → IfSome (thread_at ts t) IsAligned
aligned_at ts t h = aligned_of ts t (slice_get ts t) h refl
