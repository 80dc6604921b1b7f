-- What threads and actions have stays below 2^64: loaded words, frames, and the answers of system calls.
use Rattle.std.proofs.Common.{◌≡◌, ℕ, zero, suc, ◌-◌, ◌%◌, ◌^◌, ◌<◌, ◌≤◌, inl, inr, Bool, true, false, nat_lt, min, List, [], ◌∷◌, length, take, drop, slice_index, All, Option, Some, None, unwrap_or, Result, Ok, IfOk, ok_or, refl, sym, subst, ◌∙◌, arith, if◌then◌else◌, lit<}
use Rattle.std.specs.List.{find}
use Rattle.std.specs.Option.{option_and_then}
use Rattle.std.proofs.Math.Nat.{mod-lt, pow-le-pow_right}
use Rattle.std.proofs.lemmas.Bool.{cases_Bool, cond-true, cond-false, ltb-true, ltb-false}
use Rattle.std.proofs.lemmas.Nat.{pow_pos}
use Rattle.std.proofs.lemmas.List.{get_or_past, length-take}
use Rattle.std.proofs.lemmas.List.Elements.{All-get_or, All-set, All-cons, All-nil, All-take, All-drop}
use Rattle.cet_base.specs.Field.{little_endian}
use Rattle.cet_isa.specs.declared.register.Reg.{Reg}
use Rattle.cet_isa.specs.declared.register.Reg.TheVariants.{Rsp}
use Rattle.cet_isa.specs.declared.fault.Fault.{Fault}
use Rattle.cet_isa.specs.declared.registers.Regs.{Regs}
use Rattle.cet_isa.specs.declared.registers.Mode.{Mode}
use Rattle.cet_isa.specs.declared.fault.Fault.TheVariants.{Page, General}
use Rattle.cet_isa.specs.Canonical.{number}
use Rattle.cet_machine.specs.declared.memory.Region.{Region}
use Rattle.cet_machine.specs.Memory.{is_any, allowed_from, bytes_at, region_holding, shadow_load}
use Rattle.cet_machine.specs.MemoryLaws.{IsByteList, HaveBytes}
use Rattle.cet_machine.specs.MachineLaws as machine
use Rattle.cet_machine.specs.Machine.{Machine, demand, minus}
use Rattle.cet_machine.specs.Operand.{value, with_value}
use Rattle.cet_machine.specs.Signal.{words_of_bytes, returned_ssp, framed_regs, frame_size, sigreturn, is_marked}
use Rattle.cet_machine.proofs.MemoryBytes.{little_endian-fits, IsByteList-take, IsByteList-drop}
use Rattle.cet_machine.proofs.Keeps.{after_any, after_ok, ok_or_some}
use Rattle.cet_process.specs.Laws.{AreWords}

Word : ℕ → Type 0
Word v = v < 2 ^ 64

-- ---- a thread and memory make a machine

pub to_machine : (M : List Region) (R : Regs) → HaveBytes M → AreWords R → machine.HasWords (record { memory = M; regs = R })
to_machine M R bytes words = record { memory = bytes; registers = words.registers; rip = words.rip; ssp = words.ssp; mask = words.mask }

pub from_machine : (m : Machine) → machine.HasWords m → AreWords m.regs
from_machine m h = record { registers = h.registers; rip = h.rip; ssp = h.ssp; mask = h.mask }

pub with_value_words : (R : Regs) (reg : Reg) (v : ℕ) → AreWords R → v < 2 ^ 64 → AreWords (with_value R reg v)
with_value_words R reg v words fits = record { registers = All-set (λ n. n < 2 ^ 64) R.r (number reg) v fits words.registers; rip = words.rip; ssp = words.ssp; mask = words.mask }

-- ---- words of bytes

pub index_fits : (words : List ℕ) (i : ℕ) → All (λ v. v < 2 ^ 64) words → slice_index words i < 2 ^ 64
index_fits words i all = elim (cases_Bool (nat_lt i (length words))) [
  | inl within ↦ All-get_or (λ v. v < 2 ^ 64) words i 0 (ltb-true i (length words) within) all
  | inr past ↦ subst (λ (v : ℕ). v < 2 ^ 64) (sym (get_or_past words i 0 (ltb-false i (length words) past))) (pow_pos 64)
]

word_fits : (bytes : List ℕ) → IsByteList bytes → little_endian (take 8 bytes) < 2 ^ 64
word_fits bytes are =
    let size : length (take 8 bytes) ≡ min 8 (length bytes) = length-take 8 bytes in
    let short : length (take 8 bytes) ≤ 8 = omega (arith, size) in
    let below : little_endian (take 8 bytes) < 256 ^ length (take 8 bytes) = little_endian-fits (take 8 bytes) (IsByteList-take 8 bytes are) in
    let grows : 256 ^ length (take 8 bytes) ≤ 256 ^ 8 = pow-le-pow_right (lit< tt) short in
    omega (arith, below, grows)

pub words_fit : (n : ℕ) (bytes : List ℕ) → IsByteList bytes → All (λ v. v < 2 ^ 64) (words_of_bytes n bytes)
words_fit zero bytes are = All-nil (λ v. v < 2 ^ 64)
words_fit (suc n) bytes are =
    All-cons (λ v. v < 2 ^ 64) (little_endian (take 8 bytes)) (words_of_bytes n (drop 8 bytes)) (word_fits bytes are) (words_fit n (drop 8 bytes) (IsByteList-drop 8 bytes are))

-- bytes that are read of memory are bytes
region_bytes : (M : List Region) (p : Region → Bool) (r : Region) → HaveBytes M → find p M ≡ Some r → IsByteList r.bytes
region_bytes [] p r all e = absurd (cc)
region_bytes (q ∷ M) p r all e = elim (cases_Bool (p q)) [
  | inl found ↦
      let here : Some q ≡ Some r = sym (cond-true (p q) (Some q) (find p M) found) ∙ e in
      let same : q ≡ r = cc in
      subst (λ (x : Region). IsByteList x.bytes) same all.0
  | inr passed ↦ region_bytes M p r all.1 (sym (cond-false (p q) (Some q) (find p M) passed) ∙ e)
]

read_bytes : (M : List Region) (a n : ℕ) (o : Option Region) → HaveBytes M → region_holding M a n ≡ o → IsByteList (unwrap_or (option_and_then (allowed_from is_any a) o) [])
read_bytes M a n None all e = tt
read_bytes M a n (Some r) all e = IsByteList-drop (a - r.start) r.bytes (region_bytes M _ r all e)

pub bytes_at_are : (M : List Region) (a n : ℕ) → HaveBytes M → IsByteList (unwrap_or (bytes_at is_any M a n) [])
unfolding bytes_at
bytes_at_are M a n all = read_bytes M a n (region_holding M a n) all refl

-- ---- the return from a signal

framed_words : (mode : Mode) (ssp : ℕ) (words : List ℕ) → All (λ v. v < 2 ^ 64) words → ssp < 2 ^ 64 → AreWords (framed_regs mode ssp words)
framed_words mode ssp words all fits = record {
  registers = All-take (λ v. v < 2 ^ 64) 16 (drop 1 words) (All-drop (λ v. v < 2 ^ 64) 1 words all);
  rip = index_fits words 17 all;
  ssp = fits;
  mask = index_fits words 21 all;
}

below_half : (word : ℕ) → word % 2 ^ 63 < 2 ^ 64
below_half word = let half : word % 2 ^ 63 < 2 ^ 63 = mod-lt word (pow_pos 63) in omega (arith, half)

either_number : (b : Bool) (e f : Result ℕ Fault) → IfOk e (λ v. v < 2 ^ 64) → IfOk f (λ v. v < 2 ^ 64) → IfOk (if b then e else f) (λ v. v < 2 ^ 64)
either_number true e f h k = h
either_number false e f h k = k

returned_fits : (mode : Mode) (m : Machine) → m.regs.ssp < 2 ^ 64 → IfOk (returned_ssp mode m) (λ v. v < 2 ^ 64)
returned_fits mode m fits =
    either_number mode.shstk _ (Ok m.regs.ssp)
    (after_any (ok_or (shadow_load m.memory m.regs.ssp) (Page m.regs.ssp)) _ (λ v. v < 2 ^ 64) (λ word.
    after_any (demand (is_marked word) General) _ (λ v. v < 2 ^ 64) (λ marked. below_half word))) fits

pub returned_words : (mode : Mode) (m : Machine) → HaveBytes m.memory → m.regs.ssp < 2 ^ 64 → IfOk (sigreturn mode m) AreWords
unfolding sigreturn
returned_words mode m bytes fits =
    let a = minus (value m.regs Rsp) 8 in
    after_ok (ok_or (bytes_at is_any m.memory a frame_size) (Page a)) _ IsByteList AreWords
    (ok_or_some (bytes_at is_any m.memory a frame_size) (Page a) IsByteList
    (λ b e. subst (λ (o : Option (List ℕ)). IsByteList (unwrap_or o [])) e (bytes_at_are m.memory a frame_size bytes)))
    (λ b are. after_any (demand _ General) _ AreWords (λ mark.
    after_ok (returned_ssp mode m) _ (λ v. v < 2 ^ 64) AreWords (returned_fits mode m fits) (λ ssp below. framed_words mode ssp (words_of_bytes 26 b) (words_fit 26 b are) below)))
