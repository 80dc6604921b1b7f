-- What instructions keep: the regions of memory, and those that are neither Write nor Shadow as they are.
use Rattle.std.proofs.Common.{◌≡◌, ℕ, Bool, true, false, not, List, [], ◌∷◌, Option, Some, None, inl, inr, Result, Ok, Err, IfOk, ok_or, refl, sym, ap, ◌∙◌}
use Rattle.std.specs.List.{filter}
use Rattle.std.proofs.lemmas.Bool.{cases_Bool, cond-true, cond-false}
use Rattle.std.proofs.lemmas.List.{length-set}
use Rattle.cet_isa.specs.declared.register.Reg.{Reg}
use Rattle.cet_isa.specs.declared.operand.Width.{Width}
use Rattle.cet_isa.specs.declared.operand.Rm.{Rm}
use Rattle.cet_isa.specs.declared.operand.Rm.TheVariants as rm
use Rattle.cet_isa.specs.declared.fault.Fault.TheVariants.{Page}
use Rattle.cet_isa.specs.Canonical.{number}
use Rattle.cet_machine.specs.declared.memory.Kind.{Kind}
use Rattle.cet_machine.specs.declared.memory.Kind.TheVariants.{Code, Read, Write, Shadow}
use Rattle.cet_machine.specs.declared.memory.Region.{Region}
use Rattle.cet_machine.specs.Arithmetic.{bytes_of}
use Rattle.cet_machine.specs.Memory.{is_write, is_shadow, stored, store, low_bytes}
use Rattle.cet_machine.specs.MemoryLaws.{IsByteList}
use Rattle.cet_machine.specs.MachineLaws.{is_fixed, KeepsRegions, Follows}
use Rattle.cet_machine.specs.Machine.{Machine, ◌>>=◌}
use Rattle.cet_machine.specs.Operand.{put, address, store_at, write}
use Rattle.cet_machine.proofs.MemoryBytes.{IsByteList-low_bytes}
use Rattle.cet_machine.proofs.MemoryReads.{stored_keeps_shape, stored_keeps_other_kinds, stored_keeps_reads_of_other_kinds, stored_keeps_bytes}

-- ---- regions

pub keeps_refl : (M : List Region) → KeepsRegions M M
keeps_refl M = record { shape = refl; fixed = refl; reads = λ kinds w s a n. refl; bytes = λ h. h }

pub keeps_trans : (L M N : List Region) → KeepsRegions L M → KeepsRegions M N → KeepsRegions L N
keeps_trans L M N k l = record {
  shape = l.shape ∙ k.shape;
  fixed = l.fixed ∙ k.fixed;
  reads = λ kinds w s a n. l.reads kinds w s a n ∙ k.reads kinds w s a n;
  bytes = λ h. l.bytes (k.bytes h);
}

-- what passes p passes q: then q first and p then is p alone
filter_both : (p q : Region → Bool) → ((r : Region) → p r ≡ true → q r ≡ true) → (M : List Region) → filter p (filter q M) ≡ filter p M
filter_both p q h [] = refl
filter_both p q h (r ∷ M) = elim (cases_Bool (p r)) [
  | inl passes ↦
      let now : filter q (r ∷ M) ≡ r ∷ filter q M = cond-true (q r) (r ∷ filter q M) (filter q M) (h r passes) in
      ap (filter p) now ∙ cond-true (p r) (r ∷ filter p (filter q M)) (filter p (filter q M)) passes
      ∙ ap (λ (N : List Region). r ∷ N) (filter_both p q h M) ∙ sym (cond-true (p r) (r ∷ filter p M) (filter p M) passes)
  | inr fails ↦ elim (cases_Bool (q r)) [
    | inl kept ↦ ap (filter p) (cond-true (q r) (r ∷ filter q M) (filter q M) kept) ∙ cond-false (p r) (r ∷ filter p (filter q M)) (filter p (filter q M)) fails
        ∙ filter_both p q h M ∙ sym (cond-false (p r) (r ∷ filter p M) (filter p M) fails)
    | inr dropped ↦ ap (filter p) (cond-false (q r) (r ∷ filter q M) (filter q M) dropped)
        ∙ filter_both p q h M ∙ sym (cond-false (p r) (r ∷ filter p M) (filter p M) fails)
  ]
]

-- a kind that is stored to is Write or Shadow
abbrev IsMutable : (Kind → Bool) → Type 0
IsMutable allowed = (kind : Kind) → is_fixed kind ≡ true → not (allowed kind) ≡ true

write_is_mutable : IsMutable is_write
write_is_mutable Code h = refl
write_is_mutable Read h = refl
write_is_mutable Write h = h
write_is_mutable Shadow h = refl

shadow_is_mutable : IsMutable is_shadow
shadow_is_mutable Code h = refl
shadow_is_mutable Read h = refl
shadow_is_mutable Write h = refl
shadow_is_mutable Shadow h = h

-- what is read of kinds that are neither is read of no kind that is stored to
pub other_than_write : (kinds : Kind → Bool) → kinds Write ≡ false → (kind : Kind) → is_write kind ≡ true → kinds kind ≡ false
other_than_write kinds w Code h = cc
other_than_write kinds w Read h = cc
other_than_write kinds w Write h = w
other_than_write kinds w Shadow h = cc

other_than_shadow : (kinds : Kind → Bool) → kinds Shadow ≡ false → (kind : Kind) → is_shadow kind ≡ true → kinds kind ≡ false
other_than_shadow kinds s Code h = cc
other_than_shadow kinds s Read h = cc
other_than_shadow kinds s Write h = cc
other_than_shadow kinds s Shadow h = s

fixed_stays : (allowed : Kind → Bool) → IsMutable allowed → (M N : List Region) (a : ℕ) (new : List ℕ) → stored allowed M a new ≡ Some N
    → filter (λ r. is_fixed r.kind) N ≡ filter (λ r. is_fixed r.kind) M
fixed_stays allowed mutable M N a new e =
    let within : (r : Region) → is_fixed r.kind ≡ true → not (allowed r.kind) ≡ true = λ r h. mutable r.kind h in
    sym (filter_both (λ r. is_fixed r.kind) (λ r. not (allowed r.kind)) within N)
    ∙ ap (filter (λ (r : Region). is_fixed r.kind)) (stored_keeps_other_kinds allowed M N a new e)
    ∙ filter_both (λ r. is_fixed r.kind) (λ r. not (allowed r.kind)) within M

pub write_keeps : (M N : List Region) (a : ℕ) (new : List ℕ) → IsByteList new → stored is_write M a new ≡ Some N → KeepsRegions M N
write_keeps M N a new bytes e = record {
  shape = stored_keeps_shape is_write M N a new e;
  fixed = fixed_stays is_write write_is_mutable M N a new e;
  reads = λ kinds w s. stored_keeps_reads_of_other_kinds is_write kinds M N a new e (other_than_write kinds w);
  bytes = stored_keeps_bytes is_write M N a new e bytes;
}

pub shadow_keeps : (M N : List Region) (a : ℕ) (new : List ℕ) → IsByteList new → stored is_shadow M a new ≡ Some N → KeepsRegions M N
shadow_keeps M N a new bytes e = record {
  shape = stored_keeps_shape is_shadow M N a new e;
  fixed = fixed_stays is_shadow shadow_is_mutable M N a new e;
  reads = λ kinds w s. stored_keeps_reads_of_other_kinds is_shadow kinds M N a new e (other_than_shadow kinds s);
  bytes = stored_keeps_bytes is_shadow M N a new e bytes;
}

-- ---- one part after another

-- a part of which nothing is known, then the rest
pub after_any : {A B E : Type 0} (e : Result A E) (f : A → Result B E) (P : B → Type 0) → ((x : A) → IfOk (f x) P) → IfOk (e >>= f) P
after_any (Ok x) f P h = h x
after_any (Err e) f P h = tt

-- a part that has Q, then the rest
pub after_ok : {A B E : Type 0} (e : Result A E) (f : A → Result B E) (Q : A → Type 0) (P : B → Type 0) → IfOk e Q → ((x : A) → Q x → IfOk (f x) P) → IfOk (e >>= f) P
after_ok (Ok x) f Q P q h = h x q
after_ok (Err e) f Q P q h = tt

pub ok_or_some : {A E : Type 0} (o : Option A) (e : E) (P : A → Type 0) → ((x : A) → o ≡ Some x → P x) → IfOk (ok_or o e) P
ok_or_some None e P h = tt
ok_or_some (Some x) e P h = h x refl

-- ---- the machine

pub follows_refl : (m : Machine) → Follows m m
follows_refl m = (keeps_refl m.memory, refl)

pub follows_trans : (l m n : Machine) → Follows l m → Follows m n → Follows l n
follows_trans l m n k h = (keeps_trans l.memory m.memory n.memory k.0 h.0, h.1 ∙ k.1)

pub put_follows : (w : Width) (reg : Reg) (v : ℕ) (m : Machine) → Follows m (put w reg v m)
put_follows w reg v m = (keeps_refl m.memory, length-set m.regs.r (number reg) _)

pub then_put : (l m : Machine) (w : Width) (reg : Reg) (v : ℕ) → Follows l m → Follows l (put w reg v m)
then_put l m w reg v h = follows_trans l m (put w reg v m) h (put_follows w reg v m)

pub store_follows : (w : Width) (a v : ℕ) (m : Machine) → IfOk (store_at w a v m) (Follows m)
store_follows w a v m =
    after_ok (ok_or (store m.memory a (bytes_of w) v) (Page a)) _ (KeepsRegions m.memory) (Follows m)
    (ok_or_some (store m.memory a (bytes_of w) v) (Page a) (KeepsRegions m.memory)
    (λ N e. write_keeps m.memory N a (low_bytes (bytes_of w) v) (IsByteList-low_bytes (bytes_of w) v) e))
    (λ N k. (k, refl))

pub write_follows : (w : Width) (operand : Rm) (v : ℕ) (m : Machine) → IfOk (write w operand v m) (Follows m)
write_follows w (rm.Reg reg) v m = put_follows w reg v m
write_follows w (rm.Mem mem) v m = store_follows w (address m.regs mem) v m
