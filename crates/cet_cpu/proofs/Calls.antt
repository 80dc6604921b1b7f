-- A CALL with a shadow stack, by what holds its two words.
use Rattle.std.specs.Prelude.{◌↔◌, IsTrue}
use Rattle.std.proofs.Common.{◌≡◌, ℕ, true, false, Bool, List, Option, Some, None, Ok, Err, refl, sym, ap, ◌∙◌}
use Rattle.cet_machine.specs.declared.memory.Region.{Region}
use Rattle.cet_machine.specs.declared.memory.Kind.{Kind}
use Rattle.cet_machine.specs.declared.memory.Kind.TheVariants.{Code, Read, Write, Shadow}
use Rattle.cet_machine.specs.Memory.{is_write, is_shadow, held, low_bytes, store, shadow_store}
use Rattle.cet_machine.specs.MemoryLaws.{SameShape}
use Rattle.cet_isa.specs.declared.register.Reg.TheVariants.{Rsp}
use Rattle.cet_isa.specs.declared.registers.Regs.{Regs}
use Rattle.cet_isa.specs.declared.registers.Mode.{Mode}
use Rattle.cet_isa.specs.declared.fault.Fault.{Fault}
use Rattle.cet_isa.specs.declared.fault.Fault.TheVariants.{Page}
use Rattle.cet_machine.specs.Machine.{Machine, minus}
use Rattle.cet_machine.specs.Operand.{value}
use Rattle.cet_machine.specs.Shadow.{push}
use Rattle.cet_machine.specs.ShadowEffect.{shadow_pushed, with_shadow}
use Rattle.cet_machine.specs.ControlInstructions.{called}
use Rattle.cet_machine.proofs.MemoryRegions.{same_shape_held}
use Rattle.cet_machine.proofs.MemoryReads.{stored_keeps_shape, stored_where_held, held_where_stored}

pub store_keeps_shape : (M N : List Region) (a n v : ℕ) → store M a n v ≡ Some N → SameShape M N
store_keeps_shape M N a n v e = stored_keeps_shape is_write M N a (low_bytes n v) e

-- only a region of kind Write takes a store
write_only : (kind : Kind) → is_write kind ≡ true → kind ≡ Write
write_only Code e = absurd (cc)
write_only Read e = absurd (cc)
write_only Write e = refl
write_only Shadow e = absurd (cc)

shadow_only : (kind : Kind) → is_shadow kind ≡ true → kind ≡ Shadow
shadow_only Code e = absurd (cc)
shadow_only Read e = absurd (cc)
shadow_only Write e = absurd (cc)
shadow_only Shadow e = refl

store_none_from : (M : List Region) (a v : ℕ) (o : Option (List Region)) → store M a 8 v ≡ o → (held M a 8 ≡ Some Write → ⊥) → o ≡ None
unfolding low_bytes
store_none_from M a v None e other = refl
store_none_from M a v (Some N) e other =
    let h = held_where_stored is_write M N a (low_bytes 8 v) e in
    absurd (other (h.1 ∙ ap Some (write_only h.0 h.2)))

pub store_none : (M : List Region) (a v : ℕ) → (held M a 8 ≡ Some Write → ⊥) → store M a 8 v ≡ None
store_none M a v other = store_none_from M a v (store M a 8 v) refl other

shadow_none_from : (M : List Region) (a v : ℕ) (o : Option (List Region)) → shadow_store M a v ≡ o → (held M a 8 ≡ Some Shadow → ⊥) → o ≡ None
unfolding low_bytes
shadow_none_from M a v None e other = refl
shadow_none_from M a v (Some N) e other =
    let h = held_where_stored is_shadow M N a (low_bytes 8 v) e in
    absurd (other (h.1 ∙ ap Some (shadow_only h.0 h.2)))

pub shadow_none : (M : List Region) (a v : ℕ) → (held M a 8 ≡ Some Shadow → ⊥) → shadow_store M a v ≡ None
shadow_none M a v other = shadow_none_from M a v (shadow_store M a v) refl other

pub store_some : (M : List Region) (a v : ℕ) → held M a 8 ≡ Some Write → (N : List Region) × (store M a 8 v ≡ Some N)
unfolding low_bytes
store_some M a v h = stored_where_held is_write M a (low_bytes 8 v) Write h refl

pub shadow_some : (M : List Region) (a v : ℕ) → held M a 8 ≡ Some Shadow → (N : List Region) × (shadow_store M a v ≡ Some N)
unfolding low_bytes
shadow_some M a v h = stored_where_held is_shadow M a (low_bytes 8 v) Shadow h refl

-- what a test that answers no rules out, and what one that answers yes shows
pub ruled_out : (b : Bool) (P : Type 0) → (IsTrue b ↔ P) → b ≡ false → P → ⊥
ruled_out true P iff e p = absurd (cc)
ruled_out false P iff e p = let h : false ≡ true = iff.1 p in absurd (cc)

pub shown : (b : Bool) (P : Type 0) → (IsTrue b ↔ P) → b ≡ true → P
shown true P iff e = iff.0 refl
shown false P iff e = absurd (cc)

-- no word of the data stack
data_fault : (mode : Mode) (m : Machine) → (held m.memory (minus (value m.regs Rsp) 8) 8 ≡ Some Write → ⊥)
    → called mode m ≡ Err (Page (minus (value m.regs Rsp) 8))
data_fault mode m other =
    let none : store m.memory (minus (value m.regs Rsp) 8) 8 m.regs.rip ≡ None = store_none m.memory (minus (value m.regs Rsp) 8) m.regs.rip other in
    rw none refl

pub refused_by_data : (mode : Mode) (m : Machine) (a : ℕ) → a ≡ minus (value m.regs Rsp) 8 → (held m.memory a 8 ≡ Some Write → ⊥) → Err (Page a) ≡ called mode m
refused_by_data mode m a is other =
    ap (λ (b : ℕ). Err (Page b)) is ∙ sym (data_fault mode m (λ h. other (ap (λ (b : ℕ). held m.memory b 8) is ∙ h)))

-- a word of the data stack, and none of the shadow stack
shadow_fault : (mode : Mode) (m : Machine) → mode.shstk ≡ true → held m.memory (minus (value m.regs Rsp) 8) 8 ≡ Some Write
    → (held m.memory (minus m.regs.ssp 8) 8 ≡ Some Shadow → ⊥) → called mode m ≡ Err (Page (minus m.regs.ssp 8))
unfolding push
shadow_fault mode m shstk on_data other =
    let s = store_some m.memory (minus (value m.regs Rsp) 8) m.regs.rip on_data in
    let stores : store m.memory (minus (value m.regs Rsp) 8) 8 m.regs.rip ≡ Some s.0 = s.1 in
    let same = same_shape_held m.memory s.0 (minus m.regs.ssp 8) 8 (store_keeps_shape m.memory s.0 (minus (value m.regs Rsp) 8) 8 m.regs.rip s.1) in
    let none : shadow_store s.0 (minus m.regs.ssp 8) m.regs.rip ≡ None = shadow_none s.0 (minus m.regs.ssp 8) m.regs.rip (λ h. other (sym same ∙ h)) in
    rw stores (rw shstk (rw none refl))

pub refused_by_shadow : (mode : Mode) (m : Machine) (a b : ℕ) → mode.shstk ≡ true → a ≡ minus (value m.regs Rsp) 8 → b ≡ minus m.regs.ssp 8
    → held m.memory a 8 ≡ Some Write → (held m.memory b 8 ≡ Some Shadow → ⊥) → Err (Page b) ≡ called mode m
refused_by_shadow mode m a b shstk is is_b on_data other =
    ap (λ (n : ℕ). Err (Page n)) is_b
    ∙ sym (shadow_fault mode m shstk (ap (λ (n : ℕ). held m.memory n 8) (sym is) ∙ on_data) (λ h. other (ap (λ (n : ℕ). held m.memory n 8) is_b ∙ h)))

-- where a shadow stack holds the word, it is pushed
pub shadow_takes : (M N : List Region) (R : Regs) (a word : ℕ) (f : Fault) → SameShape M N → a ≡ minus R.ssp 8 → held M a 8 ≡ Some Shadow
    → shadow_pushed word (record { memory = N; regs = R }) ≡ Err f → ⊥
unfolding push
shadow_takes M N R a word f shape is there e =
    let h : held N (minus R.ssp 8) 8 ≡ Some Shadow = ap (λ (b : ℕ). held N b 8) (sym is) ∙ same_shape_held M N a 8 shape ∙ there in
    let s = shadow_some N (minus R.ssp 8) word h in
    let taken : shadow_pushed word (record { memory = N; regs = R }) ≡ Ok (with_shadow s.0 (minus R.ssp 8) (record { memory = N; regs = R })) = rw s.1 refl in
    cc (sym taken ∙ e)
