-- The frame of a signal on the two stacks, by what holds its bytes.
use Rattle.std.proofs.Common.{◌≡◌, ℕ, inl, inr, true, List, length, Option, Some, None, Result, Ok, Err, IfOk, refl, sym, ap, ◌∙◌, arith}
use Rattle.std.proofs.lemmas.Bool.{cases_Bool}
use Rattle.cet_isa.specs.declared.registers.Regs.{Regs}
use Rattle.cet_isa.specs.declared.registers.Mode.{Mode}
use Rattle.cet_isa.specs.declared.fault.Fault.{Fault}
use Rattle.cet_isa.specs.declared.fault.Fault.TheVariants.{Page}
use Rattle.cet_machine.specs.declared.action.Action.{Action}
use Rattle.cet_machine.specs.declared.memory.Kind.{Kind}
use Rattle.cet_machine.specs.declared.memory.Kind.TheVariants.{Code, Read, Write, Shadow}
use Rattle.cet_machine.specs.declared.memory.Region.{Region}
use Rattle.cet_machine.specs.Memory.{is_write, is_shadow, low_bytes, held, stored, shadow_store}
use Rattle.cet_machine.specs.MemoryLaws.{SameShape}
use Rattle.cet_machine.specs.Machine.{Machine, minus}
use Rattle.cet_machine.specs.Shadow.{push}
use Rattle.cet_machine.specs.ShadowEffect.{shadow_pushed, with_shadow}
use Rattle.cet_machine.specs.Signal.{frame, bytes_of_words, marked, shadow_frame, deliver}
use Rattle.cet_machine.proofs.MemoryRegions.{same_shape_held}
use Rattle.cet_machine.proofs.MemoryReads.{stored_keeps_shape, stored_where_held, held_where_stored}
use Rattle.cet_cpu.specs.Answer.{machine, after}
use Rattle.cet_cpu.proofs.Calls.{shadow_none, shadow_some}
use Rattle.cet_signal.specs.Aligned.{IsAligned}
use Rattle.cet_signal.specs.Room.{frame_at, first_word, second_word, HasRoom, IsRefused}
use Rattle.cet_signal.proofs.Frames.{frame_length}

-- ---- bytes that a Write region takes

write_only : (kind : Kind) → is_write kind ≡ true → kind ≡ Write
write_only Code e = absurd (cc)
write_only Read e = absurd (cc)
write_only Write e = refl
write_only Shadow e = absurd (cc)

none_from : (M : List Region) (a : ℕ) (new : List ℕ) (o : Option (List Region)) → stored is_write M a new ≡ o → (held M a (length new) ≡ Some Write → ⊥) → o ≡ None
none_from M a new None e other = refl
none_from M a new (Some N) e other =
    let h = held_where_stored is_write M N a new e in
    absurd (other (h.1 ∙ ap Some (write_only h.0 h.2)))

bytes_none : (M : List Region) (a : ℕ) (new : List ℕ) → (held M a (length new) ≡ Some Write → ⊥) → stored is_write M a new ≡ None
bytes_none M a new other = none_from M a new (stored is_write M a new) refl other

bytes_some : (M : List Region) (a : ℕ) (new : List ℕ) → held M a (length new) ≡ Some Write → (N : List Region) × (stored is_write M a new ≡ Some N)
bytes_some M a new h = stored_where_held is_write M a new Write h refl

pub refused_by_frame : (mode : Mode) (M : List Region) (R : Regs) → length R.r ≡ 16 → (held M (frame_at R) 208 ≡ Some Write → ⊥) → IsRefused mode M R (Page (frame_at R))
unfolding deliver
refused_by_frame mode M R size other action signo =
    let bytes = bytes_of_words (frame action signo R) in
    let none : stored is_write M (frame_at R) (bytes_of_words (frame action signo R)) ≡ None =
    bytes_none M (frame_at R) bytes (λ h. other (ap (λ (n : ℕ). held M (frame_at R) n) (sym (frame_length action signo R size)) ∙ h)) in
    rw none refl

frame_taken : (M : List Region) (R : Regs) (action : Action) (signo : ℕ) → length R.r ≡ 16 → held M (frame_at R) 208 ≡ Some Write
    → (N : List Region) × (stored is_write M (frame_at R) (bytes_of_words (frame action signo R)) ≡ Some N) × SameShape M N
frame_taken M R action signo size on_data =
    let bytes = bytes_of_words (frame action signo R) in
    let s = bytes_some M (frame_at R) bytes (ap (λ (n : ℕ). held M (frame_at R) n) (frame_length action signo R size) ∙ on_data) in
    (s.0, s.1, stored_keeps_shape is_write M s.0 (frame_at R) bytes s.1)

word_taken : (N : List Region) (a word : ℕ) → held N a 8 ≡ Some Shadow → (K : List Region) × (shadow_store N a word ≡ Some K) × SameShape N K
word_taken N a word there = let s = shadow_some N a word there in (s.0, s.1, stored_keeps_shape is_shadow N s.0 a (low_bytes 8 word) s.1)

pub refused_by_first : (mode : Mode) (M : List Region) (R : Regs) → length R.r ≡ 16 → mode.shstk ≡ true → held M (frame_at R) 208 ≡ Some Write
    → (held M (first_word R) 8 ≡ Some Shadow → ⊥) → IsRefused mode M R (Page (first_word R))
unfolding deliver push
refused_by_first mode M R size shstk on_data other action signo =
    let (N, stores, shape) = frame_taken M R action signo size on_data in
    let same = same_shape_held M N (first_word R) 8 shape in
    let none : shadow_store N (first_word R) (marked R.ssp) ≡ None = shadow_none N (first_word R) (marked R.ssp) (λ h. other (sym same ∙ h)) in
    rw stores (rw shstk (rw none refl))

pub refused_by_second : (mode : Mode) (M : List Region) (R : Regs) → length R.r ≡ 16 → mode.shstk ≡ true → held M (frame_at R) 208 ≡ Some Write
    → held M (first_word R) 8 ≡ Some Shadow → (held M (second_word R) 8 ≡ Some Shadow → ⊥) → IsRefused mode M R (Page (second_word R))
unfolding deliver push
refused_by_second mode M R size shstk on_data on_shadow other action signo =
    let (N, stores, shape) = frame_taken M R action signo size on_data in
    let there : held N (first_word R) 8 ≡ Some Shadow = same_shape_held M N (first_word R) 8 shape ∙ on_shadow in
    let (K, pushes, shape_k) = word_taken N (first_word R) (marked R.ssp) there in
    let same = same_shape_held N K (second_word R) 8 shape_k ∙ same_shape_held M N (second_word R) 8 shape in
    let none : shadow_store K (second_word R) action.restorer ≡ None = shadow_none K (second_word R) action.restorer (λ h. other (sym same ∙ h)) in
    rw stores (rw shstk (rw pushes (rw none refl)))

-- with all three held, the two words are pushed
pub frame_takes : (mode : Mode) (M N : List Region) (R : Regs) (action : Action) (f : Fault) → SameShape M N → HasRoom mode M R
    → shadow_frame mode action (machine N R) ≡ Err f → ⊥
unfolding push
frame_takes mode M N R action f shape room e = elim (cases_Bool (mode.shstk)) [
  | inl on ↦
      let (K, pushes, shape_k) = word_taken N (first_word R) (marked R.ssp) (same_shape_held M N (first_word R) 8 shape ∙ room.first on) in
      let (L, pushes_second, shape_l) = word_taken K (second_word R) action.restorer
      (same_shape_held N K (second_word R) 8 shape_k ∙ same_shape_held M N (second_word R) 8 shape ∙ room.second on) in
      let done : shadow_frame mode action (machine N R) ≡ Ok (with_shadow L (second_word R) (with_shadow K (first_word R) (machine N R))) = rw on (rw pushes (rw pushes_second refl)) in
      absurd (cc)
  | inr off ↦
      let done : shadow_frame mode action (machine N R) ≡ Ok (machine N R) = rw off refl in
      absurd (cc)
]

-- ---- SSP after a push

pub pushed_aligned : (M N : List Region) (R Q : Regs) (word : ℕ) → Ok (machine N Q) ≡ shadow_pushed word (machine M R) → IsAligned R → IsAligned Q
unfolding push
pushed_aligned M N R Q word e aligned = from (shadow_store M (minus R.ssp 8) word) refl
  where
    from : (o : Option (List Region)) → shadow_store M (minus R.ssp 8) word ≡ o → IsAligned Q
    from None stores =
        let refused : shadow_pushed word (machine M R) ≡ Err (Page (minus R.ssp 8)) = rw stores refl in
        absurd (cc)
    from (Some K) stores =
        let taken : shadow_pushed word (machine M R) ≡ Ok (with_shadow K (minus R.ssp 8) (machine M R)) = rw stores refl in
        let same : machine N Q ≡ with_shadow K (minus R.ssp 8) (machine M R) = cc in
        let ssp : Q.ssp ≡ minus R.ssp 8 = ap (λ (m : Machine). m.regs.ssp) same in
        omega (arith, ssp, aligned)

pub aligned_result : (M N : List Region) (R : Regs) (word : ℕ) (x : Result Regs Fault) → after N x ≡ shadow_pushed word (machine M R) → IsAligned R → IfOk x IsAligned
aligned_result M N R word (Ok Q) e aligned = pushed_aligned M N R Q word e aligned
aligned_result M N R word (Err f) e aligned = tt
