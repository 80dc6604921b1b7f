-- What keeps the frame of a signal.
use Rattle.std.proofs.Common.{◌≡◌, ℕ, ◌-◌, inl, inr, Bool, true, List, length, take, Option, Some, refl, sym, ap, ◌∙◌, arith, if◌then◌else◌}
use Rattle.std.specs.List.{find}
use Rattle.std.specs.Option.{option_map, option_and_then}
use Rattle.cet_isa.specs.declared.register.Reg.TheVariants.{Rsp}
use Rattle.cet_machine.specs.declared.memory.Region.{Region}
use Rattle.cet_machine.specs.Memory.{holds, is_any, allowed_from, bytes_from, written, with_bytes}
use Rattle.cet_machine.specs.MemoryLaws.{IsApart}
use Rattle.cet_machine.specs.Machine.{plus}
use Rattle.cet_machine.specs.Operand.{value}
use Rattle.cet_machine.proofs.MemoryBytes.{overwritten-before, overwritten-after}
use Rattle.cet_machine.proofs.MemoryRegions.{holds_parts, found_after, stored_parts}
use Rattle.cet_machine.proofs.MemoryReads.{bytes_is}
use Rattle.cet_machine.proofs.Registers.{written_is_read}
use Rattle.cet_signal.specs.Returned.{frame_bytes, PopKeepsFrame, StoreKeepsFrame}

pub pop_keeps_frame : PopKeepsFrame
pop_keeps_frame mode n count = record {
  rsp = written_is_read n.regs Rsp (plus (value n.regs Rsp) 8) count;
  frame = refl;
  ssp = λ on. ap (λ (b : Bool). if b then plus n.regs.ssp 8 else n.regs.ssp) on;
  word = λ on. refl;
  unused = λ off. ap (λ (b : Bool). if b then plus n.regs.ssp 8 else n.regs.ssp) off;
}

frame_in : (M : List Region) (a : ℕ) (o : Option Region) → find (holds a 208) M ≡ o
    → frame_bytes M a ≡ option_map (take 208) (option_and_then (allowed_from is_any a) o)
frame_in M a o e = ap (option_map (take 208)) (bytes_is is_any M a 208 o e)

-- in the region that was written
bytes_apart : (b : ℕ) (new : List ℕ) (a : ℕ) (r : Region) → IsApart b (length new) a 208 → holds b (length new) r ≡ true → holds a 208 r ≡ true
    → take 208 (bytes_from (written b new r) a) ≡ take 208 (bytes_from r a)
bytes_apart b new a r (inl after) writes reads =
    let w = holds_parts b (length new) r writes in
    ap (take 208) (overwritten-after r.bytes (b - r.start) new (a - r.start) (omega (arith, w.0, w.1)) (omega (arith, w.0, after)))
bytes_apart b new a r (inr before) writes reads =
    let w = holds_parts b (length new) r writes in
    let x = holds_parts a 208 r reads in
    overwritten-before r.bytes (b - r.start) new (a - r.start) 208 (omega (arith, w.0, w.1)) (omega (arith, x.0, before))

pub store_keeps_frame : StoreKeepsFrame
store_keeps_frame allowed M N b new a e apart =
    let s = stored_parts allowed M N b new e in
    ap (λ (L : List Region). frame_bytes L a) s.now
    ∙ elim (found_after M b new a 208) [
      | inl same ↦ frame_in (with_bytes M b new) a (find (holds a 208) M) same ∙ sym (frame_in M a (find (holds a 208) M) refl)
      | inr c ↦
          frame_in (with_bytes M b new) a (Some (written b new c.region)) c.after
          ∙ ap Some (bytes_apart b new a c.region apart c.writes c.reads)
          ∙ sym (frame_in M a (Some c.region) c.before)
    ]
