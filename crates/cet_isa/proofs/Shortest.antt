-- What the parts of a form cost is at least what the parts of the canonical form cost.
use Rattle.std.proofs.Common.{◌≡◌, ℕ, suc, ◌+◌, ◌^◌, ◌<◌, ◌≤◌, Bool, true, false, not, ◌&&◌, ◌||◌, List, [], ◌∷◌, ◌++◌, length, ℤ, pos, Option, Some, None, refl, sym, ap, subst, arith, inl, inr}
use Rattle.std.specs.Prelude.{if◌then◌else◌, ◌==◌}
use Rattle.std.specs.Option.{option_map}
use Rattle.std.specs.Int.{w8, w32}
use Rattle.std.proofs.lemmas.Bool.{lt-leb}
use Rattle.std.proofs.lemmas.List.{length-append}
use Rattle.std.proofs.lemmas.Option.{cond_some, option_and_then_some, same_Some}
use Rattle.cet_isa.specs.declared.register.Reg.{Reg}
use Rattle.cet_isa.specs.declared.operand.Mem.{Mem}
use Rattle.cet_isa.specs.declared.operand.Rm.{Rm}
use Rattle.cet_isa.specs.declared.operand.Rm.TheVariants as rm
use Rattle.cet_isa.specs.Operand.{Where, register, rex_r, rex_x, rex_b, extended, high_field, middle_field, low_field, Displacement, nothing, disp8, disp32, Address, displaced, displacement_of_mod, has_sib, has_index, has_base, modrm_address, sib_address, sib_index, sib_base, sib_displacement, Displaced, Addressed, MemoryBytes, is_register, names_rm, names_register, rm_register, reg_register, RmBytes, MemoryOperandBytes}
use Rattle.cet_isa.specs.PrefixedMap.{Prefix, prefix_bytes, rex_bytes}
use Rattle.cet_isa.specs.Form.{IsBytes}
use Rattle.cet_isa.specs.Canonical.{fits, signed, number, is_extended, needs_rex, Rex, shortest_rex, rex_byte, fields, RegField, RmField, register_field, is_zero, shortest_displacement, mode_of, displacement_bytes, Index, scale_field, index_of, without_base, needs_sib, base_field, with_base, indexed, memory, register_or_memory, form, with_modrm}
use Rattle.cet_isa.proofs.Places.{choice, map_some}
use Rattle.cet_isa.proofs.Shapes.{parts_of}
use Rattle.cet_isa.proofs.Operands.{by_where, rest_bytes, signed8_fits, register_number}

-- ---- REX

-- what asks for a REX byte has one
pub record Has (rex : Option ℕ) (asked : Bool) : Type 0 where
  pub at : rex ≡ None → asked ≡ false

pub has_some : (byte : ℕ) (asked : Bool) → Has (Some byte) asked
has_some byte asked = record { at = λ e. absurd cc }

pub not_asked : (rex : Option ℕ) → Has rex false
not_asked rex = record { at = λ e. refl }

pub has_either : (rex : Option ℕ) (s t : Bool) → Has rex s → Has rex t → Has rex (s || t)
has_either rex s t h k = record { at = λ e. rw (h.at e, k.at e) refl }

at_most_one : (t : Bool) (x : ℕ) → length (rex_bytes (if t then Some x else None)) ≤ 1
at_most_one true x = omega arith
at_most_one false x = omega arith

pub rex_cost : (want : Rex) (rex : Option ℕ) → Has rex want.w → Has rex want.r → Has rex want.x → Has rex want.b → Has rex want.needed → length (rex_bytes (shortest_rex want)) ≤ length (rex_bytes rex)
rex_cost want (Some byte) w r x b n = at_most_one _ (rex_byte want)
rex_cost want None w r x b n = rw (w.at refl, r.at refl, x.at refl, b.at refl, n.at refl) (omega arith)

-- ---- registers

small_plain : (n : ℕ) → n < 8 → is_extended n ≡ false
small_plain n lt = lt-leb 8 n lt

low_plain : (n : ℕ) → n < 8 → is_extended (number (register n)) ≡ false
low_plain n lt = rw (register_number n (omega arith)) (small_plain n lt)

-- what a register asks of REX
pub record RegHas (rex : Option ℕ) (byte : Bool) (reg : Reg) : Type 0 where
  pub high : Has rex (is_extended (number reg))
  pub needed : Has rex (needs_rex byte reg)

pub named_reg : (rex : Option ℕ) (high : Option ℕ → Bool) (byte : Bool) (field : ℕ) → field < 8 → high None ≡ false → names_register rex byte field ≡ true → RegHas rex byte (register (extended (high rex) field))
named_reg (Some x) high byte field lt none is = record { high = has_some x _; needed = has_some x _ }
named_reg None high byte field lt none is =
    record {
      high = record { at = λ e. rw none (low_plain field lt) };
      needed = record { at = λ e. rw none (rw (register_number field (omega arith), is) refl) };
    }

pub reg_has : (rex : Option ℕ) (byte : Bool) (modrm : ℕ) → names_register rex byte (middle_field modrm) ≡ true → RegHas rex byte (reg_register rex modrm)
reg_has rex byte modrm is = named_reg rex rex_r byte (middle_field modrm) (omega arith) refl is

pub both_named : (s t : Bool) → (s && t) ≡ true → t ≡ true
both_named true t e = e
both_named false t e = absurd cc

pub rm_has : (rex : Option ℕ) (byte : Bool) (modrm : ℕ) → names_rm rex byte modrm ≡ true → RegHas rex byte (rm_register rex modrm)
rm_has rex byte modrm is = named_reg rex rex_b byte (low_field modrm) (omega arith) refl (both_named _ _ is)

-- ---- displacements

pub signed8_size : (z : ℤ) (b : List ℕ) → signed w8 z ≡ Some b → length b ≡ 1
signed8_size z b e = let parts = cond_some (fits w8 z) _ b e in ap length (sym parts.1)

pub signed32_size : (z : ℤ) (b : List ℕ) → signed w32 z ≡ Some b → length b ≡ 4
signed32_size z b e = let parts = cond_some (fits w32 z) _ b e in ap length (sym parts.1)

pub nothing_size : (b : List ℕ) → ◌≡◌ {A = Option (List ℕ)} (Some []) (Some b) → length b ≡ 0
nothing_size b e = ap length (sym (same_Some [] b e))

-- the shortest displacement is no longer than another one of the number
displacement_cost : (base : Reg) (d : ℤ) (kind : Displacement) (b bytes : List ℕ) → IsBytes b → Displaced kind d b → (kind ≡ nothing → (low_field (number base) == 5) ≡ false)
    → displacement_bytes (shortest_displacement base d) d ≡ Some bytes → length bytes ≤ length b
displacement_cost base d nothing b bytes y p low e = nothing_cost (subst (λ (z : ℤ). displacement_bytes (shortest_displacement base z) z ≡ Some bytes) p.0 e)
  where
    nothing_cost : displacement_bytes (shortest_displacement base (pos 0)) (pos 0) ≡ Some bytes → length bytes ≤ length b
    nothing_cost e = let none : ◌≡◌ {A = Option (List ℕ)} (Some []) (Some bytes) = rw (low refl) at e in let size = nothing_size bytes none in omega arith
displacement_cost base d disp8 b bytes y p low e =
    let one : length b ≡ 1 = p.0 in
    let size : length bytes ≤ 1 = by_zero (is_zero d && not (low_field (number base) == 5)) (signed8_fits d b y p) e in
    omega arith
  where
    by_size : (t : Bool) → t ≡ true → displacement_bytes (if t then disp8 else disp32) d ≡ Some bytes → length bytes ≤ 1
    by_size true f e = let size = signed8_size d bytes e in omega arith
    by_size false f e = absurd cc

    by_zero : (t : Bool) → fits w8 d ≡ true → displacement_bytes (if t then nothing else if fits w8 d then disp8 else disp32) d ≡ Some bytes → length bytes ≤ 1
    by_zero true f e = let size = nothing_size bytes e in omega arith
    by_zero false f e = by_size (fits w8 d) f e
displacement_cost base d disp32 b bytes y p low e = let four : length b ≡ 4 = p.0 in let size = any_size (shortest_displacement base d) e in omega arith
  where
    any_size : (kind : Displacement) → displacement_bytes kind d ≡ Some bytes → length bytes ≤ 4
    any_size nothing e = let size = nothing_size bytes e in omega arith
    any_size disp8 e = let size = signed8_size d bytes e in omega arith
    any_size disp32 e = let size = signed32_size d bytes e in omega arith

-- ---- memory operands

-- an operand's canonical bytes are n at most, and it asks for no REX where there is none
pub record PlaceCosts (rex : Option ℕ) (place : RmField) (n : ℕ) : Type 0 where
  pub x : Has rex place.x
  pub b : Has rex place.b
  pub needed : Has rex place.needs_rex
  pub size : length place.behind ≤ n

pub record MemCosts (rex : Option ℕ) (mem : Mem) (n : ℕ) : Type 0 where
  pub at : (place : RmField) → memory mem ≡ Some place → PlaceCosts rex place n

-- an address behind which a displacement of n bytes makes `more` + n bytes
record AddressCosts (rex : Option ℕ) (more : ℕ) (a : Address) : Type 0 where
  at : (d : ℤ) (b : List ℕ) → IsBytes b → Displaced a.displacement d b → MemCosts rex (displaced a d) (more + length b)

rip_costs : (rex : Option ℕ) → AddressCosts rex 0 (record { base = None; index = None; scale = 1; rip = true; displacement = disp32 })
rip_costs rex = record {
  at = λ d b y p. record {
    at = λ place e.
        let bytes = map_some {B = RmField} (λ bytes. record { x = false; b = false; needs_rex = false; mode = 0; rm = 5; behind = bytes }) (signed w32 d) place e in
        let size = signed32_size d bytes.0 bytes.1 in
        let four : length b ≡ 4 = p.0 in
        subst (λ (q : RmField). PlaceCosts rex q (0 + length b)) bytes.2 (record { x = not_asked rex; b = not_asked rex; needed = not_asked rex; size = omega arith });
  };
}

-- a base, with the index that SIB or no SIB says
based_costs : (rex : Option ℕ) (base : Reg) (x : Index) (more : ℕ) (d : ℤ) (kind : Displacement) (b : List ℕ) (place : RmField) → IsBytes b → Displaced kind d b → (kind ≡ nothing → (low_field (number base) == 5) ≡ false)
    → Has rex (is_extended x.number) → Has rex (is_extended (number base)) → (needs_sib base x ≡ true → 1 ≤ more) → with_base base x d ≡ Some place → PlaceCosts rex place (more + length b)
based_costs rex base x more d kind b place y p low index_has base_has room e =
    let bytes = map_some (base_field base x (mode_of (shortest_displacement base d))) (displacement_bytes (shortest_displacement base d) d) place e in
    let size = displacement_cost base d kind b bytes.0 y p low bytes.1 in
    subst (λ (q : RmField). PlaceCosts rex q (more + length b)) bytes.2 (by_sib (needs_sib base x) (mode_of (shortest_displacement base d)) _ room bytes.0 size)
  where
    by_sib : (t : Bool) (mode sib : ℕ) → (t ≡ true → 1 ≤ more) → (bytes : List ℕ) → length bytes ≤ length b
        → PlaceCosts rex (if t then record { x = is_extended x.number; b = is_extended (number base); needs_rex = false; mode = mode; rm = 4; behind = sib ∷ bytes } else record { x = false; b = is_extended (number base); needs_rex = false; mode = mode; rm = low_field (number base); behind = bytes }) (more + length b)
    by_sib true mode sib room bytes size = let one = room refl in record { x = index_has; b = base_has; needed = not_asked rex; size = omega arith }
    by_sib false mode sib room bytes size = record { x = not_asked rex; b = base_has; needed = not_asked rex; size = omega arith }

unbased_costs : (rex : Option ℕ) (x : Index) (d : ℤ) (b : List ℕ) (place : RmField) → Displaced disp32 d b → Has rex (is_extended x.number) → without_base x d ≡ Some place → PlaceCosts rex place (1 + length b)
unbased_costs rex x d b place p index_has e =
    let bytes = map_some {B = RmField} (λ bytes. record { x = is_extended x.number; b = false; needs_rex = false; mode = 0; rm = 4; behind = fields x.scale (low_field x.number) 5 ∷ bytes }) (signed w32 d) place e in
    let size = signed32_size d bytes.0 bytes.1 in
    let four : length b ≡ 4 = p.0 in
    subst (λ (q : RmField). PlaceCosts rex q (1 + length b)) bytes.2 (record { x = index_has; b = not_asked rex; needed = not_asked rex; size = omega arith })

-- what holds of an address, if there is one
record IfCosts (rex : Option ℕ) (more : ℕ) (o : Option Address) : Type 0 where
  at : (a : Address) → o ≡ Some a → AddressCosts rex more a

no_costs : (rex : Option ℕ) (more : ℕ) → IfCosts rex more None
no_costs rex more = record { at = λ a e. absurd cc }

some_costs : (rex : Option ℕ) (more : ℕ) (a : Address) → AddressCosts rex more a → IfCosts rex more (Some a)
some_costs rex more a h = record { at = λ b e. subst (λ (x : Address). AddressCosts rex more x) (same_Some a b e) h }

if_costs : (rex : Option ℕ) (more : ℕ) (t : Bool) (o p : Option Address) → (t ≡ true → IfCosts rex more o) → (t ≡ false → IfCosts rex more p) → IfCosts rex more (if t then o else p)
if_costs rex more true o p h k = h refl
if_costs rex more false o p h k = k refl

-- the number of the register that a field and its bit of REX name
field_number : (bit : Bool) (field : ℕ) → field < 8 → low_field (number (register (extended bit field))) ≡ field
field_number true field lt = let e = register_number (8 + field) (omega arith) in rw e (omega arith)
field_number false field lt = let e = register_number field (omega arith) in rw e (omega arith)

base_has : (rex : Option ℕ) (field : ℕ) → field < 8 → Has rex (is_extended (number (register (extended (rex_b rex) field))))
base_has (Some byte) field lt = has_some byte _
base_has None field lt = record { at = λ e. low_plain field lt }

nothing_mode : (mode : ℕ) → displacement_of_mod mode ≡ nothing → (mode == 0) ≡ true
nothing_mode mode e = by_test (mode == 0) (mode == 1) e
  where
    by_test : (s t : Bool) → (if s then nothing else if t then disp8 else disp32) ≡ nothing → s ≡ true
    by_test true t e = refl
    by_test false true e = absurd cc
    by_test false false e = absurd cc

base_alone : (rex : Option ℕ) (modrm : ℕ) → has_sib modrm ≡ false → (high_field modrm == 0 && low_field modrm == 5) ≡ false
    → AddressCosts rex 0 (record { base = Some (register (extended (rex_b rex) (low_field modrm))); index = None; scale = 1; rip = false; displacement = displacement_of_mod (high_field modrm) })
base_alone rex modrm no_sib no_rip =
    let base = register (extended (rex_b rex) (low_field modrm)) in
    let field : low_field (number base) ≡ low_field modrm = field_number (rex_b rex) (low_field modrm) (omega arith) in
    record {
      at = λ d b y p. record {
        at = λ place e.
            based_costs rex base (record { scale = 0; number = 4 }) 0 d (displacement_of_mod (high_field modrm)) b place y p
            (λ n. rw field (let z = nothing_mode (high_field modrm) n in rw z at no_rip)) (not_asked rex) (base_has rex (low_field modrm) (omega arith)) (λ n. absurd (let four = field in let h : (low_field modrm == 4) ≡ true = rw field at n in cc)) e;
      };
    }

by_modrm_costs : (rex : Option ℕ) (modrm : ℕ) → has_sib modrm ≡ false → IfCosts rex 0 (modrm_address rex modrm)
by_modrm_costs rex modrm no_sib =
    if_costs rex 0 (rex_x rex) None
    (if high_field modrm == 0 && low_field modrm == 5
    then if rex_b rex then None else Some (record { base = None; index = None; scale = 1; rip = true; displacement = disp32 })
    else Some (record { base = Some (register (extended (rex_b rex) (low_field modrm))); index = None; scale = 1; rip = false; displacement = displacement_of_mod (high_field modrm) }))
    (λ e. no_costs rex 0)
    (λ e. if_costs rex 0 (high_field modrm == 0 && low_field modrm == 5) (if rex_b rex then None else Some (record { base = None; index = None; scale = 1; rip = true; displacement = disp32 }))
    (Some (record { base = Some (register (extended (rex_b rex) (low_field modrm))); index = None; scale = 1; rip = false; displacement = displacement_of_mod (high_field modrm) }))
    (λ f. if_costs rex 0 (rex_b rex) None (Some (record { base = None; index = None; scale = 1; rip = true; displacement = disp32 })) (λ g. no_costs rex 0) (λ g. some_costs rex 0 _ (rip_costs rex)))
    (λ f. some_costs rex 0 _ (base_alone rex modrm no_sib f)))

index_plain : (t : Bool) (field scale : ℕ) (x : Index) → field < 8 → index_of (if t then Some (register field) else None) scale ≡ Some x → is_extended x.number ≡ false
index_plain true field scale x lt e =
    elim (choice (number (register field) == 4) None (option_map (λ bits. record { scale = bits; number = number (register field) }) (scale_field scale)) (Some x) e) [
      | inl c ↦ absurd (let k = c.1 in cc)
      | inr c ↦
          let bits = map_some {B = Index} (λ bits. record { scale = bits; number = number (register field) }) (scale_field scale) x c.1 in
          subst (λ (y : Index). is_extended y.number ≡ false) bits.2 (low_plain field lt)
    ]
index_plain false field scale x lt e =
    let parts = cond_some (scale == 1) (record { scale = 0; number = 4 }) x e in
    subst (λ (y : Index). is_extended y.number ≡ false) parts.1 refl

index_has : (rex : Option ℕ) (sib scale : ℕ) (x : Index) → index_of (sib_index rex sib) scale ≡ Some x → Has rex (is_extended x.number)
index_has (Some byte) sib scale x e = has_some byte _
index_has None sib scale x e = record { at = λ n. index_plain (has_index None sib) (middle_field sib) scale x (omega arith) e }

not_both : (s t : Bool) → not (s && t) ≡ true → s ≡ true → t ≡ false
not_both true false e f = refl
not_both true true e f = absurd cc
not_both false t e f = absurd cc

sib_costs : (rex : Option ℕ) (modrm sib : ℕ) → AddressCosts rex 1 (record { base = sib_base rex modrm sib; index = sib_index rex sib; scale = 2 ^ high_field sib; rip = false; displacement = sib_displacement modrm sib })
sib_costs rex modrm sib = record {
  at = λ d b y p. record {
    at = λ place e.
        option_and_then_some (indexed (sib_base rex modrm sib) d) (index_of (sib_index rex sib) (2 ^ high_field sib)) place e
        (λ x g h. by_base d b place x (has_base modrm sib) refl y p (index_has rex sib (2 ^ high_field sib) x g) h);
  };
}
  where
    by_base : (d : ℤ) (b : List ℕ) (place : RmField) (x : Index) (t : Bool) → has_base modrm sib ≡ t → IsBytes b → Displaced (if t then displacement_of_mod (high_field modrm) else disp32) d b → Has rex (is_extended x.number)
        → indexed (if t then Some (register (extended (rex_b rex) (low_field sib))) else None) d x ≡ Some place → PlaceCosts rex place (1 + length b)
    by_base d b place x true t y p h e =
        based_costs rex (register (extended (rex_b rex) (low_field sib))) x 1 d (displacement_of_mod (high_field modrm)) b place y p
        (λ n. rw (field_number (rex_b rex) (low_field sib) (omega arith)) (not_both (high_field modrm == 0) (low_field sib == 5) t (nothing_mode (high_field modrm) n))) h (base_has rex (low_field sib) (omega arith)) (λ n. omega arith) e
    by_base d b place x false t y p h e = unbased_costs rex x d b place p h e

by_sib_costs : (rex : Option ℕ) (modrm sib : ℕ) → IfCosts rex 1 (sib_address rex modrm sib)
by_sib_costs rex modrm sib = if_costs rex 1 ((has_index rex sib || high_field sib == 0) && (has_base modrm sib || not (rex_b rex))) _ None (λ e. some_costs rex 1 _ (sib_costs rex modrm sib)) (λ e. no_costs rex 1)

addressed_costs : (rex : Option ℕ) (more : ℕ) (o : Option Address) (mem : Mem) (b : List ℕ) → IsBytes b → IfCosts rex more o → Addressed o mem b → MemCosts rex mem (more + length b)
addressed_costs rex more None mem b y h p = absurd p
addressed_costs rex more (Some a) mem b y h (d, p, e) = subst (λ (m : Mem). MemCosts rex m (more + length b)) (sym e) ((h.at a refl).at d b y p)

memory_costs : (rex : Option ℕ) (modrm : ℕ) (mem : Mem) (b : List ℕ) → IsBytes b → MemoryBytes rex modrm mem b → MemCosts rex mem (length b)
memory_costs rex modrm mem b y w = by_test (has_sib modrm) refl w
  where
    by_test : (t : Bool) → has_sib modrm ≡ t → Where t ((sib : ℕ) × (rest : List ℕ) × Addressed (sib_address rex modrm sib) mem rest × (b ≡ sib ∷ rest)) (Addressed (modrm_address rex modrm) mem b) → MemCosts rex mem (length b)
    by_test true e (sib, rest, p, f) =
        let size : 1 + length rest ≡ length b = let k : length b ≡ suc (length rest) = ap length f in omega arith in
        subst (λ (n : ℕ). MemCosts rex mem n) size (addressed_costs rex 1 (sib_address rex modrm sib) mem rest (rest_bytes sib rest (subst (λ (l : List ℕ). IsBytes l) f y)) (by_sib_costs rex modrm sib) p)
    by_test false e p = subst (λ (n : ℕ). MemCosts rex mem n) (omega arith) (addressed_costs rex 0 (modrm_address rex modrm) mem b y (by_modrm_costs rex modrm e) p)

-- ---- register or memory

pub record RmCosts (rex : Option ℕ) (byte : Bool) (operand : Rm) (n : ℕ) : Type 0 where
  pub at : (place : RmField) → register_or_memory byte operand ≡ Some place → PlaceCosts rex place n

register_costs : (rex : Option ℕ) (byte : Bool) (reg : Reg) (n : ℕ) → RegHas rex byte reg → RmCosts rex byte (rm.Reg reg) n
register_costs rex byte reg n h = record {
  at = λ place e. subst (λ (q : RmField). PlaceCosts rex q n) (same_Some (register_field byte reg) place e) (record { x = not_asked rex; b = h.high; needed = h.needed; size = omega arith });
}

pub rm_costs : (rex : Option ℕ) (byte : Bool) (modrm : ℕ) (operand : Rm) (b : List ℕ) → IsBytes b → RmBytes rex byte modrm operand b → RmCosts rex byte operand (length b)
rm_costs rex byte modrm operand b y w =
    by_where (is_register modrm) _ _ (RmCosts rex byte operand (length b))
    (λ p. subst (λ (x : Rm). RmCosts rex byte x (length b)) (sym p.1.0) (register_costs rex byte (rm_register rex modrm) (length b) (rm_has rex byte modrm p.0)))
    (λ p. subst (λ (x : Rm). RmCosts rex byte x (length b)) (sym p.2) (let m = memory_costs rex modrm p.0 b y p.1 in record { at = λ place e. m.at place e })) w

pub memory_operand_costs : (rex : Option ℕ) (modrm : ℕ) (mem : Mem) (b : List ℕ) → IsBytes b → MemoryOperandBytes rex modrm mem b → MemCosts rex mem (length b)
memory_operand_costs rex modrm mem b y w = by_where (is_register modrm) _ _ (MemCosts rex mem (length b)) (λ p. absurd p) (λ p. memory_costs rex modrm mem b y p) w

-- ---- whole forms

pub form_size : (prefix : Prefix) (want : Rex) (opcode operands : List ℕ) → length (form prefix want opcode operands) ≡ length (prefix_bytes prefix) + (length (rex_bytes (shortest_rex want)) + (length opcode + length operands))
form_size prefix want opcode operands = omega (arith, length-append (prefix_bytes prefix) (rex_bytes (shortest_rex want) ++ (opcode ++ operands)), length-append (rex_bytes (shortest_rex want)) (opcode ++ operands), length-append opcode operands)

-- a form with ModRM is as long as what it is made of
pub modrm_cost : (prefix : Prefix) (w : Bool) (opcode : List ℕ) (reg : RegField) (place : Option RmField) (end : Option (List ℕ)) (rex : Option ℕ) (n k m : ℕ) (c : List ℕ)
    → Has rex w → Has rex (is_extended reg.number) → Has rex reg.needs_rex → ((p : RmField) → place ≡ Some p → PlaceCosts rex p n) → ((b : List ℕ) → end ≡ Some b → length b ≤ k)
    → length (prefix_bytes prefix) + length opcode + 1 + n + k ≤ m
    → with_modrm prefix w opcode reg place end ≡ Some c → length c ≤ m + length (rex_bytes rex)
modrm_cost prefix w opcode reg place end rex n k m c w_has high needed costs size room e =
    let p = parts_of prefix w opcode reg place end c e in
    let f = costs p.place p.is_place in
    let last = size p.bytes p.is_end in
    let want : Rex = record { w = w; r = is_extended reg.number; x = p.place.x; b = p.place.b; needed = reg.needs_rex || p.place.needs_rex } in
    let cost = rex_cost want rex w_has high f.x f.b (has_either rex reg.needs_rex p.place.needs_rex needed f.needed) in
    let modrm = fields p.place.mode (low_field reg.number) p.place.rm in
    let whole : length c ≡ length (form prefix want opcode (modrm ∷ (p.place.behind ++ p.bytes))) = ap length (sym p.whole) in
    let behind : length (modrm ∷ (p.place.behind ++ p.bytes)) ≡ suc (length p.place.behind + length p.bytes) = ap suc (length-append p.place.behind p.bytes) in
    let sum = form_size prefix want opcode (modrm ∷ (p.place.behind ++ p.bytes)) in
    let behind_size = f.size in
    omega arith
