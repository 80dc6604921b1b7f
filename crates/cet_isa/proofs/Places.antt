-- The canonical bytes of an operand are bytes of that operand.
use Rattle.std.proofs.Common.{◌≡◌, ℕ, ◌^◌, ◌<◌, ◌≤◌, Bool, true, false, not, ◌&&◌, ◌||◌, List, [], ◌∷◌, ℤ, pos, negsuc, Option, Some, None, refl, sym, ap, subst, subst₂, arith, inl, inr, ◌⊎◌}
use Rattle.std.specs.Prelude.{if◌then◌else◌, ◌==◌, nat_lt}
use Rattle.std.specs.Option.{option_map}
use Rattle.std.specs.Int.{w8, w32}
use Rattle.std.proofs.lemmas.Bool.{eqb-true, ne_eqb, leb-true, leb-false}
use Rattle.std.proofs.lemmas.Option.{cond_some, option_and_then_some, same_Some}
use Rattle.cet_isa.specs.declared.register.Reg.{Reg}
use Rattle.cet_isa.specs.declared.operand.Mem.{Mem}
use Rattle.cet_isa.specs.declared.operand.Rm.{Rm}
use Rattle.cet_isa.specs.declared.operand.Rm.TheVariants as rm
use Rattle.cet_isa.specs.Operand.{Where, register, rex_x, rex_b, extended, high_field, middle_field, low_field, Displacement, nothing, disp8, disp32, Address, displaced, displacement_of_mod, has_sib, modrm_address, sib_address, Displaced, Addressed, MemoryBytes, is_register, names_rm, rm_register, RmBytes, MemoryOperandBytes, names_register}
use Rattle.cet_isa.specs.Form.{IsBytes}
use Rattle.cet_isa.specs.Canonical.{fits, signed, number, is_extended, needs_rex, fields, RmField, register_field, is_zero, shortest_displacement, mode_of, displacement_bytes, Index, scale_field, index_of, rip_relative, without_base, needs_sib, base_field, with_base, indexed, memory, register_or_memory}
use Rattle.cet_isa.proofs.Joins.{nil_bytes, cons_bytes}
use Rattle.cet_isa.proofs.Map.{true_or_false}
use Rattle.cet_isa.proofs.Fields.{fields_high, fields_middle, fields_low, fields_byte, low_small, each_register, number_register, register_named, signed8_says, signed32_says}

-- ---- choices

pub where_then : (t : Bool) (P Q : Type 0) → t ≡ true → P → Where t P Q
where_then true P Q e p = p
where_then false P Q e p = absurd cc

pub where_else : (t : Bool) (P Q : Type 0) → t ≡ false → Q → Where t P Q
where_else false P Q e q = q
where_else true P Q e q = absurd cc

pub choice : {A : Type 0} (t : Bool) (x y z : A) → (if t then x else y) ≡ z → ((t ≡ true) × (x ≡ z)) ⊎ ((t ≡ false) × (y ≡ z))
choice true x y z e = inl (refl, e)
choice false x y z e = inr (refl, e)

pub map_some : {A B : Type 0} (f : A → B) (o : Option A) (y : B) → option_map f o ≡ Some y → (x : A) × (o ≡ Some x) × (f x ≡ y)
map_some f None y e = absurd cc
map_some f (Some x) y e = (x, refl, same_Some (f x) y e)

-- ---- displacements

-- a displacement's kind for this number, behind this base
record Fitting (base : Reg) (d : ℤ) (kind : Displacement) : Type 0 where
  none_is_zero : kind ≡ nothing → d ≡ pos 0
  is_base : (mode_of kind == 0 && low_field (number base) == 5) ≡ false

zero_is : (d : ℤ) → is_zero d ≡ true → d ≡ pos 0
zero_is (pos n) e = ap pos (eqb-true n 0 e)
zero_is (negsuc n) e = absurd cc

fitting : (base : Reg) (d : ℤ) → Fitting base d (shortest_displacement base d)
fitting base d = by_zero (is_zero d) (low_field (number base) == 5) refl (zero_is d)
  where
    by_size : (t : Bool) → Fitting base d (if t then disp8 else disp32)
    by_size true = record { none_is_zero = λ e. absurd cc; is_base = refl }
    by_size false = record { none_is_zero = λ e. absurd cc; is_base = refl }

    by_zero : (s t : Bool) → (low_field (number base) == 5) ≡ t → (s ≡ true → d ≡ pos 0) → Fitting base d (if s && not t then nothing else if fits w8 d then disp8 else disp32)
    by_zero true false e z = record { none_is_zero = λ k. z refl; is_base = e }
    by_zero true true e z = by_size (fits w8 d)
    by_zero false t e z = by_size (fits w8 d)

mode_back : (kind : Displacement) → displacement_of_mod (mode_of kind) ≡ kind
mode_back nothing = refl
mode_back disp8 = refl
mode_back disp32 = refl

mode_small : (kind : Displacement) → mode_of kind < 3
mode_small nothing = omega arith
mode_small disp8 = omega arith
mode_small disp32 = omega arith

displacement_says : (base : Reg) (d : ℤ) (kind : Displacement) (b : List ℕ) → Fitting base d kind → displacement_bytes kind d ≡ Some b → IsBytes b × Displaced kind d b
displacement_says base d nothing b f e = let nil : [] ≡ b = same_Some [] b e in (subst (λ (l : List ℕ). IsBytes l) nil nil_bytes, (f.none_is_zero refl, sym nil))
displacement_says base d disp8 b f e = let s = signed8_says d b e in (s.is_bytes, s.says)
displacement_says base d disp32 b f e = let s = signed32_says d b e in (s.is_bytes, s.says)

-- ---- scale and index

record IsIndex (index : Option Reg) (scale : ℕ) (x : Index) : Type 0 where
  number_small : x.number < 16
  scale_small : x.scale < 4
  index_is : (if not (x.number == 4) then Some (register x.number) else None) ≡ index
  scale_is : 2 ^ x.scale ≡ scale
  allowed : (not (x.number == 4) || x.scale == 0) ≡ true

scale_says : (scale field : ℕ) → scale_field scale ≡ Some field → (field < 4) × (2 ^ field ≡ scale)
scale_says scale field e = grind arith

-- a register of another number than 4
indexed_by : (reg : Reg) → ((number reg == 4) ≡ true) ⊎ (((if not (number reg == 4) then Some (register (number reg)) else None) ≡ Some reg) × (number reg < 16) × (not (number reg == 4) ≡ true))
indexed_by = each_register (λ reg. ((number reg == 4) ≡ true) ⊎ (((if not (number reg == 4) then Some (register (number reg)) else None) ≡ Some reg) × (number reg < 16) × (not (number reg == 4) ≡ true)))
    (inr (refl, omega arith, refl)) (inr (refl, omega arith, refl)) (inr (refl, omega arith, refl)) (inr (refl, omega arith, refl)) (inl refl) (inr (refl, omega arith, refl)) (inr (refl, omega arith, refl)) (inr (refl, omega arith, refl))
    (inr (refl, omega arith, refl)) (inr (refl, omega arith, refl)) (inr (refl, omega arith, refl)) (inr (refl, omega arith, refl)) (inr (refl, omega arith, refl)) (inr (refl, omega arith, refl)) (inr (refl, omega arith, refl)) (inr (refl, omega arith, refl))

index_says : (index : Option Reg) (scale : ℕ) (x : Index) → index_of index scale ≡ Some x → IsIndex index scale x
index_says None scale x e =
    let parts = cond_some (scale == 1) (record { scale = 0; number = 4 }) x e in
    subst (λ (y : Index). IsIndex None scale y) parts.1
    (record { number_small = omega arith; scale_small = omega arith; index_is = refl; scale_is = sym (eqb-true scale 1 parts.0); allowed = refl })
index_says (Some reg) scale x e =
    elim (choice (number reg == 4) None (option_map (λ field. record { scale = field; number = number reg }) (scale_field scale)) (Some x) e) [
      | inl c ↦ absurd (let k = c.1 in cc)
      | inr c ↦
          let field = map_some {B = Index} (λ field. record { scale = field; number = number reg }) (scale_field scale) x c.1 in
          let s = scale_says scale field.0 field.1 in
          elim (indexed_by reg) [
            | inl four ↦ absurd (let k = c.0 in cc)
            | inr other ↦
                subst (λ (y : Index). IsIndex (Some reg) scale y) field.2
                (record { number_small = other.1; scale_small = s.0; index_is = other.0; scale_is = s.1; allowed = rw other.2 refl })
          ]
    ]

-- ---- addresses

-- the bytes of a memory operand, but for the reg field of its ModRM
record IsPlace (mem : Mem) (place : RmField) : Type 0 where
  mode_small : place.mode < 3
  rm_small : place.rm < 8
  is_bytes : IsBytes place.behind
  spells : (rex : Option ℕ) (middle : ℕ) → middle < 8 → rex_x rex ≡ place.x → rex_b rex ≡ place.b → MemoryBytes rex (fields place.mode middle place.rm) mem place.behind

addressed : (o : Option Address) (a : Address) (d : ℤ) (b : List ℕ) → o ≡ Some a → Displaced a.displacement d b → Addressed o (displaced a d) b
addressed o a d b e p = subst (λ (o : Option Address). Addressed o (displaced a d) b) (sym e) (d, p, refl)

module _ (rex : Option ℕ) (middle : ℕ) (small : middle < 8) where
  rip_spells : (d : ℤ) (b : List ℕ) → Displaced disp32 d b → rex_x rex ≡ false → rex_b rex ≡ false
      → MemoryBytes rex (fields 0 middle 5) (record { base = None; index = None; scale = 1; disp = d; rip = true }) b
  rip_spells d b p x e =
      let high : high_field (fields 0 middle 5) ≡ 0 = fields_high 0 middle 5 small (omega arith) in
      let low : low_field (fields 0 middle 5) ≡ 5 = fields_low 0 middle 5 (omega arith) in
      let address : modrm_address rex (fields 0 middle 5) ≡ Some (record { base = None; index = None; scale = 1; rip = true; displacement = disp32 }) = rw (x, high, low, e) refl in
      where_else (has_sib (fields 0 middle 5)) _ _ (rw low refl) (addressed _ (record { base = None; index = None; scale = 1; rip = true; displacement = disp32 }) d b address p)

  base_spells : (base : Reg) (d : ℤ) (kind : Displacement) (b : List ℕ) → Fitting base d kind → Displaced kind d b → rex_x rex ≡ false → rex_b rex ≡ is_extended (number base)
      → (low_field (number base) == 4) ≡ false
      → MemoryBytes rex (fields (mode_of kind) middle (low_field (number base))) (record { base = Some base; index = None; scale = 1; disp = d; rip = false }) b
  base_spells base d kind b f p x e four =
      let high : high_field (fields (mode_of kind) middle (low_field (number base))) ≡ mode_of kind = fields_high _ middle _ small (low_small (number base)) in
      let low : low_field (fields (mode_of kind) middle (low_field (number base))) ≡ low_field (number base) = fields_low (mode_of kind) middle _ (low_small (number base)) in
      let address : modrm_address rex (fields (mode_of kind) middle (low_field (number base))) ≡ Some (record { base = Some base; index = None; scale = 1; rip = false; displacement = kind }) =
      rw (x, high, low, f.is_base, e, number_register base, mode_back kind) refl in
      where_else (has_sib (fields (mode_of kind) middle (low_field (number base)))) _ _ (rw low four) (addressed _ (record { base = Some base; index = None; scale = 1; rip = false; displacement = kind }) d b address p)

  -- ModRM with rm 4, and SIB
  sib_spells : (mode low : ℕ) (x : Index) (index : Option Reg) (scale : ℕ) (base : Option Reg) (kind : Displacement) (d : ℤ) (b : List ℕ)
      → mode < 4 → low < 8 → IsIndex index scale x → rex_x rex ≡ is_extended x.number
      → (not (mode == 0 && low == 5) || not (rex_b rex)) ≡ true
      → (if not (mode == 0 && low == 5) then Some (register (extended (rex_b rex) low)) else None) ≡ base
      → (if not (mode == 0 && low == 5) then displacement_of_mod mode else disp32) ≡ kind
      → Displaced kind d b
      → MemoryBytes rex (fields mode middle 4) (record { base = base; index = index; scale = scale; disp = d; rip = false }) (fields x.scale (low_field x.number) low ∷ b)
  sib_spells mode low x index scale base kind d b p q i bit usable base_is kind_is reads =
      let modrm = fields mode middle 4 in
      let sib = fields x.scale (low_field x.number) low in
      let modrm_high : high_field modrm ≡ mode = fields_high mode middle 4 small (omega arith) in
      let modrm_low : low_field modrm ≡ 4 = fields_low mode middle 4 (omega arith) in
      let high : high_field sib ≡ x.scale = fields_high x.scale (low_field x.number) low (low_small x.number) q in
      let between : middle_field sib ≡ low_field x.number = fields_middle x.scale (low_field x.number) low (low_small x.number) q in
      let base_field : low_field sib ≡ low = fields_low x.scale (low_field x.number) low q in
      let number : extended (rex_x rex) (middle_field sib) ≡ x.number = rw (bit, between) (whole x.number i.number_small) in
      let a : Address = record { base = base; index = index; scale = scale; rip = false; displacement = kind } in
      let address : sib_address rex modrm sib ≡ Some a = rw (number, high, modrm_high, base_field, i.allowed, usable, base_is, i.index_is, i.scale_is, kind_is) refl in
      where_then (has_sib modrm) _ _ (rw modrm_low refl) (sib, b, addressed (sib_address rex modrm sib) a d b address reads, refl)
    where
      whole : (n : ℕ) → n < 16 → extended (is_extended n) (low_field n) ≡ n
      whole n lt = elim (true_or_false (is_extended n)) [
        | inl e ↦ let ge : 8 ≤ n = leb-true 8 n e in rw e (omega arith)
        | inr e ↦ let below : n < 8 = leb-false 8 n e in rw e (omega arith)
      ]

-- ---- memory operands

rip_place : (base index : Option Reg) (scale : ℕ) (d : ℤ) (place : RmField) → rip_relative base index scale d ≡ Some place → IsPlace (record { base = base; index = index; scale = scale; disp = d; rip = true }) place
rip_place None None scale d place e =
    let parts = choice (scale == 1) (option_map (λ bytes. record { x = false; b = false; needs_rex = false; mode = 0; rm = 5; behind = bytes }) (signed w32 d)) None (Some place) e in
    elim parts [
      | inl c ↦
          let bytes = map_some {B = RmField} (λ bytes. record { x = false; b = false; needs_rex = false; mode = 0; rm = 5; behind = bytes }) (signed w32 d) place c.1 in
          let s = signed32_says d bytes.0 bytes.1 in
          subst₂ (λ (n : ℕ) (p : RmField). IsPlace (record { base = None; index = None; scale = n; disp = d; rip = true }) p) (sym (eqb-true scale 1 c.0)) bytes.2
          (record { mode_small = omega arith; rm_small = omega arith; is_bytes = s.is_bytes; spells = λ rex middle small x b. rip_spells rex middle small d bytes.0 s.says x b })
      | inr c ↦ absurd (let k = c.1 in cc)
    ]
rip_place (Some base) index scale d place e = absurd cc
rip_place None (Some index) scale d place e = absurd cc

no_base_place : (index : Option Reg) (scale : ℕ) (x : Index) (d : ℤ) (place : RmField) → IsIndex index scale x → without_base x d ≡ Some place
    → IsPlace (record { base = None; index = index; scale = scale; disp = d; rip = false }) place
no_base_place index scale x d place i e =
    let bytes = map_some {B = RmField} (λ bytes. record { x = is_extended x.number; b = false; needs_rex = false; mode = 0; rm = 4; behind = fields x.scale (low_field x.number) 5 ∷ bytes }) (signed w32 d) place e in
    let s = signed32_says d bytes.0 bytes.1 in
    subst (λ (p : RmField). IsPlace (record { base = None; index = index; scale = scale; disp = d; rip = false }) p) bytes.2
    (record {
      mode_small = omega arith;
      rm_small = omega arith;
      is_bytes = cons_bytes (fields x.scale (low_field x.number) 5) bytes.0 (fields_byte x.scale (low_field x.number) 5 i.scale_small (low_small x.number) (omega arith)) s.is_bytes;
      spells = λ rex middle small bit b. sib_spells rex middle small 0 5 x index scale None disp32 d bytes.0 (omega arith) (omega arith) i bit (rw b refl) refl refl s.says;
    })

pub both_false : (s t : Bool) → (s || t) ≡ false → (s ≡ false) × (t ≡ false)
both_false false t e = (refl, e)
both_false true t e = absurd cc

based : (base : Reg) (index : Option Reg) (scale : ℕ) (x : Index) (d : ℤ) (kind : Displacement) (b : List ℕ) → IsIndex index scale x → Fitting base d kind → IsBytes b → Displaced kind d b
    → IsPlace (record { base = Some base; index = index; scale = scale; disp = d; rip = false }) (base_field base x (mode_of kind) b)
based base index scale x d kind b i f is_bytes says = elim (true_or_false (needs_sib base x)) [ inl h ↦ rw h with_sib | inr h ↦ rw h (alone (both_false (not (x.number == 4)) (low_field (number base) == 4) h)) ]
  where
    with_sib : IsPlace (record { base = Some base; index = index; scale = scale; disp = d; rip = false }) (record { x = is_extended x.number; b = is_extended (number base); needs_rex = false; mode = mode_of kind; rm = 4; behind = fields x.scale (low_field x.number) (low_field (number base)) ∷ b })
    with_sib = record {
      mode_small = mode_small kind;
      rm_small = omega arith;
      is_bytes = cons_bytes _ b (fields_byte x.scale (low_field x.number) (low_field (number base)) i.scale_small (low_small x.number) (low_small (number base))) is_bytes;
      spells = λ rex middle small bit e.
          let m = mode_small kind in
          sib_spells rex middle small (mode_of kind) (low_field (number base)) x index scale (Some base) kind d b (omega arith) (low_small (number base)) i bit
          (rw f.is_base refl) (rw (f.is_base, e, number_register base) refl) (rw (f.is_base, mode_back kind) refl) says;
    }

    alone : (not (x.number == 4) ≡ false) × ((low_field (number base) == 4) ≡ false)
        → IsPlace (record { base = Some base; index = index; scale = scale; disp = d; rip = false }) (record { x = false; b = is_extended (number base); needs_rex = false; mode = mode_of kind; rm = low_field (number base); behind = b })
    alone h =
        let none : None ≡ index = rw h.0 at i.index_is in
        let zero_scale : (x.scale == 0) ≡ true = rw h.0 at i.allowed in
        let one : 1 ≡ scale = rw (eqb-true x.scale 0 zero_scale) at i.scale_is in
        subst₂ (λ (o : Option Reg) (n : ℕ). IsPlace (record { base = Some base; index = o; scale = n; disp = d; rip = false }) (record { x = false; b = is_extended (number base); needs_rex = false; mode = mode_of kind; rm = low_field (number base); behind = b })) none one
        (record { mode_small = mode_small kind; rm_small = low_small (number base); is_bytes = is_bytes; spells = λ rex middle small bit e. base_spells rex middle small base d kind b f says bit e h.1 })

base_place : (base : Reg) (index : Option Reg) (scale : ℕ) (x : Index) (d : ℤ) (place : RmField) → IsIndex index scale x → with_base base x d ≡ Some place
    → IsPlace (record { base = Some base; index = index; scale = scale; disp = d; rip = false }) place
base_place base index scale x d place i e =
    let kind = shortest_displacement base d in
    let f = fitting base d in
    let bytes = map_some (base_field base x (mode_of kind)) (displacement_bytes kind d) place e in
    let s = displacement_says base d kind bytes.0 f bytes.1 in
    subst (λ (p : RmField). IsPlace (record { base = Some base; index = index; scale = scale; disp = d; rip = false }) p) bytes.2 (based base index scale x d kind bytes.0 i f s.0 s.1)

indexed_place : (base index : Option Reg) (scale : ℕ) (x : Index) (d : ℤ) (place : RmField) → IsIndex index scale x → indexed base d x ≡ Some place
    → IsPlace (record { base = base; index = index; scale = scale; disp = d; rip = false }) place
indexed_place None index scale x d place i e = no_base_place index scale x d place i e
indexed_place (Some base) index scale x d place i e = base_place base index scale x d place i e

place_cases : (base index : Option Reg) (scale : ℕ) (d : ℤ) (rip : Bool) (place : RmField) → memory (record { base = base; index = index; scale = scale; disp = d; rip = rip }) ≡ Some place
    → IsPlace (record { base = base; index = index; scale = scale; disp = d; rip = rip }) place
place_cases base index scale d true place e = rip_place base index scale d place e
place_cases base index scale d false place e =
    option_and_then_some (indexed base d) (index_of index scale) place e (λ x g h. indexed_place base index scale x d place (index_says index scale x g) h)

memory_place : (mem : Mem) (place : RmField) → memory mem ≡ Some place → IsPlace mem place
memory_place mem place e = place_cases mem.base mem.index mem.scale mem.disp mem.rip place e

-- ---- register or memory

-- the bytes of an operand that is a register or memory
pub record IsOperand (byte : Bool) (operand : Rm) (place : RmField) : Type 0 where
  pub mode_small : place.mode < 4
  pub rm_small : place.rm < 8
  pub is_bytes : IsBytes place.behind
  pub spells : (rex : Option ℕ) (middle : ℕ) → middle < 8 → rex_x rex ≡ place.x → rex_b rex ≡ place.b → (rex ≡ None → place.needs_rex ≡ false) → RmBytes rex byte (fields place.mode middle place.rm) operand place.behind

no_register : (mode : ℕ) → mode < 3 → (mode == 3) ≡ false
no_register mode lt = ne_eqb mode 3 (omega arith)

register_spells : (byte : Bool) (reg : Reg) (rex : Option ℕ) (middle : ℕ) → middle < 8 → rex_x rex ≡ false → rex_b rex ≡ is_extended (number reg) → (rex ≡ None → needs_rex byte reg ≡ false)
    → RmBytes rex byte (fields 3 middle (low_field (number reg))) (rm.Reg reg) []
register_spells byte reg rex middle small x b absent =
    let high : high_field (fields 3 middle (low_field (number reg))) ≡ 3 = fields_high 3 middle _ small (low_small (number reg)) in
    let low : low_field (fields 3 middle (low_field (number reg))) ≡ low_field (number reg) = fields_low 3 middle _ (low_small (number reg)) in
    where_then (is_register (fields 3 middle (low_field (number reg)))) _ _ (rw high refl)
    (rw (x, low) (register_named rex rex_b byte reg refl b absent), (rw (b, low, number_register reg) refl, refl))

memory_spells : (byte : Bool) (mem : Mem) (place : RmField) → IsPlace mem place → IsOperand byte (rm.Mem mem) place
memory_spells byte mem place p = record {
  mode_small = let m = p.mode_small in omega arith;
  rm_small = p.rm_small;
  is_bytes = p.is_bytes;
  spells = λ rex middle small x b absent.
      where_else (is_register (fields place.mode middle place.rm)) _ _ (rw (fields_high place.mode middle place.rm small p.rm_small) (no_register place.mode p.mode_small))
      (mem, p.spells rex middle small x b, refl);
}

pub operand_says : (byte : Bool) (operand : Rm) (place : RmField) → register_or_memory byte operand ≡ Some place → IsOperand byte operand place
operand_says byte (rm.Reg reg) place e =
    subst (λ (p : RmField). IsOperand byte (rm.Reg reg) p) (same_Some (register_field byte reg) place e)
    (record { mode_small = omega arith; rm_small = low_small (number reg); is_bytes = nil_bytes; spells = λ rex middle small x b absent. register_spells byte reg rex middle small x b absent })
operand_says byte (rm.Mem mem) place e = memory_spells byte mem place (memory_place mem place e)

-- the bytes of an operand that is memory alone
pub record IsMemory (mem : Mem) (place : RmField) : Type 0 where
  pub mode_small : place.mode < 3
  pub rm_small : place.rm < 8
  pub is_bytes : IsBytes place.behind
  pub spells : (rex : Option ℕ) (middle : ℕ) → middle < 8 → rex_x rex ≡ place.x → rex_b rex ≡ place.b → MemoryOperandBytes rex (fields place.mode middle place.rm) mem place.behind

pub memory_says : (mem : Mem) (place : RmField) → memory mem ≡ Some place → IsMemory mem place
memory_says mem place e =
    let p = memory_place mem place e in
    record {
      mode_small = p.mode_small;
      rm_small = p.rm_small;
      is_bytes = p.is_bytes;
      spells = λ rex middle small x b.
          where_else (is_register (fields place.mode middle place.rm)) _ _ (rw (fields_high place.mode middle place.rm small p.rm_small) (no_register place.mode p.mode_small)) (p.spells rex middle small x b);
    }

-- a register that is no byte is named by its field
pub no_byte_named : (rex : Option ℕ) (field : ℕ) → names_register rex false field ≡ true
no_byte_named None field = same (nat_lt field 4)
  where
    same : (t : Bool) → (if t then true else true) ≡ true
    same true = refl
    same false = refl
no_byte_named (Some byte) field = refl

-- a register alone, without bytes
pub register_says : (reg : Reg) (rex : Option ℕ) (middle : ℕ) → middle < 8 → rex_x rex ≡ false → rex_b rex ≡ is_extended (number reg)
    → ((is_register (fields 3 middle (low_field (number reg))) && names_rm rex false (fields 3 middle (low_field (number reg)))) ≡ true) × (rm_register rex (fields 3 middle (low_field (number reg))) ≡ reg)
register_says reg rex middle small x b =
    let high : high_field (fields 3 middle (low_field (number reg))) ≡ 3 = fields_high 3 middle _ small (low_small (number reg)) in
    let low : low_field (fields 3 middle (low_field (number reg))) ≡ low_field (number reg) = fields_low 3 middle _ (low_small (number reg)) in
    (rw (high, x, low) (no_byte_named rex (low_field (number reg))), rw (b, low, number_register reg) refl)
