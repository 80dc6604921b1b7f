-- The text of a memory operand as marks with registers and numbers behind them, and the operand read from them again.
use Rattle.std.proofs.Common.{◌≡◌, ℕ, zero, suc, ◌^◌, ◌<◌, Bool, true, false, List, [], ◌∷◌, ◌++◌, ℤ, Option, Some, None, refl, sym, ap, append_assoc}
use Rattle.std.specs.Prelude.{pos, negsuc, unsigned_abs, if◌then◌else◌, codes}
use Rattle.cet_isa.specs.declared.register.Reg.{Reg}
use Rattle.cet_isa.specs.declared.operand.Mem.{Mem}
use Rattle.cet_isa.specs.Text.{added_text, added_unless_0, terms_text, memory_text}
use Rattle.cet_isa.proofs.TextStems.{Stem, register, rip}
use Rattle.cet_isa.proofs.TextItems.{Atom, nothing, digits, stem, times, plus, minus, opening, closing, Item, item, items_text, AreItems}

-- a memory operand as forms have it: with rip there is neither base nor index, and without index scale is 1
pub record IsMemory (mem : Mem) : Type 0 where
  pub rip_alone : mem.rip ≡ true → (mem.base ≡ None) × (mem.index ≡ None)
  pub no_scale : mem.index ≡ None → mem.scale ≡ 1
  pub scale : mem.scale < 2 ^ 64
  pub disp : unsigned_abs mem.disp < 2 ^ 64

-- ---- items

abbrev end : List Item
end = item closing nothing ∷ []

abbrev added_items : ℤ → List Item
added_items (pos n) = item plus (digits n) ∷ end
added_items (negsuc n) = item minus (digits (suc n)) ∷ end

abbrev added_items_unless_0 : ℤ → List Item
added_items_unless_0 (pos zero) = end
added_items_unless_0 d = added_items d

abbrev number_items : ℤ → List Item
number_items (pos n) = item opening (digits n) ∷ end
number_items (negsuc n) = item opening nothing ∷ added_items (negsuc n)

abbrev terms_items : Option Reg → Option Reg → ℕ → ℤ → List Item
terms_items None None scale d = number_items d
terms_items (Some base) None scale d = item opening (stem (register base)) ∷ added_items_unless_0 d
terms_items None (Some index) scale d = item opening (stem (register index)) ∷ item times (digits scale) ∷ added_items_unless_0 d
terms_items (Some base) (Some index) scale d = item opening (stem (register base)) ∷ item plus (stem (register index)) ∷ item times (digits scale) ∷ added_items_unless_0 d

abbrev pub memory_items : Mem → List Item
memory_items mem = if mem.rip then item opening (stem rip) ∷ added_items mem.disp else terms_items mem.base mem.index mem.scale mem.disp

-- ---- their text is the operand's

added_spelled : (d : ℤ) → added_text d ++ codes "]" ≡ items_text (added_items d)
added_spelled (pos n) = refl
added_spelled (negsuc n) = refl

added_unless_0_spelled : (d : ℤ) → added_unless_0 d ++ codes "]" ≡ items_text (added_items_unless_0 d)
added_unless_0_spelled (pos zero) = refl
added_unless_0_spelled (pos (suc n)) = refl
added_unless_0_spelled (negsuc n) = refl

terms_spelled : (base index : Option Reg) (scale : ℕ) (d : ℤ) → codes "[" ++ (terms_text base index scale d ++ codes "]") ≡ items_text (terms_items base index scale d)
terms_spelled None None scale (pos n) = refl
terms_spelled None None scale (negsuc n) = refl
terms_spelled (Some base) None scale d = simp (append_assoc, added_unless_0_spelled d)
terms_spelled None (Some index) scale d = simp (append_assoc, added_unless_0_spelled d)
terms_spelled (Some base) (Some index) scale d = simp (append_assoc, added_unless_0_spelled d)

spelled : (by_rip : Bool) (base index : Option Reg) (scale : ℕ) (d : ℤ)
    → codes "[" ++ (if by_rip then codes "rip" ++ added_text d else terms_text base index scale d) ++ codes "]"
    ≡ items_text (if by_rip then item opening (stem rip) ∷ added_items d else terms_items base index scale d)
spelled true base index scale d = ap (λ (l : List ℕ). codes "[rip" ++ l) (added_spelled d)
spelled false base index scale d = terms_spelled base index scale d

pub memory_spelled : (mem : Mem) → memory_text mem ≡ items_text (memory_items mem)
memory_spelled mem = spelled mem.rip mem.base mem.index mem.scale mem.disp

-- ---- they begin with [

abbrev pub Opens : List Item → Type 0
Opens items = (a : Atom) × (rest : List Item) × (items ≡ item opening a ∷ rest)

terms_open : (base index : Option Reg) (scale : ℕ) (d : ℤ) → Opens (terms_items base index scale d)
terms_open None None scale (pos n) = (_, _, refl)
terms_open None None scale (negsuc n) = (_, _, refl)
terms_open (Some base) None scale d = (_, _, refl)
terms_open None (Some index) scale d = (_, _, refl)
terms_open (Some base) (Some index) scale d = (_, _, refl)

opens : (by_rip : Bool) (base index : Option Reg) (scale : ℕ) (d : ℤ) → Opens (if by_rip then item opening (stem rip) ∷ added_items d else terms_items base index scale d)
opens true base index scale d = (_, _, refl)
opens false base index scale d = terms_open base index scale d

pub memory_opens : (mem : Mem) → Opens (memory_items mem)
memory_opens mem = opens mem.rip mem.base mem.index mem.scale mem.disp

-- ---- they are items

added_are : (d : ℤ) → unsigned_abs d < 2 ^ 64 → AreItems (added_items d)
added_are (pos n) h = (h, (tt, tt))
added_are (negsuc n) h = (h, (tt, tt))

added_unless_0_are : (d : ℤ) → unsigned_abs d < 2 ^ 64 → AreItems (added_items_unless_0 d)
added_unless_0_are (pos zero) h = (tt, tt)
added_unless_0_are (pos (suc n)) h = (h, (tt, tt))
added_unless_0_are (negsuc n) h = (h, (tt, tt))

terms_are : (base index : Option Reg) (scale : ℕ) (d : ℤ) → scale < 2 ^ 64 → unsigned_abs d < 2 ^ 64 → AreItems (terms_items base index scale d)
terms_are None None scale (pos n) s h = (h, (tt, tt))
terms_are None None scale (negsuc n) s h = (tt, (h, (tt, tt)))
terms_are (Some base) None scale d s h = (tt, added_unless_0_are d h)
terms_are None (Some index) scale d s h = (tt, (s, added_unless_0_are d h))
terms_are (Some base) (Some index) scale d s h = (tt, (tt, (s, added_unless_0_are d h)))

are : (by_rip : Bool) (base index : Option Reg) (scale : ℕ) (d : ℤ) → scale < 2 ^ 64 → unsigned_abs d < 2 ^ 64
    → AreItems (if by_rip then item opening (stem rip) ∷ added_items d else terms_items base index scale d)
are true base index scale d s h = (tt, added_are d h)
are false base index scale d s h = terms_are base index scale d s h

pub memory_are : (mem : Mem) → IsMemory mem → AreItems (memory_items mem)
memory_are mem h = are mem.rip mem.base mem.index mem.scale mem.disp h.scale h.disp

-- ---- the operand again

abbrev pub number_of : Atom → ℕ
number_of (digits n) = n
number_of a = 0

abbrev pub negative : ℕ → ℤ
negative zero = pos zero
negative (suc n) = negsuc n

-- behind + or -, and 0 where neither is
abbrev pub added_of : List Item → ℤ
added_of (item plus a ∷ rest) = pos (number_of a)
added_of (item minus a ∷ rest) = negative (number_of a)
added_of rest = pos 0

abbrev first_number : List Item → ℕ
first_number [] = 0
first_number (item m a ∷ rest) = number_of a

abbrev after_first : List Item → List Item
after_first [] = []
after_first (i ∷ rest) = rest

abbrev of_parts : Option Reg → Option Reg → ℕ → ℤ → Bool → Mem
of_parts base index scale d by_rip = record { base = base; index = index; scale = scale; disp = d; rip = by_rip }

-- behind a base and +: an index or a displacement
abbrev after_plus : Reg → Atom → List Item → Mem
after_plus base (stem (register index)) rest = of_parts (Some base) (Some index) (first_number rest) (added_of (after_first rest)) false
after_plus base a rest = of_parts (Some base) None 1 (pos (number_of a)) false

-- behind [ and a register
abbrev after_register : Reg → List Item → Mem
after_register r (item times a ∷ rest) = of_parts None (Some r) (number_of a) (added_of rest) false
after_register r (item plus a ∷ rest) = after_plus r a rest
after_register r rest = of_parts (Some r) None 1 (added_of rest) false

abbrev after_stem : Stem → List Item → Mem
after_stem (register r) rest = after_register r rest
after_stem s rest = of_parts None None 1 (added_of rest) true

abbrev after_opening : Atom → List Item → Mem
after_opening (stem s) rest = after_stem s rest
after_opening (digits n) rest = of_parts None None 1 (pos n) false
after_opening nothing rest = of_parts None None 1 (added_of rest) false

abbrev pub memory_of : List Item → Mem
memory_of [] = of_parts None None 1 (pos 0) false
memory_of (item m a ∷ rest) = after_opening a rest

added_again : (d : ℤ) → added_of (added_items d) ≡ d
added_again (pos n) = refl
added_again (negsuc n) = refl

added_unless_0_again : (d : ℤ) → added_of (added_items_unless_0 d) ≡ d
added_unless_0_again (pos zero) = refl
added_unless_0_again (pos (suc n)) = refl
added_unless_0_again (negsuc n) = refl

terms_again : (base index : Option Reg) (scale : ℕ) (d : ℤ) → (index ≡ None → scale ≡ 1) → memory_of (terms_items base index scale d) ≡ of_parts base index scale d false
terms_again None None scale (pos n) one = ap (λ (k : ℕ). of_parts None None k (pos n) false) (sym (one refl))
terms_again None None scale (negsuc n) one = ap (λ (k : ℕ). of_parts None None k (negsuc n) false) (sym (one refl))
terms_again (Some base) None scale (pos zero) one = ap (λ (k : ℕ). of_parts (Some base) None k (pos 0) false) (sym (one refl))
terms_again (Some base) None scale (pos (suc n)) one = ap (λ (k : ℕ). of_parts (Some base) None k (pos (suc n)) false) (sym (one refl))
terms_again (Some base) None scale (negsuc n) one = ap (λ (k : ℕ). of_parts (Some base) None k (negsuc n) false) (sym (one refl))
terms_again None (Some index) scale d one = ap (λ (e : ℤ). of_parts None (Some index) scale e false) (added_unless_0_again d)
terms_again (Some base) (Some index) scale d one = ap (λ (e : ℤ). of_parts (Some base) (Some index) scale e false) (added_unless_0_again d)

again : (by_rip : Bool) (base index : Option Reg) (scale : ℕ) (d : ℤ) → (by_rip ≡ true → (base ≡ None) × (index ≡ None)) → (index ≡ None → scale ≡ 1)
    → memory_of (if by_rip then item opening (stem rip) ∷ added_items d else terms_items base index scale d) ≡ of_parts base index scale d by_rip
again true base index scale d none one =
    let no_base = (none refl).0 in
    let no_index = (none refl).1 in
    let is_one = one no_index in
    let disp = added_again d in
    cc
again false base index scale d none one = terms_again base index scale d one

pub memory_again : (mem : Mem) → IsMemory mem → memory_of (memory_items mem) ≡ mem
memory_again mem h = again mem.rip mem.base mem.index mem.scale mem.disp h.rip_alone h.no_scale
