use Rattle.std.proofs.Common.{◌≡◌, suc, false, eqb, List, [], ◌∷◌, length, map, refl, sym, ◌∙◌, arith}
use Rattle.cet_elf.specs.declared.exec.ExecSegment.{ExecSegment}
use Rattle.cet_exec.specs.Written.{is_left_of}
use Rattle.cet_exec.proofs.segments.is_linked.Goals as goal

none-left : (xs : List ExecSegment) → is_left_of (map (λ s. s.flags) xs) [] ≡ eqb (length xs) 0
none-left [] = refl
none-left (x ∷ xs) = let some : eqb (suc (length xs)) 0 ≡ false = grind arith in sym some

pub returns : goal.returns
returns c =
    c.is_empty.ensures ∙ sym (none-left c.without-3.result.now) ∙ sym (c.without-3.ensures []) ∙ sym (c.without-2.ensures (6 ∷ [])) ∙ sym (c.without.ensures (4 ∷ 6 ∷ []))
