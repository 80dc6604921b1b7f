-- An ascending list of functions is known by its members.
use Rattle.std.proofs.Common.{◌≡◌, ℕ, suc, ◌<◌, List, [], ◌∷◌, slice_get, Some, inl, inr, refl, sym, ap, subst, ◌∙◌, arith}
use Rattle.std.specs.List.{Contains}
use Rattle.std.proofs.lemmas.Option.{slice_get-get_or, same_Some, none-some}
use Rattle.cet_elf.specs.declared.exec.Exec.{Exec}
use Rattle.cet_elf.specs.declared.exec.ExecSymbol.{ExecSymbol}
use Rattle.cet_rules.specs.declared.function.Function.{Function}
use Rattle.cet_rules.specs.declared.image.Image.{Image}
use Rattle.cet_rules.specs.Regular.{Precedes}
use Rattle.cet_image.specs.declared.error.ImageError.{ImageError}
use Rattle.cet_image.specs.Executable.{AreFunctionsOf}
use Rattle.cet_image.specs.Faults.{error_with}
use Rattle.cet_image.specs.ImageOf.{IsImageOf, IsImageError}
use Rattle.cet_image.proofs.Named.{contains_here, contains_later, contains_cases}

record Ascends (fs : List Function) : Type 0 where
  up : (j k : ℕ) (f g : Function) → j < k → slice_get fs j ≡ Some f → slice_get fs k ≡ Some g → Precedes f g

tail_ascends : (f : Function) (fs : List Function) → Ascends (f ∷ fs) → Ascends fs
tail_ascends f fs a = record { up = λ j k g h jk ej ek. a.up (suc j) (suc k) g h (omega arith) ej ek }

first_precedes : (f : Function) (fs : List Function) (g : Function) → Ascends (f ∷ fs) → Contains fs g → Precedes f g
first_precedes f fs g a (k, within, is) = a.up 0 (suc k) f g (omega arith) refl (slice_get-get_or fs k g within ∙ ap Some is)

not_before_itself : (f : Function) → Precedes f f → ⊥
not_before_itself f p = let less = p.1 refl in absurd (omega arith)

not_both : (f g : Function) → Precedes f g → Precedes g f → ⊥
not_both f g p q =
    let starts : f.start ≡ g.start = omega (arith, p.0, q.0) in
    absurd (omega (arith, p.1 starts, q.1 (sym starts)))

-- two lists with the same members
abbrev SameMembers : List Function → List Function → Type 0
SameMembers fs gs = (f : Function) → (Contains fs f → Contains gs f) × (Contains gs f → Contains fs f)

same_first : (f g : Function) (fs gs : List Function) → Ascends (f ∷ fs) → Ascends (g ∷ gs) → SameMembers (f ∷ fs) (g ∷ gs) → f ≡ g
same_first f g fs gs a b same = elim (contains_cases g f gs ((same f).0 (contains_here f fs))) [
  | inl is ↦ sym is
  | inr later ↦ elim (contains_cases f g fs ((same g).1 (contains_here g gs))) [
    | inl is ↦ is
    | inr later2 ↦ absurd (not_both f g (first_precedes f fs g a later2) (first_precedes g gs f b later))
  ]
]

-- what stands behind the first one stands behind it in the other list too
behind : (f g : Function) (fs gs : List Function) (h : Function) → f ≡ g → Ascends (f ∷ fs) → (Contains (f ∷ fs) h → Contains (g ∷ gs) h) → Contains fs h → Contains gs h
behind f g fs gs h is a to there = elim (contains_cases g h gs (to (contains_later f h fs there))) [
  | inl first ↦ absurd (not_before_itself f (subst (Precedes f) (sym (is ∙ first)) (first_precedes f fs h a there)))
  | inr later ↦ later
]

same_lists : (fs gs : List Function) → Ascends fs → Ascends gs → SameMembers fs gs → fs ≡ gs
same_lists [] [] a b same = refl
same_lists [] (g ∷ gs) a b same = let (k, within, is) = (same g).1 (contains_here g gs) in absurd (omega arith)
same_lists (f ∷ fs) [] a b same = let (k, within, is) = (same f).0 (contains_here f fs) in absurd (omega arith)
same_lists (f ∷ fs) (g ∷ gs) a b same =
    let is : f ≡ g = same_first f g fs gs a b same in
    let rest : fs ≡ gs =
    same_lists fs gs (tail_ascends f fs a) (tail_ascends g gs b) (λ h. (behind f g fs gs h is a (same h).0, behind g f gs fs h (sym is) b (same h).1)) in
    cc

pub one_function_list : (symbols : List ExecSymbol) (m n : List Function) → AreFunctionsOf symbols m → AreFunctionsOf symbols n → m ≡ n
one_function_list symbols m n a b =
    same_lists m n (record { up = a.ascending }) (record { up = b.ascending }) (λ f. ((λ c. (b.named f).1 ((a.named f).0 c)), (λ c. (a.named f).1 ((b.named f).0 c))))

pub one_error : (e : Exec) (x y : ImageError) → IsImageError e x → IsImageError e y → x ≡ y
one_error e x y (fs, a, is_x) (gs, b, is_y) =
    same_Some x y (sym is_x ∙ ap (error_with e) (one_function_list e.symbols fs gs a b) ∙ is_y)

pub no_error_of_images : (e : Exec) (image : Image) (x : ImageError) → IsImageOf e image → ¬ IsImageError e x
no_error_of_images e image x of (fs, a, is_x) =
    none-some x (sym of.no_error ∙ ap (error_with e) (one_function_list e.symbols image.functions fs of.functions a) ∙ is_x)
