-- Tables with one item for each number below n, and how many numbers pass a test.
use Rattle.std.proofs.Common.{◌≡◌, ℕ, zero, suc, ◌+◌, ◌≤◌, ◌<◌, Bool, true, false, cond, List, [], ◌∷◌, length, get_or, inl, inr, refl, ap, ◌∙◌, arith, length-append}
use Rattle.std.proofs.lemmas.Bool.{cases_lt}
use Rattle.std.proofs.lemmas.List.{get_or_append_left}
use Rattle.std.proofs.Math.Seq.{get_or-append_seam}
use Rattle.cet_elf.specs.Below.{each_below, count_below}
use Rattle.cet_elf.specs.Header.{section_count}
use Rattle.cet_elf.specs.ObjectSections.{section_number}
use Rattle.cet_elf.specs.Numbers.{section_numbers}

pub length-table : {X : Type 0} (n : ℕ) (f : ℕ → X) → length (each_below n (λ i. f i ∷ [])) ≡ n
length-table zero f = refl
length-table (suc n) f =
    let h = length-table n f in
    omega (arith, length-append (each_below n (λ i. f i ∷ [])) (f n ∷ []))

pub get_or-table : {X : Type 0} (n i : ℕ) (f : ℕ → X) (d : X) → i < n → get_or (each_below n (λ i. f i ∷ [])) i d ≡ f i
get_or-table zero i f d lt = absurd (omega arith)
get_or-table (suc n) i f d lt = elim (cases_lt i n) [
  | inl less ↦
      let long : i < length (each_below n (λ i. f i ∷ [])) = omega (arith, length-table n f) in
      get_or_append_left (each_below n (λ i. f i ∷ [])) (f n ∷ []) d i long ∙ get_or-table n i f d less
  | inr le ↦
      let is : i ≡ length (each_below n (λ i. f i ∷ [])) = omega (arith, length-table n f) in
      let same : n ≡ i = omega arith in
      rw is (get_or-append_seam (each_below n (λ i. f i ∷ [])) (f n) [] d) ∙ ap f same
]

pub count_below-le : (n : ℕ) (p : ℕ → Bool) → count_below n p ≤ n
count_below-le zero p = omega arith
count_below-le (suc n) p =
    let h = count_below-le n p in
    bounded (p n) (count_below n p) h
  where
    bounded : (b : Bool) (m : ℕ) → m ≤ n → m + cond b 1 0 ≤ suc n
    bounded true m h = omega arith
    bounded false m h = omega arith

pub length-section_numbers : (b : List ℕ) → length (section_numbers b) ≡ section_count b
length-section_numbers b = length-table (section_count b) (section_number b)

pub get_or-section_numbers : (b : List ℕ) (i : ℕ) → i < section_count b → get_or (section_numbers b) i 0 ≡ section_number b i
get_or-section_numbers b i lt = get_or-table (section_count b) i (section_number b) 0 lt

pub ruleset counts = (count_below-le)
