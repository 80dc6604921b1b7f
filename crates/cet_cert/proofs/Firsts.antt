-- The first of some breaches, put together from the first of their parts.
use Rattle.std.proofs.Common.{◌≡◌, ℕ, ◌⊎◌, Bool, true, false, Option, Some, None, refl, sym, ◌∙◌, subst, inl, inr, arith}
use Rattle.std.specs.Bool.{then_some}
use Rattle.cet_rules.specs.First.{ComesFirst}
use Rattle.cet_cert.specs.declared.breach.Breach.{Breach}
use Rattle.cet_cert.specs.Breach.{IsOf, IsFirstOf}

-- what holds of a part's first breach
of_first : (P : ℕ → ℕ → Type 0) (x : Option Breach) → IsFirstOf P x → (rule a : ℕ) → IsOf x rule a → P rule a
of_first P None first rule a is = absurd is
of_first P (Some b) first rule a is = subst (λ (r : ℕ). P r a) is.0 (subst (λ (c : ℕ). P b.rule c) is.1 first.0)

comes_trans : (r a s b t c : ℕ) → ComesFirst r a s b → ComesFirst s b t c → ComesFirst r a t c
comes_trans r a s b t c (inl x) (inl y) = inl (omega arith)
comes_trans r a s b t c (inl x) (inr y) = inl (omega (arith, y.0))
comes_trans r a s b t c (inr x) (inl y) = inl (omega (arith, x.0))
comes_trans r a s b t c (inr x) (inr y) = inr (x.0 ∙ y.0, omega (arith, x.1, y.1))

-- something comes before each of a part's breaches that comes before its first
before_part : (P : ℕ → ℕ → Type 0) (x : Option Breach) → IsFirstOf P x → (r c : ℕ) → ((s d : ℕ) → IsOf x s d → ComesFirst r c s d) → (s d : ℕ) → P s d → ComesFirst r c s d
before_part P None first r c before s d is = absurd (first s d is)
before_part P (Some b) first r c before s d is = comes_trans r c b.rule b.at s d (before b.rule b.at (refl, refl)) (first.1 s d is)

none_part : (P : ℕ → ℕ → Type 0) (x : Option Breach) → IsFirstOf P x → ((s d : ℕ) → IsOf x s d → ⊥) → (s d : ℕ) → P s d → ⊥
none_part P None first none s d is = first s d is
none_part P (Some b) first none s d is = none b.rule b.at (refl, refl)

-- the first breach of either part is the first of the whole
pub first_both : (P Q R : ℕ → ℕ → Type 0) (x y z : Option Breach) → IsFirstOf P x → IsFirstOf Q y → IsFirstOf (λ rule a. IsOf x rule a ⊎ IsOf y rule a) z →
    ((rule a : ℕ) → P rule a → R rule a) → ((rule a : ℕ) → Q rule a → R rule a) → ((rule a : ℕ) → R rule a → P rule a ⊎ Q rule a) → IsFirstOf R z
first_both P Q R x y None first second both left right whole = λ s d is. elim (whole s d is) [
  | inl p ↦ none_part P x first (λ r c of. both r c (inl of)) s d p
  | inr q ↦ none_part Q y second (λ r c of. both r c (inr of)) s d q
]
first_both P Q R x y (Some b) first second both left right whole = (
  elim both.0 [
    | inl of ↦ left b.rule b.at (of_first P x first b.rule b.at of)
    | inr of ↦ right b.rule b.at (of_first Q y second b.rule b.at of)
  ],
  λ s d is. elim (whole s d is) [
    | inl p ↦ before_part P x first b.rule b.at (λ r c of. both.1 r c (inl of)) s d p
    | inr q ↦ before_part Q y second b.rule b.at (λ r c of. both.1 r c (inr of)) s d q
  ],
)

-- the first breach depends only on which there are
pub first_same : (P Q : ℕ → ℕ → Type 0) (x : Option Breach) → IsFirstOf P x → ((rule a : ℕ) → P rule a → Q rule a) → ((rule a : ℕ) → Q rule a → P rule a) → IsFirstOf Q x
first_same P Q None first to from = λ s d is. first s d (from s d is)
first_same P Q (Some b) first to from = (to b.rule b.at first.0, λ s d is. first.1 s d (from s d is))

-- a breach that a test decides
pub first_if : (P : ℕ → ℕ → Type 0) (t : Bool) (b : Breach) (o : Option Breach) → o ≡ then_some t b → (t ≡ true → IsFirstOf P (Some b)) → (t ≡ false → IsFirstOf P None) → IsFirstOf P o
first_if P true b o e passes fails = subst (λ (x : Option Breach). IsFirstOf P x) (sym e) (passes refl)
first_if P false b o e passes fails = subst (λ (x : Option Breach). IsFirstOf P x) (sym e) (fails refl)
