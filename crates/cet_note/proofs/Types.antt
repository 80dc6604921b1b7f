-- Types that ascend, and how many there can be.
use Rattle.std.proofs.Common.{◌≡◌, ℕ, zero, suc, ◌+◌, ◌<◌, ◌≤◌, Bool, true, false, leb, ◌&&◌, ◌||◌, List, [], ◌∷◌, length, IsTrue, All, refl, sym, subst, arith}
use Rattle.std.specs.Prelude.{slice_index}
use Rattle.std.specs.List.Sorted.{IsStrictlyIncreasing}
use Rattle.std.proofs.lemmas.Bool.{leb-true}
use Rattle.std.proofs.lemmas.List.{length-map}
use Rattle.std.proofs.lemmas.List.Elements.{All-head, All-tail, All-weaker}
use Rattle.cet_note.specs.Note.{Note, IsNote, types, is_between, is_word_type}

later : (k : ℕ) → suc k + 1 ≡ suc (k + 1)
later k = omega arith

pub rises_tail : (x : ℕ) (xs : List ℕ) → IsStrictlyIncreasing (x ∷ xs) → IsStrictlyIncreasing xs
rises_tail x xs h k lt =
    subst (λ (n : ℕ). slice_index (x ∷ xs) (suc k) < slice_index (x ∷ xs) n) (later k) (h (suc k) (omega arith))

pub rises_more : (x y : ℕ) (xs : List ℕ) → x < y → IsStrictlyIncreasing (y ∷ xs) → IsStrictlyIncreasing (x ∷ y ∷ xs)
rises_more x y xs lt h zero in_range = lt
rises_more x y xs lt h (suc k) in_range =
    subst (λ (n : ℕ). slice_index (x ∷ y ∷ xs) (suc k) < slice_index (x ∷ y ∷ xs) n) (sym (later k)) (h k (omega arith))

pub rises_one : (x : ℕ) → IsStrictlyIncreasing (x ∷ [])
rises_one x k lt = absurd (omega arith)

pub rises_none : IsStrictlyIncreasing []
rises_none k lt = absurd (omega arith)

-- as many numbers ascend from x on as there are below the limit
room_above : (limit x : ℕ) (xs : List ℕ) → IsStrictlyIncreasing (x ∷ xs) → All (λ k. k < limit) (x ∷ xs) → length (x ∷ xs) + x ≤ limit
room_above limit x [] rises below = omega (arith, All-head (λ k. k < limit) x [] below)
room_above limit x (y ∷ xs) rises below =
    omega (arith, rises 0 (omega arith), room_above limit y xs (rises_tail x (y ∷ xs) rises) (All-tail (λ k. k < limit) x (y ∷ xs) below))

pub between : (low high kind : ℕ) → is_between low high kind ≡ true → (low ≤ kind) × (kind ≤ high)
between low high kind e = (leb-true low kind (left (leb low kind) (leb kind high) e), leb-true kind high (right (leb low kind) (leb kind high) e))
  where
    left : (a b : Bool) → a && b ≡ true → a ≡ true
    left true b e = refl
    left false b e = absurd cc

    right : (a b : Bool) → a && b ≡ true → b ≡ true
    right true b e = e
    right false b e = absurd cc

some : (a b c : Bool) (P : Type 0) → a || b || c ≡ true → (a ≡ true → P) → (b ≡ true → P) → (c ≡ true → P) → P
some true b c P e f g h = f refl
some false true c P e f g h = g refl
some false false c P e f g h = h e

-- the three ranges as one
pub word_type_bounds : (kind : ℕ) → IsTrue (is_word_type kind) → (0xc0000002 ≤ kind) × (kind < 0xc0018000)
word_type_bounds kind e =
    some (is_between 0xc0000002 0xc0007fff kind) (is_between 0xc0008000 0xc000ffff kind) (is_between 0xc0010000 0xc0017fff kind) ((0xc0000002 ≤ kind) × (kind < 0xc0018000)) e
    (λ h. let b = between 0xc0000002 0xc0007fff kind h in (omega arith, omega arith))
    (λ h. let b = between 0xc0008000 0xc000ffff kind h in (omega arith, omega arith))
    (λ h. let b = between 0xc0010000 0xc0017fff kind h in (omega arith, omega arith))

few_types : (xs : List ℕ) → IsStrictlyIncreasing xs → All (λ kind. IsTrue (is_word_type kind)) xs → length xs ≤ 98302
few_types [] rises known = omega arith
few_types (x ∷ xs) rises known =
    let below = All-weaker (λ kind. IsTrue (is_word_type kind)) (λ kind. kind < 0xc0018000) (λ kind h. (word_type_bounds kind h).1) (x ∷ xs) known in
    omega (arith, room_above 0xc0018000 x xs rises below, (word_type_bounds x (All-head (λ kind. IsTrue (is_word_type kind)) x xs known)).0)

-- a note has no more properties than there are types in the three ranges
pub few_properties : (note : Note) → IsNote note → length note ≤ 98302
few_properties note is =
    let all = few_types (types note) is.ascending is.types_known in
    omega (arith, all, length-map note (λ (p : ℕ × ℕ). p.0))
