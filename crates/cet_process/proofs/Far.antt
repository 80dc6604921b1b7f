-- Regions that stay a gap apart.
use Rattle.std.proofs.Common.{◌≡◌, ℕ, zero, suc, ◌+◌, ◌-◌, ◌^◌, ◌<◌, ◌≤◌, ◌⊎◌, inl, inr, true, false, ◌&&◌, nat_lt, nat_le, min, max, List, [], ◌∷◌, map, length, Some, sym, subst, arith}
use Rattle.std.specs.List.{fold, insert, list_any}
use Rattle.std.proofs.lemmas.Bool.{and_parts, or_parts, not-true, leb-true, ltb-false, cases_Bool, ltb-true}
use Rattle.std.proofs.lemmas.List.{length-replicate}
use Rattle.cet_machine.specs.declared.memory.Kind.{Kind}
use Rattle.cet_machine.specs.declared.memory.Region.{Region}
use Rattle.cet_machine.specs.Memory.{is_range_of_pages, is_free, meets_range, zeros, with_region, gap, place, legal}
use Rattle.cet_machine.specs.MemoryLaws.{shape, SameShape}
use Rattle.cet_machine.proofs.MemoryPlace.{placed_parts}
use Rattle.cet_process.specs.Laws.{end_of, IsFarIfHigh, IsFarFromAll, AreFar}

-- ---- by the shapes alone

abbrev FarShapes : ℕ × ℕ × Kind → ℕ × ℕ × Kind → Type 0
FarShapes s t = 2 ^ 32 ≤ max s.0 t.0 → 0 < s.1 → 0 < t.1 → (s.0 + s.1 + gap ≤ t.0) ⊎ (t.0 + t.1 + gap ≤ s.0)

abbrev FarFromShapes : ℕ × ℕ × Kind → List (ℕ × ℕ × Kind) → Type 0
FarFromShapes s [] = Unit {0}
FarFromShapes s (t ∷ S) = FarShapes s t × FarFromShapes s S

abbrev ShapesAreFar : List (ℕ × ℕ × Kind) → Type 0
ShapesAreFar [] = Unit {0}
ShapesAreFar (s ∷ S) = FarFromShapes s S × ShapesAreFar S

from_all_shapes : (r : Region) (M : List Region) → IsFarFromAll r M → FarFromShapes (shape r) (map shape M)
from_all_shapes r [] far = tt
from_all_shapes r (q ∷ M) far = (far.0, from_all_shapes r M far.1)

from_all_regions : (r : Region) (M : List Region) → FarFromShapes (shape r) (map shape M) → IsFarFromAll r M
from_all_regions r [] far = tt
from_all_regions r (q ∷ M) far = (far.0, from_all_regions r M far.1)

far_shapes : (M : List Region) → AreFar M → ShapesAreFar (map shape M)
far_shapes [] far = tt
far_shapes (r ∷ M) far = (from_all_shapes r M far.0, far_shapes M far.1)

far_regions : (M : List Region) → ShapesAreFar (map shape M) → AreFar M
far_regions [] far = tt
far_regions (r ∷ M) far = (from_all_regions r M far.0, far_regions M far.1)

pub same_shape_far : (M N : List Region) → SameShape M N → AreFar M → AreFar N
same_shape_far M N e far = far_regions N (subst ShapesAreFar (sym e) (far_shapes M far))

-- ---- one region more

far_other_way : (r q : Region) → IsFarIfHigh r q → IsFarIfHigh q r
far_other_way r q far = λ high some_q some_r.
    let same : 2 ^ 32 ≤ max r.start q.start = omega (arith, high) in
    elim (far same some_r some_q) [ inl below ↦ inr below | inr above ↦ inl above ]

from_all_insert : (r : Region) (M : List Region) (i : ℕ) (x : Region) → IsFarFromAll r M → IsFarIfHigh r x → IsFarFromAll r (insert M i x)
from_all_insert r M zero x far from_x = (from_x, far)
from_all_insert r [] (suc i) x far from_x = (from_x, tt)
from_all_insert r (q ∷ M) (suc i) x far from_x = (far.0, from_all_insert r M i x far.1 from_x)

pub far_insert : (M : List Region) (i : ℕ) (x : Region) → AreFar M → IsFarFromAll x M → AreFar (insert M i x)
far_insert M zero x far from_all = (from_all, far)
far_insert [] (suc i) x far from_all = (tt, tt)
far_insert (q ∷ M) (suc i) x far from_all = (from_all_insert q M i x far.0 (far_other_way x q from_all.0), far_insert M i x far.1 from_all.1)

-- what has no address in a range, and a gap on each side, is a gap apart from it
free_far : (at len : ℕ) (kind : Kind) (q : Region) → 2 ^ 32 ≤ at → meets_range (at - gap) (at + len + gap) q ≡ false → IsFarIfHigh (zeros at len kind) q
free_far at len kind q high e = λ is_high some_new some_q.
    let apart : min (at + len + gap) (end_of q) ≤ max (at - gap) q.start = ltb-false (max (at - gap) q.start) (min (at + len + gap) (end_of q)) e in
    let size : length (zeros at len kind).bytes ≡ len = length-replicate len 0 in
    elim (cases_Bool (nat_lt q.start (at + len + gap))) [
      | inl before ↦
          let starts : q.start < at + len + gap = ltb-true q.start (at + len + gap) before in
          inr (omega (arith, apart, some_q, starts, high, size))
      | inr after ↦
          let starts : at + len + gap ≤ q.start = ltb-false q.start (at + len + gap) after in
          inl (omega (arith, starts, size))
    ]

all_free_far : (M : List Region) (at len : ℕ) (kind : Kind) → 2 ^ 32 ≤ at → list_any (meets_range (at - gap) (at + len + gap)) M ≡ false → IsFarFromAll (zeros at len kind) M
all_free_far [] at len kind high e = tt
all_free_far (q ∷ M) at len kind high e =
    let parts = or_parts (meets_range (at - gap) (at + len + gap) q) (list_any (meets_range (at - gap) (at + len + gap)) M) e in
    (free_far at len kind q high parts.0, all_free_far M at len kind high parts.1)

pub legal_far : (M : List Region) (at len : ℕ) (kind : Kind) → legal M at len ≡ true → IsFarFromAll (zeros at len kind) M
unfolding legal
legal_far M at len kind e =
    let parts = and_parts (is_range_of_pages at len && nat_le (2 ^ 32) at) (is_free M (at - gap) (at + len + gap)) e in
    let high = and_parts (is_range_of_pages at len) (nat_le (2 ^ 32) at) parts.0 in
    all_free_far M at len kind (leb-true (2 ^ 32) at high.1) (not-true (list_any (meets_range (at - gap) (at + len + gap)) M) parts.1)

-- a region of zeros that is far from all that were there
pub placed_far : (M N : List Region) (at len : ℕ) (kind : Kind) → place M at len kind ≡ Some N → AreFar M → IsFarFromAll (zeros at len kind) M → AreFar N
placed_far M N at len kind e far from_all =
    let p = placed_parts M N at len kind e in
    subst AreFar (sym p.now) (far_insert M _ (zeros at len kind) far from_all)

-- ---- regions that are put in order one after another

-- each of rs is far from all of M
abbrev pub AllFar : List Region → List Region → Type 0
AllFar [] M = Unit {0}
AllFar (r ∷ rs) M = IsFarFromAll r M × AllFar rs M

all_far_insert : (rs M : List Region) (i : ℕ) (x : Region) → AllFar rs M → IsFarFromAll x rs → AllFar rs (insert M i x)
all_far_insert [] M i x far from_x = tt
all_far_insert (r ∷ rs) M i x far from_x = (from_all_insert r M i x far.0 (far_other_way x r from_x.0), all_far_insert rs M i x far.1 from_x.1)

pub fold_far : (rs M : List Region) → AreFar M → AreFar rs → AllFar rs M → AreFar (fold with_region M rs)
fold_far [] M of_m of_rs far = of_m
fold_far (r ∷ rs) M of_m of_rs far = fold_far rs (with_region M r) (far_insert M _ r of_m far.0) of_rs.1 (all_far_insert rs M _ r far.1 of_rs.0)
