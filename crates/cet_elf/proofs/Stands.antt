-- Pieces that stand at a place in a list of bytes, and the numbers that are read there.
use Rattle.std.proofs.Common.{◌≡◌, ℕ, zero, suc, ◌+◌, ◌-◌, ◌*◌, ◌<◌, ◌≤◌, ◌^◌, List, [], ◌∷◌, ◌++◌, length, get_or, take, drop, refl, sym, ap, subst, ◌∙◌, arith}
use Rattle.std.specs.List.{flat_map}
use Rattle.std.proofs.lemmas.List.{take_at, drop_at, append-nil, length-append, drop-drop, drop-take, take-take}
use Rattle.std.proofs.lemmas.Nat.{from_le_bytes-to_le_bytes_2, from_le_bytes-to_le_bytes_4, from_le_bytes-to_le_bytes_8}
use Rattle.byteorder.specs.Endian.{little_bytes}
use Rattle.cet_elf.specs.Fields.{number}

-- the piece stands at this place
pub record Stands (bytes : List ℕ) (at : ℕ) (piece : List ℕ) : Type 0 where
  pub inside : at + length piece ≤ length bytes
  pub is : take (length piece) (drop at bytes) ≡ piece

pub Stands-here : (front piece rest : List ℕ) → Stands (front ++ (piece ++ rest)) (length front) piece
Stands-here front piece rest = record {
  inside = omega (arith, length-append front (piece ++ rest), length-append piece rest);
  is = ap (take (length piece)) (drop_at front (piece ++ rest) (length front) refl) ∙ take_at piece rest (length piece) refl;
}

-- a piece of a piece
pub Stands-in : (bytes whole piece : List ℕ) (at i : ℕ) → Stands bytes at whole → Stands whole i piece → Stands bytes (at + i) piece
Stands-in bytes whole piece at i outer inner =
    let n = length piece in
    let left : ℕ = length whole - i in
    let fits : n ≤ left = omega (arith, inner.inside) in
    let sum : length whole ≡ i + left = omega (arith, inner.inside) in
    let within : drop i whole ≡ take left (drop (at + i) bytes) =
    ap (drop i) (sym outer.is ∙ ap (λ (m : ℕ). take m (drop at bytes)) sum) ∙ drop-take i left (drop at bytes) ∙ ap (take left) (drop-drop i at bytes) in
    record {
      inside = omega (arith, outer.inside, inner.inside);
      is = sym (take-take n left (drop (at + i) bytes) fits) ∙ ap (take n) (sym within) ∙ inner.is;
    }

pub Stands-at : (bytes piece : List ℕ) (at to : ℕ) → at ≡ to → Stands bytes at piece → Stands bytes to piece
Stands-at bytes piece at to e h = subst (λ (n : ℕ). Stands bytes n piece) e h

-- the two parts of a piece
pub Stands-front : (bytes one two : List ℕ) (at : ℕ) → Stands bytes at (one ++ two) → Stands bytes at one
Stands-front bytes one two at h = Stands-at bytes one (at + 0) at (omega arith) (Stands-in bytes (one ++ two) one at 0 h (Stands-here [] one two))

pub Stands-back : (bytes one two : List ℕ) (at : ℕ) → Stands bytes at (one ++ two) → Stands bytes (at + length one) two
Stands-back bytes one two at h =
    Stands-in bytes (one ++ two) two at (length one) h (subst (λ (r : List ℕ). Stands (one ++ r) (length one) two) (append-nil two) (Stands-here one two []))

-- a piece of what stands before or behind something else
pub Stands-before : (front rest piece : List ℕ) (i : ℕ) → Stands front i piece → Stands (front ++ rest) i piece
Stands-before front rest piece i h = Stands-at (front ++ rest) piece (0 + i) i (omega arith) (Stands-in (front ++ rest) front piece 0 i (Stands-here [] front rest) h)

pub Stands-behind : (front rest piece : List ℕ) (i : ℕ) → Stands rest i piece → Stands (front ++ rest) (length front + i) piece
Stands-behind front rest piece i h =
    Stands-in (front ++ rest) rest piece (length front) i (subst (λ (r : List ℕ). Stands (front ++ r) (length front) rest) (append-nil rest) (Stands-here front rest [])) h

-- entry k of a table whose entries have one width
pub Stands-entry : {X : Type 0} (f : X → List ℕ) (width : ℕ) (xs : List X) (k : ℕ) (d : X) → ((x : X) → length (f x) ≡ width) → k < length xs
    → Stands (flat_map f xs) (width * k) (f (get_or xs k d))
Stands-entry f width [] k d wide lt = absurd (omega arith)
Stands-entry f width (x ∷ xs) zero d wide lt = Stands-at (f x ++ flat_map f xs) (f x) 0 (width * 0) (omega arith) (Stands-here [] (f x) (flat_map f xs))
Stands-entry f width (x ∷ xs) (suc k) d wide lt =
    let next = Stands-behind (f x) (flat_map f xs) (f (get_or xs k d)) (width * k) (Stands-entry f width xs k d wide (omega arith)) in
    Stands-at (f x ++ flat_map f xs) (f (get_or xs k d)) (length (f x) + width * k) (width * suc k) (omega (arith, wide x)) next

-- the numbers of one, two, four and eight bytes
pub byte-Stands : (bytes : List ℕ) (at n : ℕ) → n < 256 → Stands bytes at (little_bytes 1 n) → number 1 bytes at ≡ n
unfolding number
byte-Stands bytes at n lt h = rw (h.is) (omega arith)

pub half-Stands : (bytes : List ℕ) (at n : ℕ) → n < 2 ^ 16 → Stands bytes at (little_bytes 2 n) → number 2 bytes at ≡ n
unfolding number
half-Stands bytes at n lt h = rw (h.is) (omega (arith, from_le_bytes-to_le_bytes_2 n lt))

pub word-Stands : (bytes : List ℕ) (at n : ℕ) → n < 2 ^ 32 → Stands bytes at (little_bytes 4 n) → number 4 bytes at ≡ n
unfolding number
word-Stands bytes at n lt h = rw (h.is) (omega (arith, from_le_bytes-to_le_bytes_4 n lt))

pub xword-Stands : (bytes : List ℕ) (at n : ℕ) → n < 2 ^ 64 → Stands bytes at (little_bytes 8 n) → number 8 bytes at ≡ n
unfolding number
xword-Stands bytes at n lt h = rw (h.is) (omega (arith, from_le_bytes-to_le_bytes_8 n lt))
