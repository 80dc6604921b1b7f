-- Bytes of one region: what stands where after some were written over, and the number that they are.
use Rattle.std.proofs.Common.{◌≡◌, ℕ, zero, suc, ◌+◌, ◌-◌, ◌*◌, ◌/◌, ◌%◌, ◌^◌, ◌<◌, ◌≤◌, List, [], ◌∷◌, ◌++◌, length, take, drop, replicate, refl, sym, ap, ◌∙◌, arith, append_assoc, length-append, length-drop}
use Rattle.std.proofs.lemmas.List.{length-take-le, take-append-le, drop-append-le, drop-drop, take-append-drop}
use Rattle.std.proofs.lemmas.Nat.{mod-mul-add, mod_below, div-add-mod'}
use Rattle.std.proofs.Math.Nat.{pow-suc}
use Rattle.std.proofs.Math.Seq.{drop-append-add}
use Rattle.cet_base.specs.Field.{little_endian}
use Rattle.cet_machine.specs.Memory.{overwritten, low_bytes}
use Rattle.cet_machine.specs.MemoryLaws.{IsByteList}

pub length-overwritten : (bytes : List ℕ) (i : ℕ) (new : List ℕ) → i + length new ≤ length bytes → length (overwritten bytes i new) ≡ length bytes
length-overwritten bytes i new h =
    let before : length (take i bytes) ≡ i = length-take-le i bytes (omega arith) in
    simp (length-append, length-drop) (omega arith)

-- what lies in the front does not depend on what follows it
front_same : (p x y : List ℕ) (j k : ℕ) → j + k ≤ length p → take k (drop j (p ++ x)) ≡ take k (drop j (p ++ y))
front_same p x y j k h =
    let left : k ≤ length (drop j p) = simp length-drop (omega arith) in
    ap (take k) (drop-append-le j p x (omega arith)) ∙ take-append-le k (drop j p) x left
    ∙ sym (take-append-le k (drop j p) y left) ∙ ap (take k) (sym (drop-append-le j p y (omega arith)))

-- past the front, what is left begins in the rest
drop-past : (xs ys : List ℕ) (j k : ℕ) → length xs + k ≡ j → drop j (xs ++ ys) ≡ drop k ys
drop-past xs ys j k e = ap (λ (n : ℕ). drop n (xs ++ ys)) (sym e) ∙ drop-append-add xs ys k

-- before the bytes written
pub overwritten-before : (bytes : List ℕ) (i : ℕ) (new : List ℕ) (j k : ℕ) → i ≤ length bytes → j + k ≤ i
    → take k (drop j (overwritten bytes i new)) ≡ take k (drop j bytes)
overwritten-before bytes i new j k h before =
    let size : length (take i bytes) ≡ i = length-take-le i bytes h in
    ap (λ (l : List ℕ). take k (drop j l)) (append_assoc (take i bytes) new (drop (i + length new) bytes))
    ∙ front_same (take i bytes) (new ++ drop (i + length new) bytes) (drop i bytes) j k (omega arith)
    ∙ ap (λ (l : List ℕ). take k (drop j l)) (take-append-drop i bytes)

-- past the bytes written
pub overwritten-after : (bytes : List ℕ) (i : ℕ) (new : List ℕ) (j : ℕ) → i ≤ length bytes → i + length new ≤ j
    → drop j (overwritten bytes i new) ≡ drop j bytes
overwritten-after bytes i new j h after =
    let size : length (take i bytes) ≡ i = length-take-le i bytes h in
    let front : length (take i bytes ++ new) + (j - (i + length new)) ≡ j = simp length-append (omega arith) in
    let back : i + length new + (j - (i + length new)) ≡ j = omega arith in
    drop-past (take i bytes ++ new) (drop (i + length new) bytes) j (j - (i + length new)) front
    ∙ drop-drop (j - (i + length new)) (i + length new) bytes
    ∙ ap (λ (n : ℕ). drop n bytes) back

-- within the bytes written
pub overwritten-within : (bytes : List ℕ) (i : ℕ) (new : List ℕ) (m j k : ℕ) → i ≤ length bytes → m ≡ i + j → j + k ≤ length new
    → take k (drop m (overwritten bytes i new)) ≡ take k (drop j new)
overwritten-within bytes i new m j k h at within =
    let size : length (take i bytes) ≡ i = length-take-le i bytes h in
    let left : k ≤ length (drop j new) = simp length-drop (omega arith) in
    ap (λ (l : List ℕ). take k (drop m l)) (append_assoc (take i bytes) new (drop (i + length new) bytes))
    ∙ ap (take k) (drop-past (take i bytes) (new ++ drop (i + length new) bytes) m j (omega arith))
    ∙ ap (take k) (drop-append-le j new (drop (i + length new) bytes) (omega arith))
    ∙ take-append-le k (drop j new) (drop (i + length new) bytes) left

-- ---- numbers

pub length-low_bytes : (n v : ℕ) → length (low_bytes n v) ≡ n
unfolding low_bytes
length-low_bytes zero v = refl
length-low_bytes (suc n) v = let rest = length-low_bytes n (v / 256) in omega (arith, rest)

pow-pos : (n : ℕ) → 0 < 256 ^ n
pow-pos zero = omega arith
pow-pos (suc n) = let rest = pow-pos n in omega (arith, pow-suc 256 n)

-- the lowest digit and the next n ones
low_digits : (n v : ℕ) → v % 256 + 256 * (v / 256 % 256 ^ n) ≡ v % 256 ^ suc n
low_digits n v =
    let q : ℕ = v / 256 in
    let p : ℕ = 256 ^ n in
    let high : q / p * p + q % p ≡ q = div-add-mod' q p in
    let low : v / 256 * 256 + v % 256 ≡ v = div-add-mod' v 256 in
    let digit : v % 256 < 256 = mod_below v 256 (omega arith) in
    let digits : q % p < p = mod_below q p (pow-pos n) in
    let top : 256 ^ suc n ≡ 256 * p = omega (arith, pow-suc 256 n) in
    let whole : q / p * (256 * p) + (v % 256 + 256 * (q % p)) ≡ v = omega (arith, high, low, ap (λ (m : ℕ). 256 * m) high) in
    sym (ap (λ (m : ℕ). v % m) top ∙ ap (λ (w : ℕ). w % (256 * p)) (sym whole)
    ∙ mod-mul-add (q / p) (256 * p) (v % 256 + 256 * (q % p)) (omega (arith, digit, digits)))

pub little_endian-low_bytes : (n v : ℕ) → little_endian (low_bytes n v) ≡ v % 256 ^ n
unfolding low_bytes
little_endian-low_bytes zero v = omega arith
little_endian-low_bytes (suc n) v = ap (λ (m : ℕ). v % 256 + 256 * m) (little_endian-low_bytes n (v / 256)) ∙ low_digits n v

pub little_endian-zeros : (n : ℕ) → little_endian (replicate n 0) ≡ 0
little_endian-zeros zero = refl
little_endian-zeros (suc n) = let rest = little_endian-zeros n in omega (arith, rest)

-- ---- bytes

pub little_endian-fits : (bytes : List ℕ) → IsByteList bytes → little_endian bytes < 256 ^ length bytes
little_endian-fits [] all = omega arith
little_endian-fits (x ∷ bytes) all = let rest = little_endian-fits bytes all.1 in omega (arith, pow-suc 256 (length bytes), all.0)

pub IsByteList-take : (n : ℕ) (bytes : List ℕ) → IsByteList bytes → IsByteList (take n bytes)
IsByteList-take zero bytes all = tt
IsByteList-take (suc n) [] all = tt
IsByteList-take (suc n) (x ∷ bytes) all = (all.0, IsByteList-take n bytes all.1)

pub IsByteList-drop : (n : ℕ) (bytes : List ℕ) → IsByteList bytes → IsByteList (drop n bytes)
IsByteList-drop zero bytes all = all
IsByteList-drop (suc n) [] all = tt
IsByteList-drop (suc n) (x ∷ bytes) all = IsByteList-drop n bytes all.1

pub IsByteList-append : (xs ys : List ℕ) → IsByteList xs → IsByteList ys → IsByteList (xs ++ ys)
IsByteList-append [] ys all more = more
IsByteList-append (x ∷ xs) ys all more = (all.0, IsByteList-append xs ys all.1 more)

pub IsByteList-zeros : (n : ℕ) → IsByteList (replicate n 0)
IsByteList-zeros zero = tt
IsByteList-zeros (suc n) = (omega arith, IsByteList-zeros n)

pub IsByteList-low_bytes : (n v : ℕ) → IsByteList (low_bytes n v)
unfolding low_bytes
IsByteList-low_bytes zero v = tt
IsByteList-low_bytes (suc n) v = (mod_below v 256 (omega arith), IsByteList-low_bytes n (v / 256))
