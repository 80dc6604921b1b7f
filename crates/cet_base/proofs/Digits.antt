-- The digits of a number, from the last one on.
use Rattle.std.proofs.Common.{◌≡◌, ℕ, zero, suc, ◌+◌, ◌-◌, length, drop, slice_set, ◌*◌, ◌/◌, ◌%◌, ◌^◌, ◌<◌, ◌≤◌, Bool, true, false, cond, eqb, List, [], ◌∷◌, refl, sym, ap, ◌∙◌, sub-one, ◌≢◌, arith}
use Rattle.std.proofs.lemmas.Bool.{eq-eqb, ne_eqb}
use Rattle.std.proofs.lemmas.List.{drop-set}
use Rattle.std.proofs.Math.Nat.{div-lt_iff_lt-mul, pow-suc}
use Rattle.std.specs.Fmt.{digits_onto, digits, digit_glyph}

-- the digit before those that are there, and the ones before it
pub digits_turn : (k b n : ℕ) (acc : List ℕ) → 0 < k → digits_onto k b false n acc ≡ cond (eqb (n / b) 0) (digit_glyph false (n % b) ∷ acc) (digits_onto (k - 1) b false (n / b) (digit_glyph false (n % b) ∷ acc))
digits_turn zero b n acc some = elim some [ ]
digits_turn (suc k) b n acc some = rw sub-one refl

-- a digit less
pub fewer : (n k : ℕ) → n < 16 ^ k → 0 < k → n / 16 < 16 ^ (k - 1)
fewer n zero small some = elim some [ ]
fewer n (suc k) small some =
    let step : 16 ^ suc k ≡ 16 ^ k * 16 = pow-suc 16 k in
    rw sub-one ((div-lt_iff_lt-mul {k = 16} {x = n} {y = 16 ^ k} (omega arith)).1 (omega (arith, step)))

-- what a turn leaves: the digit stands before the text, and the digits before it are still to come
pub turned : (k b n g : ℕ) (text new : List ℕ) → 0 < k → g ≡ digit_glyph false (n % b) → new ≡ g ∷ text → n / b ≢ 0 → digits_onto (k - 1) b false (n / b) new ≡ digits_onto k b false n text
turned k b n g text new some is e more =
    let test : eqb (n / b) 0 ≡ false = ne_eqb (n / b) 0 more in
    let first : new ≡ digit_glyph false (n % b) ∷ text = e ∙ ap (λ (x : ℕ). x ∷ text) is in
    rw first (sym (digits_turn k b n text some ∙ ap (λ (t : Bool). cond t (digit_glyph false (n % b) ∷ text) (digits_onto (k - 1) b false (n / b) (digit_glyph false (n % b) ∷ text))) test))

pub turned_last : (k b n g : ℕ) (text new : List ℕ) → 0 < k → g ≡ digit_glyph false (n % b) → new ≡ g ∷ text → n / b ≡ 0 → new ≡ digits_onto k b false n text
turned_last k b n g text new some is e last =
    let test : eqb (n / b) 0 ≡ true = eq-eqb (n / b) 0 last in
    e ∙ (ap (λ (x : ℕ). x ∷ text) is ∙ sym (digits_turn k b n text some ∙ ap (λ (t : Bool). cond t (digit_glyph false (n % b) ∷ text) (digits_onto (k - 1) b false (n / b) (digit_glyph false (n % b) ∷ text))) test))

pub some_left : (n k : ℕ) → n ≢ 0 → n < 16 ^ k → 0 < k
some_left n zero some small = absurd (some (omega (arith, small)))
some_left n (suc k) some small = omega arith

pub digits_start : (n : ℕ) (acc : List ℕ) → acc ≡ [] → digits_onto 64 16 false n acc ≡ digits 16 false n
unfolding digits
digits_start n acc none = ap (λ (x : List ℕ). digits_onto 64 16 false n x) none

-- a glyph written before the ones that are there
pub written : (glyphs : List ℕ) (start g : ℕ) → 0 < start → start ≤ length glyphs → drop (start - 1) (slice_set glyphs (start - 1) g) ≡ g ∷ drop start glyphs
written glyphs start g some most =
    let next : start - 1 + 1 ≡ start = omega arith in
    drop-set glyphs (start - 1) g (omega arith) ∙ ap (λ (n : ℕ). g ∷ drop n glyphs) next
