-- The lowest bit that is 1, and the first number of a list that passes a test.
use Rattle.std.proofs.Common.{◌≡◌, ◌≢◌, ℕ, zero, suc, ◌+◌, ◌-◌, ◌/◌, ◌%◌, ◌^◌, ◌<◌, ◌≤◌, ◌⊎◌, inl, inr, Bool, true, false, cond, Some, None, refl, sym, ap, ◌∙◌, arith}
use Rattle.std.specs.Prelude.{◌==◌, find}
use Rattle.std.specs.Int.{w64, trailing_zeros}
use Rattle.std.proofs.Math.Nat.{div-eq_of_lt}
use Rattle.std.proofs.Math.Pow.{pow_mono}
use Rattle.std.proofs.lemmas.Bool.{cases_lt}
use Rattle.std.proofs.lemmas.Nat.{shr-shr}
use Rattle.std.proofs.lemmas.Nat.Bits.{bit_at-zero, bit_at-trailing_zeros}
use Rattle.cet_machine.specs.Arithmetic.{bit}
use Rattle.cet_process.specs.Chosen.{numbers}
use Rattle.cet_choosers.specs.Lowest.{Lowest}

-- ---- bits

bit_shifted : (n a i : ℕ) → bit (n / 2 ^ a) i ≡ bit n (a + i)
bit_shifted n a i = ap (λ (x : ℕ). x % 2 == 1) (shr-shr n a i)

bit_of_zero : (i : ℕ) → bit 0 i ≡ false
bit_of_zero i = ap (λ (x : ℕ). x == 1) (bit_at-zero i)

-- the bits above a bound are 0
pub bit_above : (n k i : ℕ) → n < 2 ^ k → k ≤ i → bit n i ≡ false
bit_above n k i small above =
    let bound : n < 2 ^ i = omega (arith, pow_mono above) in
    ap (λ (x : ℕ). x % 2 == 1) (div-eq_of_lt bound)

-- so a bit that is 1 is below it
pub bit_below : (n k i : ℕ) → n < 2 ^ k → bit n i ≡ true → i < k
bit_below n k i small set = grind (arith, bit_above n k i)

-- ---- the lowest one

pub none_high : (n from : ℕ) → n < 2 ^ 64 → 64 ≤ from → Lowest n from None
none_high n from small high = λ i above. bit_above n 64 i small (omega arith)

at_shift : (n from i : ℕ) → from ≤ i → bit n i ≡ bit (n / 2 ^ from) (i - from)
at_shift n from i above = let e : from + (i - from) ≡ i = omega arith in sym (bit_shifted n from (i - from) ∙ ap (bit n) e)

pub none_shifted : (n from : ℕ) → n / 2 ^ from ≡ 0 → Lowest n from None
none_shifted n from e = λ i above. at_shift n from i above ∙ ap (λ (x : ℕ). bit x (i - from)) e ∙ bit_of_zero (i - from)

pub lowest_shifted : (n from : ℕ) → n < 2 ^ 64 → n / 2 ^ from ≢ 0 → Lowest n from (Some (from + trailing_zeros w64 (n / 2 ^ from)))
lowest_shifted n from small some =
    let m : ℕ = n / 2 ^ from in
    let fits : m < 2 ^ 64 = omega arith in
    let h = bit_at-trailing_zeros w64 m (omega arith) fits in (
      omega arith,
      sym (bit_shifted n from (trailing_zeros w64 m)) ∙ ap (λ (x : ℕ). x == 1) h.1,
      λ i above below. at_shift n from i above ∙ ap (λ (x : ℕ). x == 1) (h.2 (i - from) (omega arith)),
    )

-- ---- the first number that passes a test

pub find_none : (p : ℕ → Bool) (k n : ℕ) → ((i : ℕ) → k ≤ i → i < k + n → p i ≡ false) → find p (numbers k n) ≡ None
find_none p k zero h = refl
find_none p k (suc n) h =
    ap (λ (b : Bool). cond b (Some k) (find p (numbers (k + 1) n))) (h k (omega arith) (omega arith)) ∙ find_none p (k + 1) n (λ i above below. h i (omega arith) (omega arith))

first_step : (p : ℕ → Bool) (k n t : ℕ) → (k < t) ⊎ (t ≤ k) → k ≤ t → p t ≡ true → ((i : ℕ) → k ≤ i → i < t → p i ≡ false) → (k < t → find p (numbers (k + 1) n) ≡ Some t)
    → find p (numbers k (suc n)) ≡ Some t
first_step p k n t (inl less) above here h later = ap (λ (b : Bool). cond b (Some k) (find p (numbers (k + 1) n))) (h k (omega arith) less) ∙ later less
first_step p k n t (inr more) above here h later =
    let same : k ≡ t = omega arith in
    ap (λ (b : Bool). cond b (Some k) (find p (numbers (k + 1) n))) (ap p same ∙ here) ∙ ap (λ (x : ℕ). Some x) same

pub find_first : (p : ℕ → Bool) (k n t : ℕ) → k ≤ t → t < k + n → p t ≡ true → ((i : ℕ) → k ≤ i → i < t → p i ≡ false) → find p (numbers k n) ≡ Some t
find_first p k zero t above below here h = absurd (omega arith)
find_first p k (suc n) t above below here h =
    first_step p k n t (cases_lt k t) above here h (λ less. find_first p (k + 1) n t (omega arith) (omega arith) here (λ i more under. h i (omega arith) under))
