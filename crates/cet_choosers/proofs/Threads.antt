-- The next living thread, by bits.
use Rattle.std.specs.Prelude.{nat_lt}
use Rattle.std.specs.Int.{bit_at}
use Rattle.std.proofs.Common.{◌≡◌, ℕ, zero, suc, ◌/◌, ◌%◌, ◌^◌, ◌<◌, ◌≤◌, ◌==◌, Bool, true, false, ◌&&◌, ◌⊎◌, inl, inr, Option, Some, None, refl, sym, ap, ◌∙◌, arith}
use Rattle.std.proofs.lemmas.Bool.{cases_lt}
use Rattle.std.proofs.lemmas.Bool.Decides.{nat_tests}
use Rattle.std.proofs.lemmas.Nat.{pow_pos, shr_split}
use Rattle.std.proofs.lemmas.Nat.Bits.{bit_at_cat_low}
use Rattle.std.proofs.Math.Nat.{mod-lt}
use Rattle.cet_machine.specs.Arithmetic.{bit}
use Rattle.cet_process.specs.declared.view.View.{View}
use Rattle.cet_process.specs.Chosen.{least_living, or_else, next_living}
use Rattle.cet_choosers.specs.Lowest.{Lowest}
use Rattle.cet_choosers.specs.Plans.{below}
use Rattle.cet_choosers.proofs.Bits.{bit_below, find_none, find_first}

and_false : (a : Bool) → (a && false) ≡ false
and_false true = refl
and_false false = refl

skipped : (live : ℕ) (test : ℕ → Bool) (i : ℕ) → test i ≡ false → (bit live i && test i) ≡ false
skipped live test i e = ap (λ (b : Bool). bit live i && b) e ∙ and_false (bit live i)

clear : (live : ℕ) (test : ℕ → Bool) (i : ℕ) → bit live i ≡ false → (bit live i && test i) ≡ false
clear live test i e = ap (λ (b : Bool). b && test i) e

-- a test that is true from this number on, and false below it
pub record IsFrom (test : ℕ → Bool) (from : ℕ) : Type 0 where
  pub on : (i : ℕ) → from ≤ i → test i ≡ true
  pub off : (i : ℕ) → i < from → test i ≡ false

passed : (live : ℕ) (test : ℕ → Bool) (from : ℕ) → IsFrom test from → ((i : ℕ) → from ≤ i → bit live i ≡ false) → (i : ℕ) → (bit live i && test i) ≡ false
passed live test from is none i = by_order (cases_lt i from)
  where
    by_order : (i < from) ⊎ (from ≤ i) → (bit live i && test i) ≡ false
    by_order (inl less) = skipped live test i (is.off i less)
    by_order (inr more) = clear live test i (none i more)

passed_below : (live : ℕ) (test : ℕ → Bool) (from t : ℕ) → IsFrom test from → ((i : ℕ) → from ≤ i → i < t → bit live i ≡ false) → (i : ℕ) → i < t → (bit live i && test i) ≡ false
passed_below live test from t is none i under = by_order (cases_lt i from)
  where
    by_order : (i < from) ⊎ (from ≤ i) → (bit live i && test i) ≡ false
    by_order (inl less) = skipped live test i (is.off i less)
    by_order (inr more) = clear live test i (none i more under)

-- the bits of those that were made
pub record AreLiving (v : View) (bits : ℕ) : Type 0 where
  pub fits : bits < 2 ^ v.threads
  pub same : (i : ℕ) → i < v.threads → bit bits i ≡ bit v.live i

-- a bit of them and a test
alike : (v : View) (bits : ℕ) (test : ℕ → Bool) (b : Bool) (i : ℕ) → AreLiving v bits → i < v.threads → (bit bits i && test i) ≡ b → (bit v.live i && test i) ≡ b
alike v bits test b i are within h = ap (λ (l : Bool). l && test i) (sym (are.same i within)) ∙ h

least : (v : View) (bits : ℕ) (test : ℕ → Bool) (from : ℕ) (r : Option ℕ) → AreLiving v bits → IsFrom test from → Lowest bits from r → least_living v test ≡ r
least v bits test from None are is h =
    find_none (λ t. bit v.live t && test t) 0 v.threads (λ i _ under. alike v bits test false i are (omega arith) (passed bits test from is h i))
least v bits test from (Some t) are is h =
    let within : t < v.threads = bit_below bits v.threads t are.fits h.1 in
    let both : (bit bits t && test t) ≡ true = ap (λ (b : Bool). b && test t) h.1 ∙ is.on t h.0 in
    find_first (λ t. bit v.live t && test t) 0 v.threads t (omega arith) (omega arith) (alike v bits test true t are within both)
    (λ i _ under. alike v bits test false i are (omega arith) (passed_below bits test from t is h.2 i under))

-- the bits below the number of threads are theirs
pub living_bits : (v : View) (bits : ℕ) → bits ≡ v.live % 2 ^ v.threads → AreLiving v bits
living_bits v bits e = record {
  fits = (let some : 0 < 2 ^ v.threads = pow_pos v.threads in let less : v.live % 2 ^ v.threads < 2 ^ v.threads = mod-lt v.live some in omega arith);
  same = λ i within. ap (λ (n : ℕ). bit n i) e ∙ ap (λ (x : ℕ). x == 1) (sym (bit_at_cat_low (v.live / 2 ^ v.threads) v.threads (v.live % 2 ^ v.threads) i within)
      ∙ ap (λ (n : ℕ). bit_at n i) (shr_split v.live v.threads));
}

any : IsFrom (λ t. true) 0
any = record { on = λ i _. refl; off = λ i under. absurd (omega arith) }

above : (last : ℕ) → IsFrom (λ t. nat_lt last t) (suc last)
above last = record { on = λ i more. grind (arith, nat_tests); off = λ i under. grind (arith, nat_tests) }

pub found : (v : View) (bits from t : ℕ) → AreLiving v bits → Lowest bits from (Some t) → next_living v (below from) ≡ Some t
found v bits zero t fits h = least v bits (λ t. true) 0 (Some t) fits any h
found v bits (suc last) t fits h = ap (λ (o : Option ℕ). or_else o (least_living v (λ t. true))) (least v bits (λ t. nat_lt last t) (suc last) (Some t) fits (above last) h)

pub turned : (v : View) (bits from : ℕ) (r : Option ℕ) → AreLiving v bits → Lowest bits from None → Lowest bits 0 r → next_living v (below from) ≡ r
turned v bits zero r fits none h = least v bits (λ t. true) 0 r fits any h
turned v bits (suc last) r fits none h =
    ap (λ (o : Option ℕ). or_else o (least_living v (λ t. true))) (least v bits (λ t. nat_lt last t) (suc last) None fits (above last) none) ∙ least v bits (λ t. true) 0 r fits any h
