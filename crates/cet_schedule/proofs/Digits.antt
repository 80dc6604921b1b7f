-- Digits that are read one after another.
use Rattle.std.proofs.Common.{◌≡◌, ℕ, ◌+◌, ◌*◌, ◌<◌, true, List, length, take, get_or, nat_lt, Option, sym, ap, ◌∙◌, refl, rules}
use Rattle.std.specs.Char.{digit_value}
use Rattle.std.specs.List.{list_all}
use Rattle.std.specs.Str.Parse.{digits_value}
use Rattle.std.proofs.lemmas.Int.Digits.{digits_value_more}
use Rattle.std.proofs.lemmas.List.Folds.{list_all_more}
use Rattle.std.proofs.lemmas.Bool.Decides.{nat_tests}
use Rattle.cet_schedule.specs.Narrowed.{narrowed}

-- the digit at i is below the base too
pub digits_more : (base : ℕ) (cs : List ℕ) (i : ℕ) → i < length cs → list_all (λ d. nat_lt (digit_value d) base) (take i cs) ≡ true → digit_value (get_or cs i 0) < base
    → list_all (λ d. nat_lt (digit_value d) base) (take (i + 1) cs) ≡ true
digits_more base cs i below before small =
    list_all_more (λ d. nat_lt (digit_value d) base) cs i 0 below ∙ (let here : nat_lt (digit_value (get_or cs i 0)) base ≡ true = search (rules, nat_tests) in rw (before, here) refl)

-- the value with the digit at i behind it
pub narrowed_more : (base : ℕ) (cs : List ℕ) (i : ℕ) → i < length cs → (next : Option ℕ) → next ≡ narrowed (digits_value base (take i cs) * base + digit_value (get_or cs i 0))
    → next ≡ narrowed (digits_value base (take (i + 1) cs))
narrowed_more base cs i below next is = is ∙ ap narrowed (sym (digits_value_more base cs i below))
