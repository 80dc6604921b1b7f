-- A number below one limit, seen below another.
use Rattle.std.proofs.Common.{◌≡◌, ◌≢◌, ℕ, ◌^◌, ◌<◌, ◌≤◌, ◌==◌, Bool, true, false, ◌&&◌, nat_eq, nat_lt, if◌then◌else◌, List, drop, Option, Some, None, Result, Ok, Err, codes, refl, sym, ap, ◌∙◌, arith}
use Rattle.std.specs.List.{starts_with}
use Rattle.std.specs.Result.{OkIff, result_ok}
use Rattle.std.specs.Str.Parse.{digits_value}
use Rattle.std.specs.Option.{option_and_then}
use Rattle.std.proofs.lemmas.Bool.{ne_eqb}
use Rattle.std.proofs.lemmas.Bool.Decides.{nat_tests}
use Rattle.cet_schedule.specs.Number.{are_digits, digits_below, number_below}
use Rattle.cet_schedule.specs.Schedule.{count_of}

-- the number v, where it is one and below the limit
abbrev kept : Bool → ℕ → ℕ → Option ℕ
kept b v limit = if b && nat_lt v limit then Some v else None

-- whether it was kept shows in what became of it
tested : (v limit : ℕ) (t : Bool) (o : Option ℕ) → nat_lt v limit ≡ t → (if nat_lt v limit then Some v else None) ≡ o → (if t then Some v else None) ≡ o
tested v limit t o e is = ap (λ (b : Bool). if b then Some v else None) (sym e) ∙ is

some_is : (v n : ℕ) (t : Bool) → (if t then Some v else None) ≡ Some n → v ≡ n
some_is v n true is = cc
some_is v n false is = absurd cc

none_is : (v : ℕ) (t : Bool) → (if t then Some v else None) ≡ None → t ≡ false
none_is v true is = absurd cc
none_is v false is = refl

kept_below : (b : Bool) (v big small n : ℕ) → kept b v big ≡ Some n → n < small → kept b v small ≡ Some n
kept_below false v big small n is less = absurd cc
kept_below true v big small n is less =
    let same : v ≡ n = some_is v n (nat_lt v big) is in
    let inside : nat_lt v small ≡ true = grind (arith, nat_tests) in
    rw inside (ap Some same)

kept_above : (b : Bool) (v big small n : ℕ) → kept b v big ≡ Some n → small ≤ n → kept b v small ≡ None
kept_above false v big small n is more = absurd cc
kept_above true v big small n is more =
    let same : v ≡ n = some_is v n (nat_lt v big) is in
    let outside : nat_lt v small ≡ false = grind (arith, nat_tests) in
    rw outside refl

kept_none : (b : Bool) (v big small : ℕ) → small ≤ big → kept b v big ≡ None → kept b v small ≡ None
kept_none false v big small order is = refl
kept_none true v big small order is =
    let large : nat_lt v big ≡ false = none_is v (nat_lt v big) is in
    let outside : nat_lt v small ≡ false = grind (arith, nat_tests) in
    rw outside refl

-- ---- fields

abbrev reading : Bool → List ℕ → ℕ → Option ℕ
reading hexadecimal cs limit = if hexadecimal then digits_below limit 16 (drop 2 cs) else digits_below limit 10 cs

read_below : (h : Bool) (cs : List ℕ) (big small n : ℕ) → reading h cs big ≡ Some n → n < small → reading h cs small ≡ Some n
read_below true cs big small n is less = kept_below (are_digits 16 (drop 2 cs)) (digits_value 16 (drop 2 cs)) big small n is less
read_below false cs big small n is less = kept_below (are_digits 10 cs) (digits_value 10 cs) big small n is less

read_above : (h : Bool) (cs : List ℕ) (big small n : ℕ) → reading h cs big ≡ Some n → small ≤ n → reading h cs small ≡ None
read_above true cs big small n is more = kept_above (are_digits 16 (drop 2 cs)) (digits_value 16 (drop 2 cs)) big small n is more
read_above false cs big small n is more = kept_above (are_digits 10 cs) (digits_value 10 cs) big small n is more

read_none : (h : Bool) (cs : List ℕ) (big small : ℕ) → small ≤ big → reading h cs big ≡ None → reading h cs small ≡ None
read_none true cs big small order is = kept_none (are_digits 16 (drop 2 cs)) (digits_value 16 (drop 2 cs)) big small order is
read_none false cs big small order is = kept_none (are_digits 10 cs) (digits_value 10 cs) big small order is

pub number_below_less : (cs : List ℕ) (big small n : ℕ) → number_below big cs ≡ Some n → n < small → number_below small cs ≡ Some n
number_below_less cs big small n is less = read_below (starts_with nat_eq cs (codes "0x")) cs big small n is less

pub number_below_more : (cs : List ℕ) (big small n : ℕ) → number_below big cs ≡ Some n → small ≤ n → number_below small cs ≡ None
number_below_more cs big small n is more = read_above (starts_with nat_eq cs (codes "0x")) cs big small n is more

pub number_below_none : (cs : List ℕ) (big small : ℕ) → small ≤ big → number_below big cs ≡ None → number_below small cs ≡ None
number_below_none cs big small order is = read_none (starts_with nat_eq cs (codes "0x")) cs big small order is

-- a number that was tried in a field of fewer values
pub tried : {E : Type 0} (r : Result ℕ E) (cs : List ℕ) (big small n : ℕ) → number_below big cs ≡ Some n → OkIff r (n < small) n → result_ok r ≡ number_below small cs
tried (Ok x) cs big small n is try = ap Some try.1 ∙ sym (number_below_less cs big small n is try.0)
tried (Err e) cs big small n is try = sym (number_below_more cs big small n is (let more : small ≤ n = grind (arith, try) in more))

-- how many steps there are
pub counted : (cs : List ℕ) (n : ℕ) → number_below (2 ^ 32) cs ≡ Some n → n ≢ 0 → n ≤ 1000000 → Some n ≡ count_of cs
counted cs n is some few =
    let test : (n == 0) ≡ false = ne_eqb n 0 some in
    sym (ap (λ (o : Option ℕ). option_and_then (λ n. if n == 0 then None else Some n) o) (number_below_less cs (2 ^ 32) 1000001 n is (omega arith))
    ∙ ap (λ (b : Bool). if b then None else Some n) test)
