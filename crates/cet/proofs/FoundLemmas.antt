-- From what a getter gives to what the command finds in the words.
use Rattle.std.proofs.Common.{◌≡◌, ◌∙◌, ℕ, ◌<◌, ◌^◌, List, [], Option, Some, None, String, length, sym, ap, subst}
use Rattle.std.specs.Prelude.{slice_get}
use Rattle.std.specs.Global.{Global}
use Rattle.std.specs.String.{string_bytes}
use Rattle.std.proofs.lemmas.List.{length-map}
use Rattle.clap.specs.Words.{App, Row, Text, first_of, all_of, one_of, matches_of, fault_of}
use Rattle.cet.specs.Command.{texts}
use Rattle.cet.specs.Words.{AreTaken, IsNumber, IsNumberIn, IsPlain, value_in, values_in}

pub taken_by : (app made : App) (words : List (String Global)) → made ≡ app → length words < 2 ^ 32 → slice_get (texts words) 0 ≡ Some app.top.name
    → fault_of made (texts words) ≡ [] → AreTaken app (texts words)
taken_by app made words is few verb taken =
    (rw (length-map words string_bytes) few, verb, subst (λ (a : App). fault_of a (texts words) ≡ []) is taken)

pub value_found : (app made : App) (words : List Text) (rows : List Row) (id : Text) (value : Option Text) → made ≡ app → rows ≡ matches_of made words
    → value ≡ first_of id rows → value_in app words id ≡ value
value_found app made words rows id value is found got = sym (got ∙ ap (first_of id) (found ∙ ap (λ (a : App). matches_of a words) is))

pub values_found : (app made : App) (words : List Text) (rows : List Row) (id : Text) (values : Option (List Text)) → made ≡ app → rows ≡ matches_of made words
    → all_of id rows ≡ values → values_in app words id ≡ values
values_found app made words rows id values is found got = sym (ap (all_of id) (found ∙ ap (λ (a : App). matches_of a words) is)) ∙ got

pub values_given : (app made : App) (words : List Text) (rows : List Row) (id : Text) (values : List Text) → made ≡ app → rows ≡ matches_of made words
    → values_in app words id ≡ Some values → all_of id rows ≡ None → ⊥
values_given app made words rows id values is found given none =
    some_is_none values (sym given ∙ sym (ap (all_of id) (found ∙ ap (λ (a : App). matches_of a words) is)) ∙ none)
  where
    some_is_none : (xs : List Text) → Some xs ≡ None → ⊥
    some_is_none xs same = absurd cc

pub number_found : (app made : App) (words : List Text) (rows : List Row) (id : Text) (n : ℕ) → made ≡ app → rows ≡ matches_of made words
    → IsNumber (one_of id rows) n → IsNumberIn app words id n
number_found app made words rows id n is found got =
    subst (λ (rs : List Row). IsNumber (one_of id rs) n) (found ∙ ap (λ (a : App). matches_of a words) is) got

pub number_given : (app made : App) (words : List Text) (rows : List Row) (id : Text) (n : ℕ) → made ≡ app → rows ≡ matches_of made words
    → IsNumberIn app words id n → IsNumber (one_of id rows) n
number_given app made words rows id n is found given =
    subst (λ (rs : List Row). IsNumber (one_of id rs) n) (sym (found ∙ ap (λ (a : App). matches_of a words) is)) given

pub plain_found : (app made : App) (words : List Text) (rows : List Row) (id : Text) → made ≡ app → rows ≡ matches_of made words
    → IsPlain (first_of id rows) → IsPlain (value_in app words id)
plain_found app made words rows id is found plain =
    subst (λ (rs : List Row). IsPlain (first_of id rs)) (found ∙ ap (λ (a : App). matches_of a words) is) plain

pub plain_given : (app made : App) (words : List Text) (rows : List Row) (id : Text) → made ≡ app → rows ≡ matches_of made words
    → IsPlain (value_in app words id) → IsPlain (first_of id rows)
plain_given app made words rows id is found plain =
    subst (λ (rs : List Row). IsPlain (first_of id rs)) (sym (found ∙ ap (λ (a : App). matches_of a words) is)) plain
