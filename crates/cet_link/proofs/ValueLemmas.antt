-- The values of symbols.
use Rattle.std.proofs.Common.{◌≡◌, ℕ, zero, suc, ◌<◌, ◌≤◌, true, false, List, [], ◌∷◌, length, get_or, map, Option, refl, sym, ap, ◌∙◌}
use Rattle.std.proofs.lemmas.Option.{slice_get_read, slice_get_past}
use Rattle.std.specs.Option.{option_map_or}
use Rattle.std.specs.List.{slice_get}
use Rattle.cet_elf.specs.declared.object.Object.{Object}
use Rattle.cet_elf.specs.declared.object.Symbol.{Symbol}
use Rattle.cet_link.specs.Inputs.{Met, met_in, symbols}
use Rattle.cet_link.specs.Names.{is_local, definition_of}
use Rattle.cet_link.specs.Values.{own_value, value_of_name, value_of, value_at}

pub value_of_name-is : (inputs : List Object) (note name : List ℕ) (found : Option Met) → found ≡ definition_of (symbols inputs) name
    → option_map_or (own_value inputs note) found 0 ≡ value_of_name inputs note name
unfolding value_of_name
value_of_name-is inputs note name found h = ap (λ f. option_map_or (own_value inputs note) f 0) h

pub value-local : (inputs : List Object) (note : List ℕ) (m : Met) → is_local m.symbol.bind ≡ true → value_of inputs note m ≡ own_value inputs note m
unfolding value_of
value-local inputs note m h = rw h refl

pub value-shared : (inputs : List Object) (note : List ℕ) (m : Met) → is_local m.symbol.bind ≡ false → value_of inputs note m ≡ value_of_name inputs note m.symbol.name
unfolding value_of
value-shared inputs note m h = rw h refl

-- the values of the symbols of an input, by their numbers
row-at : (xs : List ℕ) (k : ℕ) → get_or xs k 0 ≡ option_map_or (λ (n : ℕ). n) (slice_get xs k) 0
row-at [] k = refl
row-at (x ∷ xs) zero = refl
row-at (x ∷ xs) (suc k) = row-at xs k

valued-at : (F : Met → ℕ) (input : ℕ) (ss : List Symbol) (k : ℕ)
    → get_or (map F (met_in input ss)) k 0 ≡ option_map_or (λ (s : Symbol). F (record { input = input; symbol = s })) (slice_get ss k) 0
valued-at F input [] k = refl
valued-at F input (s ∷ ss) zero = refl
valued-at F input (s ∷ ss) (suc k) = valued-at F input ss k

abbrev valued_by : List Object → List ℕ → ℕ → ℕ → Option Object → ℕ
valued_by inputs note input k o =
    option_map_or (λ (s : Symbol). value_of inputs note (record { input = input; symbol = s })) (slice_get (option_map_or (λ (p : Object). p.symbols) o []) k) 0

pub value_at-here : (inputs : List Object) (note : List ℕ) (i : ℕ) (o : Object) → i < length inputs → o ≡ get_or inputs i o → (row : List ℕ) → row ≡ map (λ m. value_of inputs note m) (met_in i o.symbols)
    → (k : ℕ) → get_or row k 0 ≡ value_at inputs note i k
unfolding value_at
value_at-here inputs note i o lt is row h k =
    ap (λ zs. get_or zs k 0) h ∙ valued-at (λ m. value_of inputs note m) i o.symbols k ∙ ap (valued_by inputs note i k) (sym (slice_get_read inputs (length inputs) i o refl lt is))

pub value_at-past : (inputs : List Object) (note : List ℕ) (i k : ℕ) → length inputs ≤ i → value_at inputs note i k ≡ 0
unfolding value_at
value_at-past inputs note i k h = ap (valued_by inputs note i k) (slice_get_past inputs i h)
