-- Undefined symbols, symbol by symbol and input by input.
use Rattle.std.proofs.Common.{◌≡◌, ℕ, ◌+◌, ◌<◌, List, [], ◌∷◌, ◌++◌, length, get_or, take, refl, sym, ap, subst, ◌∙◌}
use Rattle.std.specs.List.{flat_map, enumerate_from}
use Rattle.std.proofs.lemmas.Grind.{flat_map-append}
use Rattle.cet_elf.specs.declared.object.Object.{Object}
use Rattle.cet_elf.specs.declared.object.Symbol.{Symbol}
use Rattle.cet_link.specs.declared.error.LinkError.{LinkError}
use Rattle.cet_link.specs.First.{IsFirst}
use Rattle.cet_link.specs.Inputs.{Met, met_in, symbols_of, symbols}
use Rattle.cet_link.proofs.LoopLemmas.{flat_none, flat_first, each_none, each_first}

-- what symbols give, where they stand with the number of their input
pub flat_map-met : {Y : Type 0} (f : Met → List Y) (input : ℕ) (ss : List Symbol) → flat_map f (met_in input ss) ≡ flat_map (λ s. f (record { input = input; symbol = s })) ss
flat_map-met f input [] = refl
flat_map-met f input (s ∷ ss) = ap (λ ys. f (record { input = input; symbol = s }) ++ ys) (flat_map-met f input ss)

pub flat_map-flat : {X Y Z : Type 0} (f : Y → List Z) (g : X → List Y) (xs : List X) → flat_map f (flat_map g xs) ≡ flat_map (λ x. flat_map f (g x)) xs
flat_map-flat f g [] = refl
flat_map-flat f g (x ∷ xs) = flat_map-append f (g x) (flat_map g xs) ∙ ap (λ ys. flat_map f (g x) ++ ys) (flat_map-flat f g xs)

pub flat_map-symbols : {Y : Type 0} (f : Met → List Y) (inputs : List Object) → flat_map f (symbols inputs) ≡ flat_map (λ i. flat_map f (symbols_of i.0 i.1)) (enumerate_from 0 inputs)
unfolding symbols
flat_map-symbols f inputs = flat_map-flat f (λ i. symbols_of i.0 i.1) (enumerate_from 0 inputs)

-- ---- faults of symbols

pub met_none : (f : Met → List LinkError) (input : ℕ) (ss : List Symbol) (i : ℕ) (s : Symbol) → i < length ss → s ≡ get_or ss i s → flat_map f (met_in input (take i ss)) ≡ []
    → f (record { input = input; symbol = s }) ≡ [] → flat_map f (met_in input (take (i + 1) ss)) ≡ []
met_none f input ss i s lt is none one =
    flat_map-met f input (take (i + 1) ss) ∙ flat_none (λ x. f (record { input = input; symbol = x })) ss i s lt is (sym (flat_map-met f input (take i ss)) ∙ none) one

pub met_first : (e : LinkError) (f : Met → List LinkError) (input : ℕ) (ss : List Symbol) (i : ℕ) (s : Symbol) → i < length ss → s ≡ get_or ss i s → flat_map f (met_in input (take i ss)) ≡ []
    → IsFirst e (f (record { input = input; symbol = s })) → IsFirst e (flat_map f (met_in input ss))
met_first e f input ss i s lt is none one =
    subst (IsFirst e) (sym (flat_map-met f input ss)) (flat_first e (λ x. f (record { input = input; symbol = x })) ss i s lt is (sym (flat_map-met f input (take i ss)) ∙ none) one)

pub symbols_none : (f : Met → List LinkError) (inputs : List Object) (i : ℕ) (o : Object) → i < length inputs → o ≡ get_or inputs i o → flat_map f (symbols (take i inputs)) ≡ []
    → flat_map f (symbols_of i o) ≡ [] → flat_map f (symbols (take (i + 1) inputs)) ≡ []
symbols_none f inputs i o lt is none one =
    flat_map-symbols f (take (i + 1) inputs) ∙ each_none (λ k. flat_map f (symbols_of k.0 k.1)) inputs i o lt is (sym (flat_map-symbols f (take i inputs)) ∙ none) one

pub symbols_first : (e : LinkError) (f : Met → List LinkError) (inputs : List Object) (i : ℕ) (o : Object) → i < length inputs → o ≡ get_or inputs i o → flat_map f (symbols (take i inputs)) ≡ []
    → IsFirst e (flat_map f (symbols_of i o)) → IsFirst e (flat_map f (symbols inputs))
symbols_first e f inputs i o lt is none one =
    subst (IsFirst e) (sym (flat_map-symbols f inputs)) (each_first e (λ k. flat_map f (symbols_of k.0 k.1)) inputs i o lt is (sym (flat_map-symbols f (take i inputs)) ∙ none) one)
