-- Relocations that do not fit, section by section and input by input.
use Rattle.std.proofs.Common.{◌≡◌, ℕ, ◌+◌, ◌<◌, ◌≤◌, List, [], ◌∷◌, ◌++◌, length, get_or, take, All, map, refl, sym, ap, subst, ◌∙◌}
use Rattle.std.specs.List.{flat_map, enumerate_from}
use Rattle.std.proofs.lemmas.List.Elements.{All-get_or}
use Rattle.cet_elf.specs.Consistent.{IsConsistent}
use Rattle.cet_elf.specs.declared.object.Object.{Object}
use Rattle.cet_elf.specs.declared.object.Section.{Section}
use Rattle.cet_link.specs.declared.error.LinkError.{LinkError}
use Rattle.cet_link.specs.First.{IsFirst}
use Rattle.cet_link.specs.Inputs.{Part, parts_in, parts_of, parts}
use Rattle.cet_link.proofs.LoopLemmas.{each_none, each_first}
use Rattle.cet_link.proofs.UndefinedLemmas.{flat_map-flat}

flat_map-map : {X Y Z : Type 0} (f : Y → List Z) (g : X → Y) (xs : List X) → flat_map f (map g xs) ≡ flat_map (λ x. f (g x)) xs
flat_map-map f g [] = refl
flat_map-map f g (x ∷ xs) = ap (λ ys. f (g x) ++ ys) (flat_map-map f g xs)

abbrev part : ℕ → ℕ × Section → Part
part input i = record { input = input; number = i.0; section = i.1 }

-- what the sections of an input give
sections_each : (f : Part → List LinkError) (input : ℕ) (ss : List Section) → flat_map f (parts_in input ss) ≡ flat_map (λ i. f (part input i)) (enumerate_from 0 ss)
sections_each f input ss = flat_map-map f (part input) (enumerate_from 0 ss)

pub sections_none : (f : Part → List LinkError) (input : ℕ) (ss : List Section) (i : ℕ) (s : Section) → i < length ss → s ≡ get_or ss i s → flat_map f (parts_in input (take i ss)) ≡ []
    → f (record { input = input; number = i; section = s }) ≡ [] → flat_map f (parts_in input (take (i + 1) ss)) ≡ []
sections_none f input ss i s lt is none one =
    sections_each f input (take (i + 1) ss) ∙ each_none (λ k. f (part input k)) ss i s lt is (sym (sections_each f input (take i ss)) ∙ none) one

pub sections_first : (e : LinkError) (f : Part → List LinkError) (input : ℕ) (ss : List Section) (i : ℕ) (s : Section) → i < length ss → s ≡ get_or ss i s → flat_map f (parts_in input (take i ss)) ≡ []
    → IsFirst e (f (record { input = input; number = i; section = s })) → IsFirst e (flat_map f (parts_in input ss))
sections_first e f input ss i s lt is none one =
    subst (IsFirst e) (sym (sections_each f input ss)) (each_first e (λ k. f (part input k)) ss i s lt is (sym (sections_each f input (take i ss)) ∙ none) one)

-- what the sections of all inputs give
parts_each : (f : Part → List LinkError) (inputs : List Object) → flat_map f (parts inputs) ≡ flat_map (λ i. flat_map f (parts_of i.0 i.1)) (enumerate_from 0 inputs)
unfolding parts
parts_each f inputs = flat_map-flat f (λ i. parts_of i.0 i.1) (enumerate_from 0 inputs)

pub parts-none : parts [] ≡ []
unfolding parts
parts-none = refl

pub parts_none : (f : Part → List LinkError) (inputs : List Object) (i : ℕ) (o : Object) → i < length inputs → o ≡ get_or inputs i o → flat_map f (parts (take i inputs)) ≡ []
    → flat_map f (parts_of i o) ≡ [] → flat_map f (parts (take (i + 1) inputs)) ≡ []
parts_none f inputs i o lt is none one =
    parts_each f (take (i + 1) inputs) ∙ each_none (λ k. flat_map f (parts_of k.0 k.1)) inputs i o lt is (sym (parts_each f (take i inputs)) ∙ none) one

pub parts_first : (e : LinkError) (f : Part → List LinkError) (inputs : List Object) (i : ℕ) (o : Object) → i < length inputs → o ≡ get_or inputs i o → flat_map f (parts (take i inputs)) ≡ []
    → IsFirst e (flat_map f (parts_of i o)) → IsFirst e (flat_map f (parts inputs))
parts_first e f inputs i o lt is none one =
    subst (IsFirst e) (sym (parts_each f inputs)) (each_first e (λ k. flat_map f (parts_of k.0 k.1)) inputs i o lt is (sym (parts_each f (take i inputs)) ∙ none) one)

-- a consistent input has at most 4,096 sections
pub few_sections : (inputs : List Object) (i : ℕ) (o : Object) → i < length inputs → o ≡ get_or inputs i o → All IsConsistent inputs → length o.sections ≤ 4096
few_sections inputs i o lt is all = let here : IsConsistent o = subst IsConsistent (sym is) (All-get_or IsConsistent inputs i o lt all) in here.limits.sections
