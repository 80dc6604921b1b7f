-- The symbols of the output, as they are added.
use Rattle.std.proofs.Common.{◌≡◌, ℕ, ◌+◌, ◌<◌, List, [], ◌∷◌, ◌++◌, length, get_or, take, map, filter, Option, refl, sym, ap, subst, ◌∙◌, append_assoc}
use Rattle.std.specs.List.{cons_option, filter_map}
use Rattle.std.proofs.lemmas.List.{append-nil}
use Rattle.std.proofs.lemmas.List.Elements.{filter-append}
use Rattle.cet_elf.specs.declared.object.Object.{Object}
use Rattle.cet_link.specs.declared.names.Seen.{Seen}
use Rattle.cet_link.specs.declared.names.Names.{Names}
use Rattle.cet_link.specs.Inputs.{Met, symbols_of, symbols}
use Rattle.cet_link.specs.Names.{is_local, definition_of}
use Rattle.cet_link.specs.Linked.{is_kept, locals, definitions, kept_symbols}
use Rattle.cet_link.specs.Known.{met_of, definition_in, names_in, AreNames, Keeps}
use Rattle.cet_link.proofs.ScanLemmas.{symbols-more}

pub Keeps-none : (a : List Seen) → Keeps a a []
Keeps-none a = sym (append-nil (map met_of a))

pub Keeps-more : (a b c : List Seen) (xs ys : List Met) → Keeps a b xs → Keeps b c ys → Keeps a c (xs ++ ys)
Keeps-more a b c xs ys h k =
    k ∙ ap (λ ms. ms ++ filter (λ m. is_kept m.symbol) ys) h ∙ append_assoc (map met_of a) (filter (λ m. is_kept m.symbol) xs) (filter (λ m. is_kept m.symbol) ys)
    ∙ ap (λ ms. map met_of a ++ ms) (sym (filter-append (λ m. is_kept m.symbol) xs ys))

locals-append : (xs ys : List Met) → locals (xs ++ ys) ≡ locals xs ++ locals ys
locals-append xs ys = filter-append (λ m. is_local m.symbol.bind) xs ys

-- one input more
pub Keeps-input : (a b c : List Seen) (inputs : List Object) (i : ℕ) (o : Object) → i < length inputs → o ≡ get_or inputs i o → Keeps a b (locals (symbols (take i inputs)))
    → Keeps b c (locals (symbols_of i o)) → Keeps a c (locals (symbols (take (i + 1) inputs)))
Keeps-input a b c inputs i o lt is h k =
    subst (Keeps a c) (sym (ap locals (symbols-more inputs i o lt is) ∙ locals-append (symbols (take i inputs)) (symbols_of i o))) (Keeps-more a b c (locals (symbols (take i inputs))) (locals (symbols_of i o)) h k)

-- ---- the definitions

filter_map-same : {X Y : Type 0} (f g : X → Option Y) → ((x : X) → f x ≡ g x) → (xs : List X) → filter_map f xs ≡ filter_map g xs
filter_map-same f g same [] = refl
filter_map-same f g same (x ∷ xs) = ap (λ o. cons_option o (filter_map f xs)) (same x) ∙ ap (cons_option (g x)) (filter_map-same f g same xs)

pub definitions-listed : (met : List Met) (names : Names) → AreNames met names → filter_map (definition_in names) (names_in names) ≡ definitions met
unfolding definitions
definitions-listed met names are = filter_map-same (definition_in names) (definition_of met) are.definitions (names_in names) ∙ ap (filter_map (definition_of met)) are.listed

pub kept_symbols-all : (met : List Met) (a b : List Seen) → Keeps [] a (locals met) → Keeps a b (definitions met) → map met_of b ≡ kept_symbols met
unfolding kept_symbols
kept_symbols-all met a b h k = Keeps-more [] a b (locals met) (definitions met) h k
