-- The faults of a link: those of notes come first, and those of inputs whose notes were read are of none.
use Rattle.std.proofs.Common.{◌≡◌, ℕ, ◌+◌, Bool, true, false, List, [], ◌∷◌, ◌++◌, Option, Some, None, refl, subst}
use Rattle.std.specs.Prelude.{◌≢◌}
use Rattle.std.specs.List.{flat_map, find}
use Rattle.cet_elf.specs.declared.object.Object.{Object}
use Rattle.cet_link.specs.declared.error.LinkError.{LinkError}
use Rattle.cet_link.specs.declared.error.LinkError.TheVariants as errors
use Rattle.cet_link.specs.First.{first, where_true}
use Rattle.cet_link.specs.Inputs.{Met, symbols_of, symbols, parts}
use Rattle.cet_link.specs.Names.{is_global_definition, is_common, defines_global}
use Rattle.cet_link.specs.Faults.{undefined_fault, undefined_faults, entry_faults, size_faults, overflow_fault, group_faults, common_faults, duplicate_fault, duplicate_faults, symbol_faults, input_faults, faults}
use Rattle.cet_verbs.specs.Links.{IsOfLink}

-- every fault of the list is of the link
abbrev pub Each : List LinkError → Type 0
Each [] = Unit {0}
Each (e ∷ others) = IsOfLink e × Each others

join : (a b : List LinkError) → Each a → Each b → Each (a ++ b)
join [] b x y = y
join (e ∷ a) b x y = (x.0, join a b x.1 y)

where_each : (test : Bool) (e : LinkError) → IsOfLink e → Each (where_true test e)
where_each true e is = (is, tt)
where_each false e is = tt

flat_each : {A : Type 0} (f : A → List LinkError) (xs : List A) → ((x : A) → Each (f x)) → Each (flat_map f xs)
flat_each f [] each = tt
flat_each f (x ∷ xs) each = join (f x) (flat_map f xs) (each x) (flat_each f xs each)

duplicate_each : (d : Option Met) (m : Met) (test : Bool) → is_global_definition m.symbol ≡ test → Each (duplicate_fault d m)
duplicate_each None m true is = rw is tt
duplicate_each None m false is = rw is tt
duplicate_each (Some d) m true is = rw is (tt, tt)
duplicate_each (Some d) m false is = rw is tt

symbols_each : (before met : List Met) → Each (symbol_faults before met)
symbols_each before [] = tt
symbols_each before (m ∷ others) =
    join (common_faults m ++ duplicate_faults before m) (symbol_faults (before ++ m ∷ []) others)
    (join (common_faults m) (duplicate_faults before m) (where_each (is_common m.symbol.place) _ tt) (duplicate_each (find (defines_global m.symbol.name) before) m (is_global_definition m.symbol) refl))
    (symbols_each (before ++ m ∷ []) others)

inputs_each : (before : List Met) (input : ℕ) (inputs : List Object) → Each (input_faults before input inputs)
inputs_each before input [] = tt
inputs_each before input (o ∷ others) =
    join (group_faults input o ++ symbol_faults before (symbols_of input o)) (input_faults (before ++ symbols_of input o) (input + 1) others)
    (join (group_faults input o) (symbol_faults before (symbols_of input o)) (where_each _ _ tt) (symbols_each before (symbols_of input o)))
    (inputs_each (before ++ symbols_of input o) (input + 1) others)

all_each : (inputs : List Object) (entry note : List ℕ) → Each (faults inputs entry note)
unfolding faults
all_each inputs entry note =
    join (input_faults [] 0 inputs) _ (inputs_each [] 0 inputs)
    (join (undefined_faults (symbols inputs) (symbols inputs)) _ (flat_each (undefined_fault (symbols inputs)) (symbols inputs) (λ m. where_each _ _ tt))
    (join (entry_faults (symbols inputs) entry) _ (where_each _ _ tt)
    (join (size_faults inputs note) _ (where_each _ _ tt)
    (flat_each (λ p. flat_map (overflow_fault inputs note p) p.section.relocations) (parts inputs) (λ p. flat_each (overflow_fault inputs note p) p.section.relocations (λ r. where_each _ _ tt))))))

first_each : (es : List LinkError) (e : LinkError) → Each es → first es ≡ Some e → IsOfLink e
first_each [] e each is = absurd cc
first_each (x ∷ es) e each is = let same : x ≡ e = cc is in subst IsOfLink same each.0

-- a fault of inputs whose notes were read is of the link
pub later_fault : (inputs : List Object) (entry note : List ℕ) (e : LinkError) → first (faults inputs entry note) ≡ Some e → IsOfLink e
later_fault inputs entry note e is = first_each (faults inputs entry note) e (all_each inputs entry note) is

-- and a fault of the link is not want of memory
pub of_link_known : (e : LinkError) → IsOfLink e → e ≢ errors.NoMemory
of_link_known e of_link same = subst IsOfLink same of_link
