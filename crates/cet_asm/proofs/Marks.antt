-- What one statement more says of names.
use Rattle.std.proofs.Common.{◌≡◌, ℕ, Bool, true, false, cond, ◌||◌, ◌&&◌, List, [], ◌∷◌, ◌++◌, map, refl, sym, ◌∙◌, ap, append_assoc, Option, Some, None}
use Rattle.std.specs.Option.{option_or, option_map}
use Rattle.std.specs.List.{list_any}
use Rattle.std.specs.Str.{bytes_eq}
use Rattle.std.proofs.lemmas.List.{map-append, append-nil}
use Rattle.std.proofs.lemmas.List.Folds.{list_any-append}
use Rattle.cet_syntax.specs.declared.statement.SectionName.{SectionName}
use Rattle.cet_syntax.specs.declared.statement.Directive.TheVariants as directive
use Rattle.cet_syntax.specs.declared.statement.Statement.TheVariants as statement
use Rattle.cet_asm.specs.declared.placed.Placed.{Placed}
use Rattle.cet_asm.specs.declared.placed.Spot.{Spot}
use Rattle.cet_asm.specs.declared.placed.Step.{Step}
use Rattle.cet_asm.specs.declared.placed.Step.TheVariants.{Label, States}
use Rattle.cet_asm.specs.declared.names.Target.{Target}
use Rattle.cet_asm.specs.declared.definition.Definition.{Definition}
use Rattle.cet_asm.specs.Assembled.{same_section, is_among, defined_by, definitions, targets_in, is_label}
use Rattle.cet_asm.specs.Placing.{mark_of, mark_at, marked_names, place_after, names_defined, IsPlaceOf}
use Rattle.cet_asm.proofs.Once.{is_among-append}

names_at : (line : ℕ) (spot : Spot) (step : Step) (later : List Placed) → map (λ d. d.name) (defined_by (record { line = line; step = step; spot = spot }) later) ≡ marked_names (mark_of spot.section spot.offset step)
names_at line spot (Label name) later = refl
names_at line spot (States (statement.Directive (directive.Func name))) later = refl
names_at line spot (States (statement.Directive (directive.Object name size))) later = refl
names_at line spot (States (statement.Directive d)) later = refl
names_at line spot (States other) later = refl

names_defined-none : (p : Placed) → map (λ (d : Definition). d.name) (defined_by p [] ++ []) ≡ marked_names (mark_at p)
names_defined-none p = map-append (λ (d : Definition). d.name) (defined_by p []) [] ∙ append-nil _ ∙ names_at p.line p.spot p.step []

-- the names of one statement more
pub names_defined-one : (before : List Placed) (p : Placed) → names_defined (before ++ p ∷ []) ≡ names_defined before ++ marked_names (mark_at p)
names_defined-one [] p = names_defined-none p
names_defined-one (b ∷ before) p =
    map-append (λ (d : Definition). d.name) (defined_by b (before ++ p ∷ [])) (definitions (before ++ p ∷ []))
    ∙ ap (λ xs. xs ++ names_defined (before ++ p ∷ [])) (names_at b.line b.spot b.step (before ++ p ∷ []) ∙ sym (names_at b.line b.spot b.step before))
    ∙ ap (λ xs. map (λ d. d.name) (defined_by b before) ++ xs) (names_defined-one before p)
    ∙ sym (append_assoc (map (λ d. d.name) (defined_by b before)) (names_defined before) (marked_names (mark_at p)))
    ∙ ap (λ xs. xs ++ marked_names (mark_at p)) (sym (map-append (λ (d : Definition). d.name) (defined_by b before) (definitions before)))

-- the place in a section that a statement gives to a name
abbrev marked_target : SectionName → List ℕ → Option (List ℕ × Target) → Option ℕ
marked_target section name None = None
marked_target section name (Some m) = cond (same_section m.1.section section && bytes_eq m.0 name) (Some m.1.value) None

first_target : (b : Bool) (d : Definition) (rest : Option Definition) → option_map (λ e. e.value) (cond b (Some d) rest) ≡ option_or (cond b (Some d.value) None) (option_map (λ (e : Definition). e.value) rest)
first_target true d rest = refl
first_target false d rest = refl

target_at : (line : ℕ) (spot : Spot) (step : Step) (later : List Placed) (rest : List Definition) (section : SectionName) (name : List ℕ) → targets_in (defined_by (record { line = line; step = step; spot = spot }) later ++ rest) section name ≡ option_or (marked_target section name (mark_of spot.section spot.offset step)) (targets_in rest section name)
target_at line spot (Label other) later rest section name = first_target _ _ _
target_at line spot (States (statement.Directive (directive.Func other))) later rest section name = first_target _ _ _
target_at line spot (States (statement.Directive (directive.Object other size))) later rest section name = first_target _ _ _
target_at line spot (States (statement.Directive d)) later rest section name = refl
target_at line spot (States other) later rest section name = refl

option_or-assoc : {A : Type 0} (a b c : Option A) → option_or a (option_or b c) ≡ option_or (option_or a b) c
option_or-assoc None b c = refl
option_or-assoc (Some x) b c = refl

option_or-none : {A : Type 0} (a : Option A) → option_or a None ≡ a
option_or-none None = refl
option_or-none (Some x) = refl

pub targets_in-one : (before : List Placed) (p : Placed) (section : SectionName) (name : List ℕ) → targets_in (definitions (before ++ p ∷ [])) section name ≡ option_or (targets_in (definitions before) section name) (marked_target section name (mark_at p))
targets_in-one [] p section name = target_at p.line p.spot p.step [] [] section name ∙ option_or-none _
targets_in-one (b ∷ before) p section name =
    target_at b.line b.spot b.step (before ++ p ∷ []) (definitions (before ++ p ∷ [])) section name
    ∙ ap (option_or (marked_target section name (mark_at b))) (targets_in-one before p section name)
    ∙ option_or-assoc (marked_target section name (mark_at b)) (targets_in (definitions before) section name) (marked_target section name (mark_at p))
    ∙ ap (λ t. option_or t (marked_target section name (mark_at p))) (sym (target_at b.line b.spot b.step before (definitions before) section name))

abbrev marked_label : SectionName → List ℕ → Option (List ℕ × Target) → Bool
marked_label section name None = false
marked_label section name (Some m) = same_section m.1.section section && (m.1.is_label && bytes_eq m.0 name)

and_false : (b : Bool) → (b && false) ≡ false
and_false true = refl
and_false false = refl

label_at : (line : ℕ) (spot : Spot) (step : Step) (section : SectionName) (name : List ℕ) → is_label section name (record { line = line; step = step; spot = spot }) ≡ marked_label section name (mark_of spot.section spot.offset step)
label_at line spot (Label other) section name = refl
label_at line spot (States (statement.Directive (directive.Func other))) section name = refl
label_at line spot (States (statement.Directive (directive.Object other size))) section name = refl
label_at line spot (States (statement.Directive d)) section name = and_false _
label_at line spot (States other) section name = and_false _

or_false : (b : Bool) → (b || false) ≡ b
or_false true = refl
or_false false = refl

pub labels-one : (before : List Placed) (p : Placed) (section : SectionName) (name : List ℕ) → list_any (is_label section name) (before ++ p ∷ []) ≡ (list_any (is_label section name) before || marked_label section name (mark_at p))
labels-one before p section name =
    list_any-append (is_label section name) before (p ∷ [])
    ∙ ap (λ b. list_any (is_label section name) before || b) (or_false (is_label section name p) ∙ label_at p.line p.spot p.step section name)

-- a statement that defines nothing leaves the place of each name
place_kept : (before : List Placed) (p : Placed) (name : List ℕ) (place : Option Target) → IsPlaceOf before name place → mark_at p ≡ None → IsPlaceOf (before ++ p ∷ []) name (place_after place (mark_at p) name)
place_kept before p name place known none = rw none (record {
  defined = ap (is_among name) (names_defined-one before p ∙ ap (λ m. names_defined before ++ marked_names m) none) ∙ is_among-append name (names_defined before) [] ∙ or_false _ ∙ known.defined;
  target = λ section. targets_in-one before p section name ∙ ap (λ m. option_or (targets_in (definitions before) section name) (marked_target section name m)) none ∙ option_or-none _ ∙ known.target section;
  label = λ section. labels-one before p section name ∙ ap (λ m. list_any (is_label section name) before || marked_label section name m) none ∙ or_false _ ∙ known.label section;
})

-- one that defines a name that was not defined gives this name its place
place_given : (before : List Placed) (p : Placed) (name : List ℕ) (m : List ℕ × Target) → IsPlaceOf before name None → mark_at p ≡ Some m → bytes_eq m.0 name ≡ true → IsPlaceOf (before ++ p ∷ []) name (Some m.1)
place_given before p name m known some same = record {
  defined = ap (is_among name) (names_defined-one before p ∙ ap (λ o. names_defined before ++ marked_names o) some) ∙ is_among-append name (names_defined before) (m.0 ∷ []) ∙ rw (known.defined, same) refl;
  target = λ section. targets_in-one before p section name ∙ ap (λ o. option_or (targets_in (definitions before) section name) (marked_target section name o)) some ∙ rw (known.target section, same) (given (same_section m.1.section section) m.1.value);
  label = λ section. labels-one before p section name ∙ ap (λ o. list_any (is_label section name) before || marked_label section name o) some ∙ rw (known.label section, same) (ap (λ b. same_section m.1.section section && b) (and_true m.1.is_label));
} where
  given : (b : Bool) (v : ℕ) → cond (b && true) (Some v) None ≡ cond b (Some v) None
  given true v = refl
  given false v = refl

  and_true : (b : Bool) → (b && true) ≡ b
  and_true true = refl
  and_true false = refl

-- and leaves the others
place_other : (before : List Placed) (p : Placed) (name : List ℕ) (place : Option Target) (m : List ℕ × Target) → IsPlaceOf before name place → mark_at p ≡ Some m → bytes_eq m.0 name ≡ false → IsPlaceOf (before ++ p ∷ []) name place
place_other before p name place m known some apart = record {
  defined = ap (is_among name) (names_defined-one before p ∙ ap (λ o. names_defined before ++ marked_names o) some) ∙ is_among-append name (names_defined before) (m.0 ∷ []) ∙ rw apart (or_false _) ∙ known.defined;
  target = λ section. targets_in-one before p section name ∙ ap (λ o. option_or (targets_in (definitions before) section name) (marked_target section name o)) some ∙ rw (apart, and_false (same_section m.1.section section)) (option_or-none _) ∙ known.target section;
  label = λ section. labels-one before p section name ∙ ap (λ o. list_any (is_label section name) before || marked_label section name o) some ∙ rw (apart, and_false m.1.is_label, and_false (same_section m.1.section section)) (or_false _) ∙ known.label section;
}

pub IsPlaceOf-one : (before : List Placed) (p : Placed) (name : List ℕ) (place : Option Target) → IsPlaceOf before name place → ((m : List ℕ × Target) → mark_at p ≡ Some m → bytes_eq m.0 name ≡ true → place ≡ None) → IsPlaceOf (before ++ p ∷ []) name (place_after place (mark_at p) name)
IsPlaceOf-one before p name place known fresh = by_mark (mark_at p) refl where
  by_name : (m : List ℕ × Target) → mark_at p ≡ Some m → (b : Bool) → bytes_eq m.0 name ≡ b → IsPlaceOf (before ++ p ∷ []) name (cond (bytes_eq m.0 name) (Some m.1) place)
  by_name m some true same = rw same (place_given before p name m (rw (fresh m some same) at known) some same)
  by_name m some false apart = rw apart (place_other before p name place m known some apart)

  by_mark : (o : Option (List ℕ × Target)) → mark_at p ≡ o → IsPlaceOf (before ++ p ∷ []) name (place_after place (mark_at p) name)
  by_mark None none = place_kept before p name place known none
  by_mark (Some m) some = rw some (by_name m some (bytes_eq m.0 name) refl)
