-- Names that statements make global, and notes, statement by statement.
use Rattle.std.proofs.Common.{◌≡◌, ℕ, ◌+◌, ◌<◌, ◌≤◌, Bool, true, false, cond, ◌||◌, ◌&&◌, List, ◌∷◌, ◌++◌, length, drop, get_or, Option, Some, None, is_some, refl, ap, sym, ◌∙◌}
use Rattle.std.specs.Option.{option_or, option_map}
use Rattle.std.specs.List.{find}
use Rattle.std.specs.Str.{bytes_eq}
use Rattle.std.proofs.lemmas.List.{at_drop_more, at_drop_all}
use Rattle.std.proofs.lemmas.List.Folds.{list_any-append}
use Rattle.cet_syntax.specs.declared.statement.SectionName.{SectionName}
use Rattle.cet_syntax.specs.declared.statement.Directive.TheVariants as directive
use Rattle.cet_syntax.specs.declared.statement.Statement.TheVariants as statement
use Rattle.cet_asm.specs.declared.definition.Definition.{Definition}
use Rattle.cet_asm.specs.declared.placed.Placed.{Placed}
use Rattle.cet_asm.specs.declared.placed.Spot.{Spot}
use Rattle.cet_asm.specs.declared.placed.Step.{Step}
use Rattle.cet_asm.specs.declared.placed.Step.TheVariants.{Label, States}
use Rattle.cet_asm.specs.Assembled.{is_among, global_names, note_words, same_section, targets_in}
use Rattle.cet_asm.specs.Whole.{made_global, step_words}

global_step : (line : ℕ) (spot : Spot) (rest : List Placed) (s : Step) → global_names (record { line = line; step = s; spot = spot } ∷ rest) ≡ made_global s ++ global_names rest
global_step line spot rest (States (statement.Directive (directive.Global name))) = refl
global_step line spot rest (States (statement.Directive _)) = refl
global_step line spot rest (States _) = refl
global_step line spot rest (Label name) = refl

or_assoc : (a b c : Bool) → (a || (b || c)) ≡ ((a || b) || c)
or_assoc true b c = refl
or_assoc false b c = refl

pub or_none : (a : Bool) → (a || false) ≡ a
or_none true = refl
or_none false = refl

-- the names that are made global from a place on
pub globals_more : (placed : List Placed) (i : ℕ) (p : Placed) (name : List ℕ) (old new start : Bool) → i < length placed → p ≡ get_or placed i p
    → new ≡ (old || is_among name (made_global p.step)) → (old || is_among name (global_names (drop i placed))) ≡ start → (new || is_among name (global_names (drop (i + 1) placed))) ≡ start
globals_more placed i p name old new start lt is more before =
    let rest = drop (i + 1) placed in
    let F : List Placed → Bool = λ ps. is_among name (global_names ps) in
    let split : F (drop i placed) ≡ F (get_or placed i p ∷ rest) = at_drop_more F placed i p lt in
    let here : F (get_or placed i p ∷ rest) ≡ F (p ∷ rest) = ap (λ q. F (q ∷ rest)) (sym is) in
    let names : F (p ∷ rest) ≡ is_among name (made_global p.step ++ global_names rest) = ap (λ (n : List (List ℕ)). is_among name n) (global_step p.line p.spot rest p.step) in
    let parts : is_among name (made_global p.step ++ global_names rest) ≡ (is_among name (made_global p.step) || is_among name (global_names rest)) =
    list_any-append (λ other. bytes_eq other name) (made_global p.step) (global_names rest) in
    ap (λ (n : Bool). n || is_among name (global_names rest)) more
    ∙ (sym (or_assoc old (is_among name (made_global p.step)) (is_among name (global_names rest)))
    ∙ (ap (λ (n : Bool). old || n) (sym parts ∙ (sym names ∙ (sym here ∙ sym split))) ∙ before))

pub globals_end : (placed : List Placed) (i : ℕ) (name : List ℕ) (old start : Bool) → length placed ≤ i → (old || is_among name (global_names (drop i placed))) ≡ start → old ≡ start
globals_end placed i name old start all before =
    let none : is_among name (global_names (drop i placed)) ≡ false = at_drop_all (λ (ps : List Placed). is_among name (global_names ps)) placed i all in
    sym (or_none old) ∙ (ap (λ (n : Bool). old || n) (sym none) ∙ before)

-- a name that is given an entry, where it has none
pub entered : (old : Option ℕ) (b : Bool) (n : ℕ) → is_some (option_or old (cond b (Some n) None)) ≡ (is_some old || (b || false))
entered None true n = refl
entered None false n = refl
entered (Some x) b n = refl

note_step : (line : ℕ) (spot : Spot) (rest : List Placed) (s : Step) → note_words (record { line = line; step = s; spot = spot } ∷ rest) ≡ step_words s ++ note_words rest
note_step line spot rest (States (statement.Directive (directive.Note words))) = refl
note_step line spot rest (States (statement.Directive _)) = refl
note_step line spot rest (States _) = refl
note_step line spot rest (Label name) = refl

-- the notes from a place on
pub notes_more : (placed : List Placed) (i : ℕ) (p : Placed) → i < length placed → p ≡ get_or placed i p → note_words (drop i placed) ≡ step_words p.step ++ note_words (drop (i + 1) placed)
notes_more placed i p lt is =
    let rest = drop (i + 1) placed in
    at_drop_more note_words placed i p lt ∙ (ap (λ q. note_words (q ∷ rest)) (sym is) ∙ note_step p.line p.spot rest p.step)

defined_or : (old : Option ℕ) (b : Bool) (d : Definition) (behind : Option Definition)
    → option_or (option_or old (cond b (Some d.value) None)) (option_map (λ e. e.value) behind) ≡ option_or old (option_map (λ e. e.value) (cond b (Some d) behind))
defined_or (Some x) b d behind = refl
defined_or None true d behind = refl
defined_or None false d behind = refl

-- where a name is defined, from a place on
pub targets_more : (ds : List Definition) (i : ℕ) (d : Definition) (section : SectionName) (name key : List ℕ) (old new start : Option ℕ) → i < length ds → d ≡ get_or ds i d → key ≡ d.name
    → new ≡ option_or old (cond (same_section d.section section && bytes_eq key name) (Some d.value) None) → option_or old (targets_in (drop i ds) section name) ≡ start
    → option_or new (targets_in (drop (i + 1) ds) section name) ≡ start
targets_more ds i d section name key old new start lt is spelled given before =
    let rest = drop (i + 1) ds in
    let F : List Definition → Option ℕ = λ es. targets_in es section name in
    let split : F (drop i ds) ≡ F (get_or ds i d ∷ rest) = at_drop_more F ds i d lt in
    let here : F (get_or ds i d ∷ rest) ≡ F (d ∷ rest) = ap (λ e. F (e ∷ rest)) (sym is) in
    let more : new ≡ option_or old (cond (same_section d.section section && bytes_eq d.name name) (Some d.value) None) =
    given ∙ ap (λ (k : List ℕ). option_or old (cond (same_section d.section section && bytes_eq k name) (Some d.value) None)) spelled in
    ap (λ (n : Option ℕ). option_or n (F rest)) more
    ∙ (defined_or old (same_section d.section section && bytes_eq d.name name) d (find (λ e. same_section e.section section && bytes_eq e.name name) rest)
    ∙ (ap (λ (n : Option ℕ). option_or old n) (sym here ∙ sym split) ∙ before))

or_nothing : (o : Option ℕ) → option_or o None ≡ o
or_nothing None = refl
or_nothing (Some x) = refl

pub targets_end : (ds : List Definition) (i : ℕ) (section : SectionName) (name : List ℕ) (old start : Option ℕ) → length ds ≤ i → option_or old (targets_in (drop i ds) section name) ≡ start → old ≡ start
targets_end ds i section name old start all before =
    let none : targets_in (drop i ds) section name ≡ None = at_drop_all (λ (es : List Definition). targets_in es section name) ds i all in
    sym (or_nothing old) ∙ (ap (λ (n : Option ℕ). option_or old n) (sym none) ∙ before)
