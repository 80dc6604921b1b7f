-- What one statement more adds to what was counted, and what is wrong with it.
use Rattle.std.proofs.Common.{◌≡◌, ℕ, ◌+◌, Bool, true, false, cond, not, ◌&&◌, nat_le, List, [], ◌∷◌, ◌++◌, length, map, refl, ◌∙◌, ap, Option, Some, None, Ok, Err, add-zero}
use Rattle.std.specs.List.{list_all}
use Rattle.std.proofs.lemmas.List.{append-nil, length-append}
use Rattle.std.proofs.lemmas.Grind.{flat_map-append}
use Rattle.std.proofs.lemmas.List.Sums.{sum_by-append, sum_by-cons}
use Rattle.cet_syntax.specs.declared.statement.Quad.TheVariants as quad
use Rattle.cet_syntax.specs.declared.template.Code.TheVariants as code
use Rattle.cet_syntax.specs.declared.statement.Directive.TheVariants as directive
use Rattle.cet_syntax.specs.declared.statement.Statement.TheVariants as statement
use Rattle.cet_syntax.specs.declared.lines.Numbered.{Numbered}
use Rattle.cet_asm.specs.declared.placed.Placed.{Placed}
use Rattle.cet_asm.specs.declared.placed.Spot.{Spot}
use Rattle.cet_asm.specs.declared.placed.Step.{Step}
use Rattle.cet_asm.specs.declared.placed.Step.TheVariants.{Label, States}
use Rattle.cet_asm.specs.declared.error.AsmKind.{AsmKind}
use Rattle.cet_asm.specs.declared.error.AsmKind.TheVariants as fault
use Rattle.cet_asm.specs.declared.names.Target.{Target}
use Rattle.cet_asm.specs.Emitted.{Targets}
use Rattle.cet_asm.specs.Assembled.{State, is_among, defined_by, used_names, uses_of, no_targets, note_words, defines_anew, keeps_limits, step_of, placed_of, spot_in}
use Rattle.cet_asm.specs.Placing.{mark_of, mark_at, names_defined, names_used, short_names, is_note, relocations_of}

used_at : (targets : Targets) (line : ℕ) (spot : Spot) (step : Step) → let p : Placed = record { line = line; step = step; spot = spot } in used_names p ≡ short_names step ++ map (λ u. u.name) (uses_of targets p)
used_at targets line spot (Label name) = refl
used_at targets line spot (States (statement.Code (code.Long t))) = refl
used_at targets line spot (States (statement.Code (code.Short c name))) = refl
used_at targets line spot (States (statement.Directive (directive.Word (quad.Number n)))) = refl
used_at targets line spot (States (statement.Directive (directive.Word (quad.Symbol name)))) = refl
used_at targets line spot (States (statement.Directive d)) = refl
used_at targets line spot (States (statement.Site s)) = refl

-- the names that a statement uses are those of its uses, wherever names are defined, and that of a short branch
pub used_names-of_uses : (targets : Targets) (p : Placed) → used_names p ≡ short_names p.step ++ map (λ u. u.name) (uses_of targets p)
used_names-of_uses targets p = used_at targets p.line p.spot p.step

length_at : (targets : Targets) (line : ℕ) (spot : Spot) (step : Step) → let p : Placed = record { line = line; step = step; spot = spot } in length (uses_of no_targets p) ≡ length (uses_of targets p)
length_at targets line spot (Label name) = refl
length_at targets line spot (States (statement.Code (code.Long t))) = refl
length_at targets line spot (States (statement.Code (code.Short c name))) = refl
length_at targets line spot (States (statement.Directive (directive.Word (quad.Number n)))) = refl
length_at targets line spot (States (statement.Directive (directive.Word (quad.Symbol name)))) = refl
length_at targets line spot (States (statement.Directive d)) = refl
length_at targets line spot (States (statement.Site s)) = refl

pub length-uses_of : (targets : Targets) (p : Placed) → length (uses_of no_targets p) ≡ length (uses_of targets p)
length-uses_of targets p = length_at targets p.line p.spot p.step

pub names_used-one : (before : List Placed) (p : Placed) → names_used (before ++ p ∷ []) ≡ names_used before ++ used_names p
names_used-one before p = flat_map-append used_names before (p ∷ []) ∙ ap (λ xs. names_used before ++ xs) (append-nil (used_names p))

pub relocations_of-one : (before : List Placed) (p : Placed) → relocations_of (before ++ p ∷ []) ≡ relocations_of before + length (uses_of no_targets p)
relocations_of-one before p = sum_by-append (λ q. length (uses_of no_targets q)) before (p ∷ []) ∙ ap (λ n. relocations_of before + n) (sum_by-cons (λ q. length (uses_of no_targets q)) p [] ∙ add-zero (length (uses_of no_targets p)))

notes_at : (line : ℕ) (spot : Spot) (step : Step) → length (note_words (record { line = line; step = step; spot = spot } ∷ [])) ≡ cond (is_note step) 1 0
notes_at line spot (Label name) = refl
notes_at line spot (States (statement.Directive (directive.Note words))) = refl
notes_at line spot (States (statement.Directive d)) = refl
notes_at line spot (States other) = refl

pub notes-one : (before : List Placed) (p : Placed) → length (note_words (before ++ p ∷ [])) ≡ length (note_words before) + cond (is_note p.step) 1 0
notes-one before p = ap length (flat_map-append _ before (p ∷ [])) ∙ length-append (note_words before) (note_words (p ∷ [])) ∙ ap (λ n. length (note_words before) + n) (notes_at p.line p.spot p.step)

-- whether what a statement defines is not among the names
abbrev pub is_fresh : List (List ℕ) → Option (List ℕ × Target) → Bool
is_fresh names None = true
is_fresh names (Some m) = not (is_among m.0 names)

and_true : (b : Bool) → (b && true) ≡ b
and_true true = refl
and_true false = refl

fresh_at : (names : List (List ℕ)) (line : ℕ) (spot : Spot) (step : Step) → list_all (λ d. not (is_among d.name names)) (defined_by (record { line = line; step = step; spot = spot }) []) ≡ is_fresh names (mark_of spot.section spot.offset step)
fresh_at names line spot (Label name) = and_true _
fresh_at names line spot (States (statement.Directive (directive.Func name))) = and_true _
fresh_at names line spot (States (statement.Directive (directive.Object name size))) = and_true _
fresh_at names line spot (States (statement.Directive d)) = refl
fresh_at names line spot (States other) = refl

pub defines_anew-of_mark : (before : List Placed) (p : Placed) → defines_anew before p ≡ (is_fresh (names_defined before) (mark_at p) && nat_le (length (note_words before) + cond (is_note p.step) 1 0) 1)
defines_anew-of_mark before p = rw (fresh_at (names_defined before) p.line p.spot p.step, notes-one before p) refl

-- the item, read and put in its place
abbrev pub placed_at : State → Numbered → Step → Placed
placed_at s item step = record { line = item.line; step = step; spot = spot_in s }

pub placed_of-good : (before : List Placed) (s : State) (item : Numbered) (step : Step) → step_of before s item.item ≡ Ok step → defines_anew before (placed_at s item step) ≡ true → keeps_limits (before ++ placed_at s item step ∷ []) ≡ true → placed_of before s item ≡ Ok (placed_at s item step)
placed_of-good before s item step e anew few = rw (e, anew, few) refl

pub placed_of-twice : (before : List Placed) (s : State) (item : Numbered) (step : Step) → step_of before s item.item ≡ Ok step → defines_anew before (placed_at s item step) ≡ false → placed_of before s item ≡ Err fault.Twice
placed_of-twice before s item step e anew = rw (e, anew) refl

pub placed_of-many : (before : List Placed) (s : State) (item : Numbered) (step : Step) → step_of before s item.item ≡ Ok step → defines_anew before (placed_at s item step) ≡ true → keeps_limits (before ++ placed_at s item step ∷ []) ≡ false → placed_of before s item ≡ Err fault.TooMany
placed_of-many before s item step e anew few = rw (e, anew, few) refl

pub placed_of-bad : (before : List Placed) (s : State) (item : Numbered) (kind : AsmKind) → step_of before s item.item ≡ Err kind → placed_of before s item ≡ Err kind
placed_of-bad before s item kind e = rw e refl
