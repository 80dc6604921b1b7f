-- What statements define, and what is wrong with them, by the statements behind them.
use Rattle.std.proofs.Common.{◌≡◌, ◌≢◌, ℕ, ◌+◌, ◌-◌, ◌<◌, Bool, true, false, cond, List, [], ◌∷◌, ◌++◌, length, drop, get_or, reverse, Option, Some, None, is_some, unwrap_or, refl, ap, sym, ◌∙◌, arith}
use Rattle.std.specs.Option.{option_map, option_map_or, option_or, option_to_list}
use Rattle.std.proofs.lemmas.List.{at_drop_more, reverse-append}
use Rattle.cet_elf.specs.declared.object.SymbolKind.TheVariants as kind
use Rattle.cet_syntax.specs.declared.template.Code.TheVariants as code
use Rattle.cet_syntax.specs.declared.statement.Directive.TheVariants as directive
use Rattle.cet_syntax.specs.declared.statement.Statement.TheVariants as statement
use Rattle.std.specs.Int.{w8}
use Rattle.cet_asm.specs.declared.error.AsmError.{AsmError}
use Rattle.cet_asm.specs.declared.error.AsmKind.{AsmKind}
use Rattle.cet_asm.specs.declared.error.AsmKind.TheVariants as fault
use Rattle.cet_asm.specs.declared.definition.Definition.{Definition}
use Rattle.cet_asm.specs.declared.placed.Placed.{Placed}
use Rattle.cet_asm.specs.declared.placed.Spot.{Spot}
use Rattle.cet_asm.specs.declared.placed.Step.{Step}
use Rattle.cet_asm.specs.declared.placed.Step.TheVariants.{Label, States}
use Rattle.cet_isa.specs.Canonical.{fits}
use Rattle.cet_asm.specs.Emitted.{Targets, short_distance}
use Rattle.cet_asm.specs.Assembled.{end_among, ends_function, defined_by, definitions, short_fault, late_fault, first_late}
use Rattle.cet_asm.specs.Whole.{end_of, end_from, defined_at, step_defines, late_at, step_late}

end_behind : (p : Placed) (later : List Placed) → end_from p (end_of later) ≡ end_of (p ∷ later)
end_behind p later =
    elim (ends_function p.step) as (λ b. cond b (Some p.spot.offset) (end_of later) ≡ option_map (λ q. q.spot.offset) (cond b (Some p) (end_among later)))
    [ true ↦ refl | false ↦ refl ]

func_size : (o : Option Placed) (start : ℕ) → option_map_or (λ end. end.spot.offset - start) o 0 ≡ unwrap_or (option_map (λ q. q.spot.offset) o) 0 - start
func_size None start = omega arith
func_size (Some end) start = refl

defined_step : (line : ℕ) (spot : Spot) (later : List Placed) (s : Step) → defined_by (record { line = line; step = s; spot = spot }) later ≡ step_defines spot s (end_of later)
defined_step line spot later (Label name) = refl
defined_step line spot later (States (statement.Directive (directive.Func name))) =
    let sized : ℕ → List Definition = λ n. record { name = name; kind = kind.Func; section = spot.section; value = spot.offset; size = n } ∷ [] in
    ap sized (func_size (end_among later) spot.offset)
defined_step line spot later (States (statement.Directive _)) = refl
defined_step line spot later (States _) = refl

defined_behind : (p : Placed) (later : List Placed) → defined_by p later ≡ defined_at p (end_of later)
defined_behind p later = defined_step p.line p.spot later p.step

-- one statement more, from the end
pub defined_more : (placed : List Placed) (m : ℕ) (p : Placed) (found : List Definition) (o : Option Definition) (end : Option ℕ) → m < length placed → p ≡ get_or placed m p
    → reverse found ≡ definitions (drop (m + 1) placed) → end ≡ end_of (drop (m + 1) placed) → option_to_list o ≡ defined_at p end
    → (reverse (found ++ option_to_list o) ≡ definitions (drop m placed)) × (end_from p end ≡ end_of (drop m placed))
defined_more placed m p found o end lt is before ended new =
    let later = drop (m + 1) placed in
    let split : definitions (drop m placed) ≡ defined_by (get_or placed m p) later ++ definitions later = at_drop_more definitions placed m p lt in
    let ends : end_of (drop m placed) ≡ end_of (get_or placed m p ∷ later) = at_drop_more end_of placed m p lt in
    let here : defined_by (get_or placed m p) later ≡ defined_at p end = defined_behind (get_or placed m p) later ∙ cc in
    let turned : reverse (found ++ option_to_list o) ≡ reverse (option_to_list o) ++ reverse found = reverse-append found (option_to_list o) in
    let same : reverse (option_to_list o) ≡ option_to_list o = alone o in
    let behind : end_from (get_or placed m p) (end_of later) ≡ end_of (get_or placed m p ∷ later) = end_behind (get_or placed m p) later in
    (cc, cc) where
      alone : (d : Option Definition) → reverse (option_to_list d) ≡ option_to_list d
      alone None = refl
      alone (Some d) = refl

ended_late : (o : Option Placed) → cond (is_some o) None (Some fault.Word) ≡ cond (is_some (option_map (λ q. q.spot.offset) o)) None (Some fault.Word)
ended_late None = refl
ended_late (Some end) = refl

late_step : (targets : Targets) (line : ℕ) (spot : Spot) (later : List Placed) (s : Step) → late_fault targets (record { line = line; step = s; spot = spot }) later ≡ step_late targets spot s (end_of later)
late_step targets line spot later (Label name) = refl
late_step targets line spot later (States (statement.Code (code.Short c name))) = refl
late_step targets line spot later (States (statement.Directive (directive.Func name))) = ended_late (end_among later)
late_step targets line spot later (States (statement.Code _)) = refl
late_step targets line spot later (States (statement.Directive _)) = refl
late_step targets line spot later (States _) = refl

late_behind : (targets : Targets) (p : Placed) (later : List Placed) → late_fault targets p later ≡ late_at targets p (end_of later)
late_behind targets p later = late_step targets p.line p.spot later p.step

-- the fault of a statement comes before those behind it
pub late_more : (targets : Targets) (placed : List Placed) (m : ℕ) (p : Placed) (behind : Option AsmError) (end : Option ℕ) → m < length placed → p ≡ get_or placed m p
    → behind ≡ first_late targets (drop (m + 1) placed) → end ≡ end_of (drop (m + 1) placed)
    → (option_or (option_map (λ kind. record { line = p.line; kind = kind }) (late_at targets p end)) behind ≡ first_late targets (drop m placed)) × (end_from p end ≡ end_of (drop m placed))
late_more targets placed m p behind end lt is before ended =
    let later = drop (m + 1) placed in
    let q = get_or placed m p in
    let split : first_late targets (drop m placed) ≡ option_or (option_map (λ kind. record { line = q.line; kind = kind }) (late_fault targets q later)) (first_late targets later) = at_drop_more (first_late targets) placed m p lt in
    let ends : end_of (drop m placed) ≡ end_of (q ∷ later) = at_drop_more end_of placed m p lt in
    let here : late_fault targets q later ≡ late_at targets q (end_of later) = late_behind targets q later in
    let close : end_from q (end_of later) ≡ end_of (q ∷ later) = end_behind q later in
    let whole : option_or (option_map (λ kind. record { line = q.line; kind = kind }) (late_at targets q (end_of later))) (first_late targets later) ≡ first_late targets (drop m placed) =
    rw (← here) (sym split) in
    (rw (is, ended, before) whole, rw (is, ended) (close ∙ sym ends))

range_kind : (b : Bool) (kind : AsmKind) → cond b None (Some fault.Range) ≡ Some kind → kind ≢ fault.NoMemory
range_kind true kind e = absurd cc
range_kind false kind e = λ n. cc

word_kind : (b : Bool) (kind : AsmKind) → cond b None (Some fault.Word) ≡ Some kind → kind ≢ fault.NoMemory
word_kind true kind e = absurd cc
word_kind false kind e = λ n. cc

short_kind : (targets : Targets) (spot : Spot) (name : List ℕ) (kind : AsmKind) (target : Option ℕ) → targets spot.section name ≡ target → short_fault targets spot name ≡ Some kind → kind ≢ fault.NoMemory
short_kind targets spot name kind None is e = λ n. let said : ◌≡◌ {A = Option AsmKind} (Some fault.Label) (Some kind) = rw is at e in cc
short_kind targets spot name kind (Some target) is e = range_kind (fits w8 (short_distance spot.offset target)) kind (rw is at e)

step_kind : (targets : Targets) (spot : Spot) (end : Option ℕ) (s : Step) (kind : AsmKind) → step_late targets spot s end ≡ Some kind → kind ≢ fault.NoMemory
step_kind targets spot end (Label name) kind e = absurd cc
step_kind targets spot end (States (statement.Code (code.Short c name))) kind e = short_kind targets spot name kind (targets spot.section name) refl e
step_kind targets spot end (States (statement.Directive (directive.Func name))) kind e = word_kind (is_some end) kind e
step_kind targets spot end (States (statement.Code _)) kind e = absurd cc
step_kind targets spot end (States (statement.Directive _)) kind e = absurd cc
step_kind targets spot end (States _) kind e = absurd cc

-- a late fault is no want of memory
pub first_late-kind : (targets : Targets) (placed : List Placed) (e : AsmError) → Some e ≡ first_late targets placed → e.kind ≢ fault.NoMemory
first_late-kind targets [] e is = absurd cc
first_late-kind targets (p ∷ later) e is = by_fault (late_fault targets p later) refl (sym is) (λ said. first_late-kind targets later e said) where
  by_fault : (o : Option AsmKind) → late_fault targets p later ≡ o → option_or (option_map (λ kind. record { line = p.line; kind = kind }) o) (first_late targets later) ≡ Some e
      → (Some e ≡ first_late targets later → e.kind ≢ fault.NoMemory) → e.kind ≢ fault.NoMemory
  by_fault None late said behind = behind (sym said)
  by_fault (Some kind) late said behind = λ n.
      let same : kind ≡ e.kind = cc in
      step_kind targets p.spot (end_of later) p.step kind (sym (late_behind targets p later) ∙ late) (same ∙ n)
