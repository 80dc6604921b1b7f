-- The start of a program whose image keeps the rules is sound, and raw code can always be loaded.
use Rattle.std.proofs.Common.{◌≡◌, ℕ, zero, suc, ◌+◌, ◌-◌, ◌%◌, ◌^◌, ◌≤◌, ⊎_elim, Bool, true, false, not, ◌==◌, List, [], ◌∷◌, length, replicate, slice_get, find, Option, Some, None, is_none, unwrap_or, refl, sym, ap, ◌∙◌, subst, arith, lit<, if◌then◌else◌}
use Rattle.std.specs.Option.{option_and_then}
use Rattle.std.proofs.lemmas.Bool.{cases_lt, cond-true, and_from, le-leb}
use Rattle.std.proofs.Math.Nat.{mod-add-div'}
use Rattle.cet_isa.specs.declared.registers.Regs.{Regs}
use Rattle.cet_machine.specs.declared.action.Action.{Action}
use Rattle.cet_machine.specs.declared.memory.Kind.TheVariants.{Code, Read, Write}
use Rattle.cet_machine.specs.Memory.{is_code, allowed_from, bytes_from, bytes_at, code_at}
use Rattle.cet_machine.specs.MachineLaws.{is_fixed}
use Rattle.cet_rules.specs.declared.covered.Covered.{Covered}
use Rattle.cet_rules.specs.declared.covered.Covered.TheVariants.{EndBr64}
use Rattle.cet_rules.specs.declared.function.Function.{Function}
use Rattle.cet_rules.specs.declared.image.Image.{Image}
use Rattle.cet_rules.specs.declared.piece.PieceKind.TheVariants.{Prologue}
use Rattle.cet_rules.specs.declared.segment.Segment.{Segment}
use Rattle.cet_rules.specs.First.{KeepsRules}
use Rattle.cet_rules.specs.Piece.{instruction_at, prologue_end, prologue_end_by, IsCut}
use Rattle.cet_rules.specs.Raw.{IsRaw, raw_start, raw_segment}
use Rattle.cet_process.specs.declared.load_error.LoadError.{LoadError}
use Rattle.cet_process.specs.State.{State}
use Rattle.cet_process.specs.Start.{region_of, end_of_pages, is_in_place, first_shared, misplaced_or, load_error, mode_of, first_regs, started, start}
use Rattle.cet_process.specs.Run.{is_cp_death}
use Rattle.cet_process.proofs.Started.{start_is_well_formed, segments_are_loaded}
use Rattle.cet_invariant.specs.Contexts.{HasImage, HasAllowedActions, Sorts}
use Rattle.cet_invariant.specs.Standing.{Stands}
use Rattle.cet_invariant.specs.Standing.StandsAt.{prologue}
use Rattle.cet_invariant.proofs.Cuts.{cut_is_piece_start}
use Rattle.cet_invariant.proofs.Entry.{IsEntered, entered, has_entry}
use Rattle.cet_invariant.proofs.Steps.{stands_idle}

-- ---- what a start tells

record Starts (image : Image) (input : List ℕ) (S : State) : Type 0 where
  loaded : load_error image ≡ None
  begins : S ≡ started image (mode_of image.features) input

starts_from : (image : Image) (input : List ℕ) (S : State) (o : Option LoadError) → load_error image ≡ o
    → (if is_none o then Some (started image (mode_of image.features) input) else None) ≡ Some S → Starts image input S
starts_from image input S None loaded e = record { loaded = loaded; begins = cc }
starts_from image input S (Some error) loaded e = absurd (cc)

starts : (image : Image) (input : List ℕ) (S : State) → start image input ≡ Some S → Starts image input S
unfolding start
starts image input S e = starts_from image input S (load_error image) refl e

-- ---- memory

fixed_kind : (executable writable : Bool) → writable ≡ false → is_fixed (if executable then Code else if writable then Write else Read) ≡ true
fixed_kind true writable read_only = refl
fixed_kind false true read_only = absurd cc
fixed_kind false false read_only = refl

code_kind : (executable writable : Bool) (bytes : List ℕ)
    → unwrap_or (if is_code (if executable then Code else if writable then Write else Read) then Some bytes else None) [] ≡ (if executable then bytes else [])
code_kind true writable bytes = refl
code_kind false true bytes = refl
code_kind false false bytes = refl

has_image : (image : Image) (input : List ℕ) (S : State) → load_error image ≡ None → start image input ≡ Some S → HasImage image S.memory
unfolding bytes_at code_at
has_image image input S loaded e = record {
  loaded = loaded;
  bytes = λ k s stands read_only a n some inside.
      ap (option_and_then (allowed_from is_fixed a)) (segments_are_loaded image input S k s e stands a n some inside)
      ∙ cond-true _ (Some (bytes_from (region_of s) a)) None (fixed_kind s.executable s.writable read_only);
  code = λ k s stands a inside.
      ap (λ o. unwrap_or (option_and_then (allowed_from is_code a) o) []) (segments_are_loaded image input S k s e stands a 1 (lit< tt) inside)
      ∙ code_kind s.executable s.writable (bytes_from (region_of s) a);
}

-- ---- actions

none_registered : (n i : ℕ) (action : Action) → option_and_then {T = Option Action} {U = Action} (λ action. action) (slice_get (replicate n None) i) ≡ Some action → ⊥
none_registered zero i action e = absurd cc
none_registered (suc n) zero action e = absurd cc
none_registered (suc n) (suc i) action e = none_registered n i action e

no_action : (image : Image) (S : State) → S.actions ≡ replicate 64 None → HasAllowedActions image S
no_action image S actions signo action e = of_zero (signo == 0) (subst (λ (l : List (Option Action)). (if signo == 0 then None else option_and_then (λ action. action) (slice_get l (signo - 1))) ≡ Some action) actions e)
  where
    of_zero : (zero : Bool) → (if zero then None else option_and_then (λ action. action) (slice_get (replicate 64 None) (signo - 1))) ≡ Some action → ⊥
    of_zero true e = absurd cc
    of_zero false e = none_registered 64 (signo - 1) action e

-- ---- where the thread stands

prologue_above : (a : ℕ) (o : Option (Covered × ℕ)) → a ≤ prologue_end_by a o
prologue_above a (Some (EndBr64, n)) = omega arith
prologue_above a o = omega arith

-- at the prologue of the entry's function, or at its first piece where there is none
start_stands : (image : Image) (f : Function) (R : Regs) → IsEntered image f → R.rip ≡ f.start → R.waiting ≡ false → Stands image f R
start_stands image f R is at idle =
    ⊎_elim
    (λ below. record {
      at = prologue (record { at = f.start; next = prologue_end image f; kind = Prologue }) (record { kind = refl; at = refl; next = refl; not_empty = below }) at;
      tracker = λ waits. absurd (cc);
    })
    (λ above. stands_idle image f R (rw at (cut_is_piece_start image f f.start is.keeps (IsCut.first (omega (arith, above, prologue_above f.start (instruction_at image f f.start)))) (omega (arith, is.regular.not_empty)))) (λ waits. cc))
    (cases_lt f.start (prologue_end image f))

-- ---- the whole

pub start_sorts : (image : Image) (input : List ℕ) (S : State) → KeepsRules image → start image input ≡ Some S → Sorts image S
start_sorts image input S keeps e =
    let s = starts image input S e in
    let entry = has_entry image keeps in
    let is = entered image entry.0 keeps entry.1 in
    let regs = first_regs image (mode_of image.features) in
    record {
      mode = ap (λ (T : State). T.mode) s.begins;
      process = start_is_well_formed image input S e;
      memory = has_image image input S s.loaded e;
      actions = no_action image S (ap (λ (T : State). T.actions) s.begins);
      owners = record {
        regs = regs;
        threads = ap (λ (T : State). T.threads) s.begins;
        context = record { function = entry.0; is_root = entry.1; stands = start_stands image entry.0 regs is (sym is.start) refl };
      };
    }

-- a process has not ended at its start
pub start_lives : (image : Image) (input : List ℕ) (S : State) → start image input ≡ Some S → is_cp_death S.end ≡ false
start_lives image input S e = ap (λ (T : State). is_cp_death T.end) (starts image input S e).begins

-- ---- raw code can be loaded

raw_in_place : (bytes : List ℕ) → length bytes ≤ 16777216 → is_in_place (raw_segment bytes) ≡ true
raw_in_place bytes short =
    let end = end_of_pages (raw_segment bytes) in
    let whole : (raw_start + length bytes + 4095) % 4096 + end ≡ raw_start + length bytes + 4095 = mod-add-div' (raw_start + length bytes + 4095) 4096 in
    and_from _ _ refl (le-leb end (2 ^ 32 - 65536) (omega (arith, whole, short)))

load_error_of : List Segment → Option LoadError
load_error_of segments = misplaced_or (find (λ s. not (is_in_place s)) segments) (first_shared segments)

raw_placed : (s : Segment) (placed : Bool) → is_in_place s ≡ placed → placed ≡ true → load_error_of (s ∷ []) ≡ None
unfolding load_error_of
raw_placed s true e is = rw e refl
raw_placed s false e is = absurd cc

raw_is_placed : (image : Image) (bytes : List ℕ) → IsRaw image bytes → load_error image ≡ None
unfolding load_error_of
raw_is_placed image bytes raw =
    let short = (image.segments_regular.each 0 (raw_segment bytes) (ap (λ (l : List Segment). slice_get l 0) raw.segments)).short in
    ap load_error_of raw.segments ∙ raw_placed (raw_segment bytes) true (raw_in_place bytes short) refl

pub raw_starts : (image : Image) (bytes input : List ℕ) → IsRaw image bytes → (S : State) × (start image input ≡ Some S)
unfolding start
raw_starts image bytes input raw =
    let S = started image (mode_of image.features) input in
    (S, cond-true (is_none (load_error image)) (Some S) None (ap is_none (raw_is_placed image bytes raw)))
