-- The state that a loaded process begins in.
use Rattle.std.proofs.Common.{◌≡◌, ℕ, zero, suc, ◌+◌, ◌<◌, zero-add, suc-add, map, true, List, [], ◌∷◌, ◌++◌, length, slice_get, Option, Some, None, is_none, refl, sym, ap, subst, ◌∙◌, if◌then◌else◌, lit≤}
use Rattle.std.proofs.lemmas.List.Elements.{All-cons, All-nil}
use Rattle.cet_rules.specs.declared.segment.Segment.{Segment}
use Rattle.cet_rules.specs.declared.image.Image.{Image}
use Rattle.cet_isa.specs.declared.registers.Mode.{Mode}
use Rattle.cet_machine.specs.declared.memory.Region.{Region}
use Rattle.cet_machine.specs.Memory.{holds, region_holding}
use Rattle.cet_process.specs.declared.load_error.LoadError.{LoadError}
use Rattle.cet_process.specs.State.{State}
use Rattle.cet_process.specs.Start.{region_of, load_error, mode_of, stacks, first_regs, started, start}
use Rattle.cet_process.specs.Laws.{HasRegisters, IsWellFormed, StartIsWellFormed, SegmentsAreLoaded, StacksAreLoaded}
use Rattle.cet_process.proofs.Inserted.{AllApart, fold_disjoint, fold_found}
use Rattle.cet_process.proofs.Loaded.{regions_of, regions_disjoint, regions_far}
use Rattle.cet_process.proofs.Far.{AllFar, fold_far}

apart_from_none : (rs : List Region) → AllApart rs []
apart_from_none [] = tt
apart_from_none (r ∷ rs) = (tt, apart_from_none rs)

far_from_none : (rs : List Region) → AllFar rs []
far_from_none [] = tt
far_from_none (r ∷ rs) = (tt, far_from_none rs)

-- what a start tells
record Starts (image : Image) (input : List ℕ) (S : State) : Type 0 where
  placed : load_error image ≡ None
  begins : S ≡ started image (mode_of image.features) input

starts_from : (image : Image) (input : List ℕ) (S : State) (o : Option LoadError) → load_error image ≡ o → (if is_none o then Some (started image (mode_of image.features) input) else None) ≡ Some S → Starts image input S
starts_from image input S None placed e = record { placed = placed; begins = cc }
starts_from image input S (Some error) placed e = absurd (cc)

starts : (image : Image) (input : List ℕ) (S : State) → start image input ≡ Some S → Starts image input S
unfolding start
starts image input S e = starts_from image input S (load_error image) refl e

started_well : (image : Image) (mode : Mode) (input : List ℕ) → load_error image ≡ None → IsWellFormed (started image mode input)
started_well image mode input placed = record {
  disjoint = fold_disjoint (regions_of image.segments mode) [] tt (regions_disjoint image mode placed) (apart_from_none (regions_of image.segments mode));
  far = fold_far (regions_of image.segments mode) [] tt (regions_far image mode placed) (far_from_none (regions_of image.segments mode));
  registers = All-cons HasRegisters (Some (first_regs image mode)) [] refl (All-nil HasRegisters);
  threads = lit≤ tt;
  actions = refl;
  output = lit≤ tt;
}

pub start_is_well_formed : StartIsWellFormed
start_is_well_formed image input S e =
    let s = starts image input S e in
    subst IsWellFormed (sym s.begins) (started_well image (mode_of image.features) input s.placed)

-- a region that stands among those of the segments and stacks
region_is_loaded : (image : Image) (input : List ℕ) (S : State) (k : ℕ) (r : Region) → start image input ≡ Some S → slice_get (regions_of image.segments (mode_of image.features)) k ≡ Some r
    → (a n : ℕ) → 0 < n → holds a n r ≡ true → region_holding S.memory a n ≡ Some r
region_is_loaded image input S k r e stands a n some inside =
    let s = starts image input S e in
    let mode = mode_of image.features in
    ap (λ (T : State). region_holding T.memory a n) s.begins
    ∙ fold_found (regions_of image.segments mode) [] k r a n stands (apart_from_none (regions_of image.segments mode)) (regions_disjoint image mode s.placed) some inside

among_segments : (segments : List Segment) (rest : List Region) (k : ℕ) (s : Segment) → slice_get segments k ≡ Some s → slice_get (map region_of segments ++ rest) k ≡ Some (region_of s)
among_segments [] rest k s e = absurd (cc)
among_segments (t ∷ segments) rest zero s e = let same : t ≡ s = cc in ap (λ (x : Segment). Some (region_of x)) same
among_segments (t ∷ segments) rest (suc k) s e = among_segments segments rest k s e

behind_segments : (segments : List Segment) (rest : List Region) (k : ℕ) (r : Region) → slice_get rest k ≡ Some r → slice_get (map region_of segments ++ rest) (length segments + k) ≡ Some r
behind_segments [] rest k r e = rw (zero-add k) e
behind_segments (t ∷ segments) rest k r e = rw (suc-add (length segments) k) (behind_segments segments rest k r e)

pub segments_are_loaded : SegmentsAreLoaded
segments_are_loaded image input S k s e stands a n some inside =
    region_is_loaded image input S k (region_of s) e (among_segments image.segments (stacks (mode_of image.features)) k s stands) a n some inside

pub stacks_are_loaded : StacksAreLoaded
stacks_are_loaded image input S k r e stands a n some inside =
    let s = starts image input S e in
    let here : slice_get (stacks (mode_of image.features)) k ≡ Some r = subst (λ (T : State). slice_get (stacks T.mode) k ≡ Some r) s.begins stands in
    region_is_loaded image input S (length image.segments + k) r e (behind_segments image.segments (stacks (mode_of image.features)) k r here) a n some inside
