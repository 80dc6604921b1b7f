-- The memory of a loaded process: the regions of its segments and its stacks do not meet.
use Rattle.std.proofs.Common.{◌≡◌, ℕ, suc, ◌+◌, ◌-◌, ◌%◌, ◌^◌, ◌<◌, ◌≤◌, inl, inr, Bool, true, false, not, nat_le, min, max, List, [], ◌∷◌, ◌++◌, map, length, slice_get, Option, Some, None, refl, sym, subst, ◌∙◌, arith, if◌then◌else◌, length-append, lit<, lit≤}
use Rattle.std.specs.List.{find}
use Rattle.std.proofs.lemmas.Bool.{cases_Bool, cond-true, cond-false, and_parts, leb-true, ltb-false, not-false}
use Rattle.std.proofs.lemmas.List.{length-replicate}
use Rattle.std.proofs.Math.Nat.{div-mul-le_self, mod-add-div', mod-lt}
use Rattle.cet_base.specs.Span.{Meets}
use Rattle.cet_rules.specs.declared.segment.Segment.{Segment}
use Rattle.cet_rules.specs.declared.image.Image.{Image}
use Rattle.cet_rules.specs.Regular.{IsSegment}
use Rattle.cet_isa.specs.declared.registers.Mode.{Mode}
use Rattle.cet_machine.specs.declared.memory.Kind.{Kind}
use Rattle.cet_machine.specs.declared.memory.Kind.TheVariants.{Write, Shadow}
use Rattle.cet_machine.specs.declared.memory.Region.{Region}
use Rattle.cet_machine.specs.Memory.{gap, span, MeetsNone, AreDisjoint, zeros}
use Rattle.cet_process.specs.declared.load_error.LoadError.{LoadError}
use Rattle.cet_process.specs.Start.{page_of, page_above, first_page, end_of_pages, region_of, is_in_place, share_a_page, shared_or, first_shared, misplaced_or, load_error, stack_start, stack_size, shadow_stack_start, shadow_stack_size, stacks}
use Rattle.cet_process.specs.Laws.{IsFarIfHigh, IsFarFromAll, AreFar}
use Rattle.cet_process.proofs.Inserted.{AllApart}

-- ---- pages

page_of-le : (a : ℕ) → page_of a ≤ a
page_of-le a = div-mul-le_self a 4096

le-page_above : (a : ℕ) → a ≤ page_above a
le-page_above a =
    let whole : (a + 4095) % 4096 + page_above a ≡ a + 4095 = mod-add-div' (a + 4095) 4096 in
    let rest : (a + 4095) % 4096 < 4096 = mod-lt (a + 4095) (lit< tt) in
    omega (arith, whole, rest)

-- the pages of a segment are the addresses of its region
region_end : (s : Segment) → length s.bytes ≤ s.size → first_page s + length (region_of s).bytes ≡ end_of_pages s
region_end s fits =
    let low : first_page s ≤ s.start = page_of-le s.start in
    let high : s.start + s.size ≤ end_of_pages s = le-page_above (s.start + s.size) in
    omega (arith, low, high, length-append {A = ℕ}, length-replicate {A = ℕ})

-- ---- segments that are apart

-- each segment is regular
abbrev AreRegular : List Segment → Type 0
AreRegular [] = Unit {0}
AreRegular (s ∷ segments) = IsSegment s × AreRegular segments

regular_each : (segments : List Segment) → ((k : ℕ) (s : Segment) → slice_get segments k ≡ Some s → IsSegment s) → AreRegular segments
regular_each [] each = tt
regular_each (s ∷ segments) each = (each 0 s refl, regular_each segments (λ k t e. each (suc k) t e))

pages_apart : (s t : Segment) → IsSegment s → IsSegment t → share_a_page s t ≡ false → ¬ Meets (span (region_of s)) (span (region_of t))
pages_apart s t of_s of_t e = λ (a, in_s, in_t).
    let above : min (end_of_pages s) (end_of_pages t) ≤ max (first_page s) (first_page t) = ltb-false (max (first_page s) (first_page t)) (min (end_of_pages s) (end_of_pages t)) e in
    let below_s : a < end_of_pages s = subst (λ (n : ℕ). a < n) (region_end s of_s.bytes_fit) in_s.1 in
    let below_t : a < end_of_pages t = subst (λ (n : ℕ). a < n) (region_end t of_t.bytes_fit) in_t.1 in
    let from_s : first_page s ≤ a = in_s.0 in
    let from_t : first_page t ≤ a = in_t.0 in
    omega (arith, above, below_s, below_t, from_s, from_t)

-- where none is found, the first fails and none is found behind it
none_of_find : (p : Segment → Bool) (s : Segment) (segments : List Segment) → find p (s ∷ segments) ≡ None → (p s ≡ false) × (find p segments ≡ None)
none_of_find p s segments e = elim (cases_Bool (p s)) [
  | inl passes ↦ let clash : Some s ≡ None = sym (cond-true (p s) (Some s) (find p segments) passes) ∙ e in absurd (cc)
  | inr fails ↦ (fails, sym (cond-false (p s) (Some s) (find p segments) fails) ∙ e)
]

meets_none : (s : Segment) (segments : List Segment) (rest : List Region) → IsSegment s → AreRegular segments → find (share_a_page s) segments ≡ None → MeetsNone (region_of s) rest
    → MeetsNone (region_of s) (map region_of segments ++ rest)
meets_none s [] rest of_s regular e apart = apart
meets_none s (t ∷ segments) rest of_s regular e apart =
    let parts = none_of_find (share_a_page s) t segments e in
    (pages_apart s t of_s regular.0 parts.0, meets_none s segments rest of_s regular.1 parts.1 apart)

none_shared : (s : Segment) (o : Option Segment) (later : Option LoadError) → shared_or s o later ≡ None → (o ≡ None) × (later ≡ None)
none_shared s None later e = (refl, e)
none_shared s (Some t) later e = absurd (cc)

segments_disjoint : (segments : List Segment) (rest : List Region) → AreRegular segments → first_shared segments ≡ None → AllApart (map region_of segments) rest → AreDisjoint rest
    → AreDisjoint (map region_of segments ++ rest)
segments_disjoint [] rest regular e apart of_rest = of_rest
segments_disjoint (s ∷ segments) rest regular e apart of_rest =
    let parts = none_shared s (find (share_a_page s) segments) (first_shared segments) e in
    (meets_none s segments rest regular.0 regular.1 parts.0 apart.0, segments_disjoint segments rest regular.1 parts.1 apart.1 of_rest)

-- ---- stacks

-- a segment in place ends below the stacks
below_stacks : (s : Segment) (at len : ℕ) (kind : Kind) → IsSegment s → not (is_in_place s) ≡ false → 2 ^ 32 ≤ at → ¬ Meets (span (region_of s)) (span (zeros at len kind))
below_stacks s at len kind of_s placed high = λ (a, in_s, in_stack).
    let parts = and_parts (nat_le 4096 (first_page s)) (nat_le (end_of_pages s) (2 ^ 32 - 65536)) (not-false (is_in_place s) placed) in
    let ends : end_of_pages s ≤ 2 ^ 32 - 65536 = leb-true (end_of_pages s) (2 ^ 32 - 65536) parts.1 in
    let below : a < end_of_pages s = subst (λ (n : ℕ). a < n) (region_end s of_s.bytes_fit) in_s.1 in
    let from : at ≤ a = in_stack.0 in
    omega (arith, ends, below, from, high)

stacks_apart : (mode : Mode) (s : Segment) → IsSegment s → not (is_in_place s) ≡ false → MeetsNone (region_of s) (stacks mode)
stacks_apart mode s of_s placed = (
  below_stacks s stack_start stack_size Write of_s placed (lit≤ tt),
  elim (mode.shstk) as (λ b. MeetsNone (region_of s) (if b then zeros shadow_stack_start shadow_stack_size Shadow ∷ [] else [])) [
    | true ↦ (below_stacks s shadow_stack_start shadow_stack_size Shadow of_s placed (lit≤ tt), tt)
    | false ↦ tt
  ],
)

all_below_stacks : (mode : Mode) (segments : List Segment) → AreRegular segments → find (λ s. not (is_in_place s)) segments ≡ None → AllApart (map region_of segments) (stacks mode)
all_below_stacks mode [] regular e = tt
all_below_stacks mode (s ∷ segments) regular e =
    let parts = none_of_find (λ s. not (is_in_place s)) s segments e in
    (stacks_apart mode s regular.0 parts.0, all_below_stacks mode segments regular.1 parts.1)

-- regions of zeros, one below the other
zeros_apart : (at len from size : ℕ) (kind other : Kind) → from + size ≤ at → ¬ Meets (span (zeros at len kind)) (span (zeros from size other))
zeros_apart at len from size kind other below = λ (a, in_first, in_second).
    let high : at ≤ a = in_first.0 in
    let low : a < from + size = subst (λ (n : ℕ). a < from + n) (length-replicate size 0) in_second.1 in
    omega (arith, below, high, low)

shadow_below : shadow_stack_start + shadow_stack_size ≤ stack_start
unfolding shadow_stack_size
shadow_below = lit≤ tt

stacks_disjoint : (mode : Mode) → AreDisjoint (stacks mode)
stacks_disjoint mode =
    elim (mode.shstk) as (λ b. AreDisjoint (zeros stack_start stack_size Write ∷ (if b then zeros shadow_stack_start shadow_stack_size Shadow ∷ [] else []))) [
      | true ↦ ((zeros_apart stack_start stack_size shadow_stack_start shadow_stack_size Write Shadow shadow_below, tt), (tt, tt))
      | false ↦ (tt, tt)
    ]

-- ---- the whole

abbrev pub regions_of : List Segment → Mode → List Region
regions_of segments mode = map region_of segments ++ stacks mode

none_misplaced : (o : Option Segment) (shared : Option LoadError) → misplaced_or o shared ≡ None → (o ≡ None) × (shared ≡ None)
none_misplaced None shared e = (refl, e)
none_misplaced (Some s) shared e = absurd (cc)

pub regions_disjoint : (image : Image) (mode : Mode) → load_error image ≡ None → AreDisjoint (regions_of image.segments mode)
regions_disjoint image mode e =
    let regular = regular_each image.segments image.segments_regular.each in
    let parts = none_misplaced (find (λ s. not (is_in_place s)) image.segments) (first_shared image.segments) e in
    segments_disjoint image.segments (stacks mode) regular parts.1 (all_below_stacks mode image.segments regular parts.0) (stacks_disjoint mode)

-- ---- a gap apart

-- segments begin below 2^32
low_start : (s : Segment) → IsSegment s → not (is_in_place s) ≡ false → first_page s < 2 ^ 32
low_start s of_s placed =
    let parts = and_parts (nat_le 4096 (first_page s)) (nat_le (end_of_pages s) (2 ^ 32 - 65536)) (not-false (is_in_place s) placed) in
    let ends : end_of_pages s ≤ 2 ^ 32 - 65536 = leb-true (end_of_pages s) (2 ^ 32 - 65536) parts.1 in
    let whole : first_page s + length (region_of s).bytes ≡ end_of_pages s = region_end s of_s.bytes_fit in
    omega (arith, ends, whole)

low_pair : (s t : Segment) → first_page s < 2 ^ 32 → first_page t < 2 ^ 32 → IsFarIfHigh (region_of s) (region_of t)
low_pair s t low_s low_t = λ high some_s some_t. absurd (omega (arith, high, low_s, low_t))

far_below_stacks : (s : Segment) (at len : ℕ) (kind : Kind) → IsSegment s → not (is_in_place s) ≡ false → 2 ^ 32 ≤ at → IsFarIfHigh (region_of s) (zeros at len kind)
far_below_stacks s at len kind of_s placed high = λ is_high some_s some_stack.
    let parts = and_parts (nat_le 4096 (first_page s)) (nat_le (end_of_pages s) (2 ^ 32 - 65536)) (not-false (is_in_place s) placed) in
    let ends : end_of_pages s ≤ 2 ^ 32 - 65536 = leb-true (end_of_pages s) (2 ^ 32 - 65536) parts.1 in
    let whole : first_page s + length (region_of s).bytes ≡ end_of_pages s = region_end s of_s.bytes_fit in
    inl (omega (arith, ends, whole, high))

stacks_far : (mode : Mode) (s : Segment) → IsSegment s → not (is_in_place s) ≡ false → IsFarFromAll (region_of s) (stacks mode)
stacks_far mode s of_s placed = (
  far_below_stacks s stack_start stack_size Write of_s placed (lit≤ tt),
  elim (mode.shstk) as (λ b. IsFarFromAll (region_of s) (if b then zeros shadow_stack_start shadow_stack_size Shadow ∷ [] else [])) [
    | true ↦ (far_below_stacks s shadow_stack_start shadow_stack_size Shadow of_s placed (lit≤ tt), tt)
    | false ↦ tt
  ],
)

far_from_segments : (s : Segment) (segments : List Segment) (rest : List Region) → first_page s < 2 ^ 32 → AreRegular segments → find (λ t. not (is_in_place t)) segments ≡ None
    → IsFarFromAll (region_of s) rest → IsFarFromAll (region_of s) (map region_of segments ++ rest)
far_from_segments s [] rest low regular e far = far
far_from_segments s (t ∷ segments) rest low regular e far =
    let parts = none_of_find (λ t. not (is_in_place t)) t segments e in
    (low_pair s t low (low_start t regular.0 parts.0), far_from_segments s segments rest low regular.1 parts.1 far)

shadow_far_below : shadow_stack_start + shadow_stack_size + gap ≤ stack_start
unfolding shadow_stack_size
shadow_far_below = lit≤ tt

stack_pair : IsFarIfHigh (zeros stack_start stack_size Write) (zeros shadow_stack_start shadow_stack_size Shadow)
stack_pair = λ high some_stack some_shadow.
    let size : length (zeros shadow_stack_start shadow_stack_size Shadow).bytes ≡ shadow_stack_size = length-replicate shadow_stack_size 0 in
    inr (omega (arith, size, shadow_far_below))

stacks_are_far : (mode : Mode) → AreFar (stacks mode)
stacks_are_far mode =
    elim (mode.shstk) as (λ b. AreFar (zeros stack_start stack_size Write ∷ (if b then zeros shadow_stack_start shadow_stack_size Shadow ∷ [] else []))) [
      | true ↦ ((stack_pair, tt), (tt, tt))
      | false ↦ (tt, tt)
    ]

segments_far : (mode : Mode) (segments : List Segment) → AreRegular segments → find (λ t. not (is_in_place t)) segments ≡ None → AreFar (regions_of segments mode)
segments_far mode [] regular e = stacks_are_far mode
segments_far mode (s ∷ segments) regular e =
    let parts = none_of_find (λ t. not (is_in_place t)) s segments e in
    (far_from_segments s segments (stacks mode) (low_start s regular.0 parts.0) regular.1 parts.1 (stacks_far mode s regular.0 parts.0), segments_far mode segments regular.1 parts.1)

pub regions_far : (image : Image) (mode : Mode) → load_error image ≡ None → AreFar (regions_of image.segments mode)
regions_far image mode e =
    let regular = regular_each image.segments image.segments_regular.each in
    let parts = none_misplaced (find (λ s. not (is_in_place s)) image.segments) (first_shared image.segments) e in
    segments_far mode image.segments regular parts.0
