-- What holds of segments and functions without a fault.
use Rattle.std.proofs.Common.{◌≡◌, ◌≢◌, ℕ, zero, suc, ◌+◌, ◌<◌, ◌≤◌, ◌^◌, max, min, ltb, ltb-true, ltb-false, Bool, true, false, ◌||◌, ◌&&◌, cond, List, [], ◌∷◌, length, filter, find, slice_get, Option, Some, None, option_map, refl, sym, ap, subst, ◌∙◌, arith, All}
use Rattle.std.specs.List.{Any}
use Rattle.std.specs.Option.{option_or}
use Rattle.std.proofs.lemmas.Option.{slice_get-map, slice_get_within, get_or_from_slice_get}
use Rattle.std.proofs.lemmas.List.Elements.{All-get_or, All-filter, filter_passes}
use Rattle.std.proofs.lemmas.List.{length-map}
use Rattle.cet_base.specs.declared.spans.Span.{Span}
use Rattle.cet_elf.specs.declared.exec.ExecSegment.{ExecSegment}
use Rattle.cet_elf.specs.declared.exec.ExecSymbol.{ExecSymbol}
use Rattle.cet_note.specs.declared.fault.NoteError.{NoteError}
use Rattle.cet_rules.specs.declared.segment.Segment.{Segment}
use Rattle.cet_rules.specs.declared.function.Function.{Function}
use Rattle.cet_rules.specs.Regular.{IsSegment, AreApart, AreSegments, IsFunction, AreFunctions}
use Rattle.cet_image.specs.declared.error.ImageError.{ImageError}
use Rattle.cet_image.specs.declared.error.ImageError.TheVariants.{Note, TooMany, Range, Overlap}
use Rattle.cet_image.specs.Executable.{segment_of, has_memory, segments_of, is_func, NamesFunction, AreFunctionsOf}
use Rattle.cet_image.specs.Faults.{span_of, spans_of, count_error, is_out_of_range, passes_end, range_error, share_byte, overlap_error, layout_error}

-- ---- options and lists

or_none : {X : Type 0} (a b : Option X) → option_or a b ≡ None → (a ≡ None) × (b ≡ None)
or_none None b e = (refl, e)
or_none (Some x) b e = cc

map_none : {X Y : Type 0} (f : X → Y) (o : Option X) → option_map f o ≡ None → o ≡ None
map_none f None e = refl
map_none f (Some x) e = cc

map_some : {X Y : Type 0} (f : X → Y) (o : Option X) (y : Y) → option_map f o ≡ Some y → (x : X) × (o ≡ Some x) × (f x ≡ y)
map_some f None y e = cc
map_some f (Some x) y e = (x, refl, cc)

cond_none : {X : Type 0} (b : Bool) (x : X) → cond b (Some x) None ≡ None → b ≡ false
cond_none true x e = cc
cond_none false x e = refl

or_false : (a b : Bool) → (a || b) ≡ false → (a ≡ false) × (b ≡ false)
or_false true b e = cc
or_false false b e = (refl, e)

not_found : {X : Type 0} (p : X → Bool) (y : X) (xs : List X) (b : Bool) → p y ≡ b → cond b (Some y) (find p xs) ≡ None → (p y ≡ false) × (find p xs ≡ None)
not_found p y xs true is e = cc
not_found p y xs false is e = (is, e)

and_true : (a b : Bool) → (a && b) ≡ true → (a ≡ true) × (b ≡ true)
and_true true b e = (refl, e)
and_true false b e = cc

-- no item passes
none_passes : {X : Type 0} (p : X → Bool) (xs : List X) (k : ℕ) (x : X) → find p xs ≡ None → slice_get xs k ≡ Some x → p x ≡ false
none_passes p [] k x none e = cc
none_passes p (y ∷ xs) zero x none e = ap p (let is : x ≡ y = cc in is) ∙ (not_found p y xs (p y) refl none).0
none_passes p (y ∷ xs) (suc k) x none e = none_passes p xs k x (not_found p y xs (p y) refl none).1 e

-- an item of a list that keeps P
all_keep : {X : Type 0} (P : X → Type 0) (xs : List X) (k : ℕ) (x : X) → All P xs → slice_get xs k ≡ Some x → P x
all_keep P xs k x all e = subst P (get_or_from_slice_get xs k x x e) (All-get_or P xs k x (slice_get_within xs k x e) all)

-- no two segments share a byte
none_shares : (xs : List Span) (j k : ℕ) (s t : Span) → overlap_error xs ≡ None → j < k → slice_get xs j ≡ Some s → slice_get xs k ≡ Some t → share_byte s t ≡ false
none_shares [] j k s t none jk ej ek = cc
none_shares (x ∷ xs) j zero s t none jk ej ek = absurd (omega arith)
none_shares (x ∷ xs) zero (suc k) s t none jk ej ek =
    let is : x ≡ s = cc in
    let alone = (or_none (option_map (λ (u : Span). Overlap x.start u.start) (find (share_byte x) xs)) (overlap_error xs) none).0 in
    ap (λ (y : Span). share_byte y t) (sym is) ∙ none_passes (share_byte x) xs k t (map_none (λ (u : Span). Overlap x.start u.start) (find (share_byte x) xs) alone) ek
none_shares (x ∷ xs) (suc j) (suc k) s t none jk ej ek =
    none_shares xs j k s t (or_none (option_map (λ (u : Span). Overlap x.start u.start) (find (share_byte x) xs)) (overlap_error xs) none).1 (omega arith) ej ek

-- ---- faults of a layout are no faults of the note

abbrev IsNoNote : Option ImageError → Type 0
IsNoNote (Some (Note x)) = ⊥
IsNoNote o = Unit {0}

or_no_note : (a b : Option ImageError) → IsNoNote a → IsNoNote b → IsNoNote (option_or a b)
or_no_note None b p q = q
or_no_note (Some x) b p q = p

count_no_note : (b : Bool) → IsNoNote (cond b (Some TooMany) None)
count_no_note true = tt
count_no_note false = tt

segment_no_note : (o : Option Span) → IsNoNote (option_map (λ s. Range s.start) o)
segment_no_note None = tt
segment_no_note (Some s) = tt

function_no_note : (o : Option Function) → IsNoNote (option_map (λ f. Range f.start) o)
function_no_note None = tt
function_no_note (Some f) = tt

pair_no_note : (s : Span) (o : Option Span) → IsNoNote (option_map (λ t. Overlap s.start t.start) o)
pair_no_note s None = tt
pair_no_note s (Some t) = tt

overlap_no_note : (xs : List Span) → IsNoNote (overlap_error xs)
overlap_no_note [] = tt
overlap_no_note (s ∷ later) =
    or_no_note (option_map (λ (t : Span). Overlap s.start t.start) (find (share_byte s) later)) (overlap_error later) (pair_no_note s (find (share_byte s) later)) (overlap_no_note later)

layout_no_note : (segments : List Span) (functions : List Function) → IsNoNote (layout_error segments functions)
layout_no_note segments functions =
    or_no_note (count_error segments functions) (option_or (range_error segments functions) (overlap_error segments)) (count_no_note (ltb 16 (length segments) || ltb 65536 (length functions)))
    (or_no_note (range_error segments functions) (overlap_error segments)
    (or_no_note (option_map (λ (s : Span). Range s.start) (find is_out_of_range segments)) (option_map (λ (f : Function). Range f.start) (find passes_end functions))
    (segment_no_note (find is_out_of_range segments)) (function_no_note (find passes_end functions))) (overlap_no_note segments))

pub layout_is_no_note : (segments : List Span) (functions : List Function) (e : ImageError) (x : NoteError) → layout_error segments functions ≡ Some e → e ≢ Note x
layout_is_no_note segments functions e x found is = subst IsNoNote (found ∙ ap Some is) (layout_no_note segments functions)

-- ---- the parts of a layout without a fault

record IsClear (segments : List Span) (functions : List Function) : Type 0 where
  few_segments : length segments ≤ 16
  few_functions : length functions ≤ 65536
  in_range : find is_out_of_range segments ≡ None
  not_past : find passes_end functions ≡ None
  apart : overlap_error segments ≡ None

clear : (segments : List Span) (functions : List Function) → layout_error segments functions ≡ None → IsClear segments functions
clear segments functions none =
    let counts = or_none (count_error segments functions) (option_or (range_error segments functions) (overlap_error segments)) none in
    let ranges = or_none (range_error segments functions) (overlap_error segments) counts.1 in
    let range = or_none (option_map (λ (s : Span). Range s.start) (find is_out_of_range segments)) (option_map (λ (f : Function). Range f.start) (find passes_end functions)) ranges.0 in
    let few = or_false (ltb 16 (length segments)) (ltb 65536 (length functions)) (cond_none (ltb 16 (length segments) || ltb 65536 (length functions)) TooMany counts.0) in
    record {
      few_segments = ltb-false 16 (length segments) few.0;
      few_functions = ltb-false 65536 (length functions) few.1;
      in_range = map_none (λ (s : Span). Range s.start) (find is_out_of_range segments) range.0;
      not_past = map_none (λ (f : Function). Range f.start) (find passes_end functions) range.1;
      apart = ranges.1;
    }

not_empty_from : (f : Function) (symbols : List ExecSymbol) → Any (NamesFunction f) symbols → 0 < f.size
not_empty_from f symbols (k, s, within, is, (names, addresses)) =
    let sized : ltb 0 s.size ≡ true = (and_true (is_func s.kind) (ltb 0 s.size) names).1 in
    subst (λ (g : Function). 0 < g.size) addresses (ltb-true 0 s.size sized)

-- ---- what every image keeps

module _ (segments : List ExecSegment) (fits : All (λ s. length s.bytes ≤ s.size) segments) (functions : List Function) (ok : IsClear (spans_of segments) functions) where
  record Stands (k : ℕ) (s : Segment) : Type 0 where
    from : ExecSegment
    at : slice_get (filter has_memory segments) k ≡ Some from
    span_at : slice_get (spans_of segments) k ≡ Some (span_of from)
    is : segment_of from ≡ s

  stands : (k : ℕ) (s : Segment) → slice_get (segments_of segments) k ≡ Some s → Stands k s
  stands k s e =
      let found = map_some segment_of (slice_get (filter has_memory segments) k) s (sym (slice_get-map segment_of (filter has_memory segments) k) ∙ e) in
      record {
        from = found.0;
        at = found.1;
        span_at = slice_get-map span_of (filter has_memory segments) k ∙ ap (option_map span_of) found.1;
        is = found.2;
      }

  in_limits : (s : ExecSegment) → length s.bytes ≤ s.size → has_memory s ≡ true → is_out_of_range (span_of s) ≡ false → IsSegment (segment_of s)
  unfolding segment_of
  in_limits s fit some range =
      let parts = or_false (ltb 16777216 s.size) (ltb (2 ^ 47) (s.start + s.size)) range in
      record {
        not_empty = ltb-true 0 s.size some;
        bytes_fit = fit;
        short = ltb-false 16777216 s.size parts.0;
        in_range = ltb-false (2 ^ 47) (s.start + s.size) parts.1;
      }

  each_segment : (k : ℕ) (s : Segment) → slice_get (segments_of segments) k ≡ Some s → IsSegment s
  each_segment k s e =
      let h = stands k s e in
      let fit = all_keep (λ (x : ExecSegment). length x.bytes ≤ x.size) (filter has_memory segments) k h.from (All-filter has_memory (λ x. length x.bytes ≤ x.size) segments fits) h.at in
      let some = all_keep (λ (x : ExecSegment). has_memory x ≡ true) (filter has_memory segments) k h.from (filter_passes has_memory segments) h.at in
      subst IsSegment h.is (in_limits h.from fit some (none_passes is_out_of_range (spans_of segments) k (span_of h.from) ok.in_range h.span_at))

  no_shared_byte : (x y : ExecSegment) → share_byte (span_of x) (span_of y) ≡ false → AreApart (segment_of x) (segment_of y)
  unfolding segment_of
  no_shared_byte x y apart a above below from =
      let none = ltb-false (max x.start y.start) (min (x.start + x.size) (y.start + y.size)) apart in
      omega arith

  two_apart : (j k : ℕ) (s t : Segment) → j < k → slice_get (segments_of segments) j ≡ Some s → slice_get (segments_of segments) k ≡ Some t → AreApart s t
  two_apart j k s t jk ej ek =
      let hj = stands j s ej in
      let hk = stands k t ek in
      let apart = no_shared_byte hj.from hk.from (none_shares (spans_of segments) j k (span_of hj.from) (span_of hk.from) ok.apart jk hj.span_at hk.span_at) in
      subst (λ (u : Segment). AreApart u t) hj.is (subst (λ (u : Segment). AreApart (segment_of hj.from) u) hk.is apart)

  few_copies : length (segments_of segments) ≤ 16
  few_copies = omega (arith, ok.few_segments, length-map (filter has_memory segments) segment_of, length-map (filter has_memory segments) span_of)

  are_segments : AreSegments (segments_of segments)
  are_segments = record { few = few_copies; each = each_segment; apart = two_apart }

  function_in_limits : (symbols : List ExecSymbol) → AreFunctionsOf symbols functions → (k : ℕ) (f : Function) → slice_get functions k ≡ Some f → IsFunction f
  function_in_limits symbols are k f e = record {
    not_empty = not_empty_from f symbols ((are.named f).0 (k, slice_get_within functions k f e, get_or_from_slice_get functions k f f e));
    in_range = ltb-false (2 ^ 47) (f.start + f.size) (none_passes passes_end functions k f ok.not_past e);
  }

  are_functions : (symbols : List ExecSymbol) → AreFunctionsOf symbols functions → AreFunctions functions
  are_functions symbols are = record { few = ok.few_functions; each = function_in_limits symbols are; ascending = are.ascending }

-- an image of segments and functions without a fault is regular
pub regular_segments : (segments : List ExecSegment) (spans : List Span) (functions : List Function) (copies : List Segment) → All (λ s. length s.bytes ≤ s.size) segments → spans ≡ spans_of segments
    → layout_error spans functions ≡ None → copies ≡ segments_of segments → AreSegments copies
regular_segments segments spans functions copies fits spans_are none copies_are =
    rw copies_are (are_segments segments fits functions (clear (spans_of segments) functions (rw spans_are at none)))

pub regular_functions : (segments : List ExecSegment) (spans : List Span) (functions : List Function) (symbols : List ExecSymbol) → All (λ s. length s.bytes ≤ s.size) segments → spans ≡ spans_of segments
    → layout_error spans functions ≡ None → AreFunctionsOf symbols functions → AreFunctions functions
regular_functions segments spans functions symbols fits spans_are none are =
    are_functions segments fits functions (clear (spans_of segments) functions (rw spans_are at none)) symbols are
