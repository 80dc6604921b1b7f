-- The bytes of an image, by the segment that an address lies in.
use Rattle.std.proofs.Common.{◌≡◌, ℕ, suc, ◌+◌, ◌-◌, ◌<◌, ◌≤◌, ◌^◌, List, [], ◌∷◌, Bool, true, false, cond, length, drop, get_or, replicate, Option, Some, None, slice_get, find, option_copied, MatchOption, Bor, refl, sym, ap, ◌∙◌, arith, ◌&&◌, leb, ltb, leb-true, ltb-true, add-zero, inl, inr}
use Rattle.std.proofs.lemmas.List.{length-append, length-replicate, get_or-replicate, get_or_append_left, get_or-append_right, get_or-drop, length-drop, get_or_past}
use Rattle.std.proofs.lemmas.Option.{slice_get-get_or}
use Rattle.std.proofs.lemmas.Bool.{cases_lt}
use Rattle.cet_rules.specs.declared.segment.Segment.{Segment}
use Rattle.cet_rules.specs.declared.image.Image.{Image}
use Rattle.cet_rules.specs.Image.{contents_of, lies_in, bytes_from}
use Rattle.cet_image.specs.Contents.{IsSegmentAt}

-- a segment that is found holds the address, stands in the list, and has the bytes
record Found (segments : List Segment) (a : ℕ) (s : Segment) : Type 0 where
  holds : lies_in a s ≡ true
  bytes : bytes_from segments a ≡ drop (a - s.start) (contents_of s)
  place : ℕ
  stands : slice_get segments place ≡ Some s

found : (segments : List Segment) (a : ℕ) (s : Segment) → find (lies_in a) segments ≡ Some s → Found segments a s
unfolding bytes_from
found [] a s e = cc
found (t ∷ segments) a s e =
    elim (lies_in a t) as (λ b. lies_in a t ≡ b → cond b (Some t) (find (lies_in a) segments) ≡ Some s → Found (t ∷ segments) a s) [
      | true ↦ (λ holds e. let same : t ≡ s = cc in record { holds = ap (lies_in a) (sym same) ∙ holds; bytes = rw holds (ap (λ (u : Segment). drop (a - u.start) (contents_of u)) same); place = 0; stands = e })
      | false ↦ (λ holds e. let h = found segments a s e in record { holds = h.holds; bytes = rw holds h.bytes; place = suc h.place; stands = h.stands })
    ] refl e

pub not_found : (segments : List Segment) (a : ℕ) → find (lies_in a) segments ≡ None → bytes_from segments a ≡ []
unfolding bytes_from
not_found [] a e = refl
not_found (t ∷ segments) a e =
    elim (lies_in a t) as (λ b. lies_in a t ≡ b → cond b (Some t) (find (lies_in a) segments) ≡ None → bytes_from (t ∷ segments) a ≡ []) [
      | true ↦ (λ holds e. cc)
      | false ↦ (λ holds e. rw holds (not_found segments a e))
    ] refl e

both_true : (x y : Bool) → (x && y) ≡ true → (x ≡ true) × (y ≡ true)
both_true true y e = (refl, e)
both_true false y e = cc

pub segment_found : (image : Image) (a : ℕ) (s : Segment) → find (lies_in a) image.segments ≡ Some s → IsSegmentAt image a s
segment_found image a s e =
    let h = found image.segments a s e in
    let regular = image.segments_regular.each h.place s h.stands in
    let above : s.start ≤ a = leb-true s.start a (both_true (leb s.start a) (ltb a (s.start + s.size)) h.holds).0 in
    let below : a < s.start + s.size = ltb-true a (s.start + s.size) (both_true (leb s.start a) (ltb a (s.start + s.size)) h.holds).1 in
    record { above = above; below = below; bytes_fit = regular.bytes_fit; in_range = within (s.start + s.size) regular.in_range; bytes = h.bytes }
  where
    within : (n : ℕ) → n ≤ 2 ^ 47 → n < 2 ^ 64
    within n h = omega arith

pub length-contents : (s : Segment) → length s.bytes ≤ s.size → length (contents_of s) ≡ s.size
length-contents s fit = omega (arith, length-append s.bytes (replicate (s.size - length s.bytes) 0), length-replicate (s.size - length s.bytes) (let z : ℕ = 0 in z))

-- past the stored bytes there are zeros
pub contents_at : (s : Segment) (k : ℕ) → length s.bytes ≤ s.size → k < s.size → get_or (contents_of s) k 0 ≡ get_or s.bytes k 0
contents_at s k fit within =
    elim (cases_lt k (length s.bytes)) [
      | inl stored ↦ get_or_append_left s.bytes _ 0 k stored
      | inr past ↦ get_or-append_right s.bytes _ (length s.bytes) k 0 refl past ∙ (get_or-replicate (s.size - length s.bytes) (k - length s.bytes) 0 0 (omega arith) ∙ sym (get_or_past s.bytes k 0 past))
    ]

-- the byte at an address in a segment
pub byte_found : (image : Image) (a : ℕ) (s : Segment) → IsSegmentAt image a s → slice_get (bytes_from image.segments a) 0 ≡ Some (get_or s.bytes (a - s.start) 0)
byte_found image a s at =
    let long = length-contents s at.bytes_fit in
    let some : 0 < length (drop (a - s.start) (contents_of s)) = omega (arith, at.above, at.below, length-drop (a - s.start) (contents_of s), long) in
    let first : slice_get (drop (a - s.start) (contents_of s)) 0 ≡ Some (get_or (drop (a - s.start) (contents_of s)) 0 0) = slice_get-get_or (drop (a - s.start) (contents_of s)) 0 0 some in
    let value : get_or (drop (a - s.start) (contents_of s)) 0 0 ≡ get_or s.bytes (a - s.start) 0 =
    get_or-drop (a - s.start) (contents_of s) 0 0 ∙ (ap (λ (k : ℕ). get_or (contents_of s) k 0) (add-zero (a - s.start)) ∙ contents_at s (a - s.start) at.bytes_fit (omega (arith, at.above, at.below))) in
    ap (λ (b : List ℕ). slice_get b 0) at.bytes ∙ (first ∙ ap (λ (x : ℕ). Some x) value)

pub segment_by : (image : Image) (a : ℕ) (r : Option (Bor Segment)) → option_copied r ≡ find (lies_in a) image.segments → MatchOption r (bytes_from image.segments a ≡ []) (λ s. IsSegmentAt image a s.now)
segment_by image a None e = not_found image.segments a (sym e)
segment_by image a (Some s) e = segment_found image a s.now (sym e)
