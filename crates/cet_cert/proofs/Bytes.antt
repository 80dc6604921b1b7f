-- Windows of the bytes of an image, and what is decoded of them.
use Rattle.std.proofs.Common.{◌≡◌, ℕ, ◌+◌, ◌-◌, ◌<◌, ◌≤◌, ◌^◌, List, length, take, drop, get_or, Option, Some, None, find, option_map, Ok, Err, refl, sym, ap, ◌∙◌, arith, min}
use Rattle.std.proofs.lemmas.List.{ext_get_or, get_or-take, get_or-drop, length-take, length-drop}
use Rattle.std.proofs.lemmas.Option.{some_pair_parts}
use Rattle.std.specs.Result.{result_ok}
use Rattle.cet_rules.specs.declared.segment.Segment.{Segment}
use Rattle.cet_rules.specs.declared.image.Image.{Image}
use Rattle.cet_rules.specs.Image.{contents_of, lies_in, bytes_from}
use Rattle.cet_isa.specs.Decoded.{Decoding}
use Rattle.cet_isa.specs.declared.instruction.Insn.{Insn}
use Rattle.cet_rules.specs.declared.covered.Covered.{Covered}
use Rattle.cet_rules.specs.Covered.{covered_of}
use Rattle.cet_rules.specs.Piece.{covered_in}
use Rattle.cet_image.specs.Contents.{IsSegmentAt}
use Rattle.cet_image.proofs.SegmentBytes.{not_found, segment_found, length-contents, contents_at}

-- a window that was filled byte by byte is the code
pub window_filled : (image : Image) (a left count : ℕ) (s : Segment) (window : List ℕ) → IsSegmentAt image a s → count ≡ min (min 15 left) (s.size - (a - s.start)) → count ≤ length window →
    ((k : ℕ) → k < count → get_or window k 0 ≡ get_or s.bytes ((a - s.start) + k) 0) → take count window ≡ take 15 (take left (bytes_from image.segments a))
window_filled image a left count s window at count_is fits filled =
    let rest : List ℕ = drop (a - s.start) (contents_of s) in
    let long : length rest ≡ s.size - (a - s.start) = omega (arith, length-drop (a - s.start) (contents_of s), length-contents s at.bytes_fit) in
    let same_length : length (take count window) ≡ length (take 15 (take left rest)) = omega (arith, count_is, fits, long, length-take count window, length-take 15 (take left rest), length-take left rest) in
    rw at.bytes (ext_get_or 0 (take count window) (take 15 (take left rest)) same_length (λ k h.
    let below : k < count = omega (arith, h, length-take count window) in
    let in15 : k < 15 = omega (arith, below, count_is) in
    let in_left : k < left = omega (arith, below, count_is) in
    let in_segment : (a - s.start) + k < s.size = omega (arith, below, count_is) in
    get_or-take count window k 0 below ∙ (filled k below ∙ sym (
    get_or-take 15 (take left rest) k 0 in15 ∙ (get_or-take left rest k 0 in_left ∙ (get_or-drop (a - s.start) (contents_of s) k 0 ∙ contents_at s ((a - s.start) + k) at.bytes_fit in_segment))))))

pub covered_none : (r : Decoding) → result_ok r ≡ None → covered_in r ≡ None
covered_none (Ok x) e = cc
covered_none (Err why) e = refl

pub covered_some : (r : Decoding) (i : Insn) (n : ℕ) (j : Covered) → result_ok r ≡ Some (i, n) → covered_of i ≡ Some j → covered_in r ≡ Some (j, n)
covered_some (Ok (k, m)) i n j e is =
    let same = some_pair_parts k i m n e in
    ap (option_map {U = Covered × ℕ} (λ (l : Covered). (l, m))) (ap covered_of same.0 ∙ is) ∙ ap (λ (l : ℕ). Some (j, l)) same.1
covered_some (Err why) i n j e is = cc

-- the bytes from an address on end before 2^64
pub bytes_in_range : (image : Image) (a : ℕ) → 0 < length (bytes_from image.segments a) → a + length (bytes_from image.segments a) < 2 ^ 64
bytes_in_range image a some = by_segment (find (lies_in a) image.segments) refl
  where
    by_segment : (o : Option Segment) → find (lies_in a) image.segments ≡ o → a + length (bytes_from image.segments a) < 2 ^ 64
    by_segment None e = absurd (omega (arith, some, ap (λ (b : List ℕ). length b) (not_found image.segments a e)))
    by_segment (Some s) e =
        let at = segment_found image a s e in
        omega (arith, at.above, at.below, at.in_range, ap (λ (b : List ℕ). length b) at.bytes, length-drop (a - s.start) (contents_of s), length-contents s at.bytes_fit)
