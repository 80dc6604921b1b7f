-- Where the segments of an image lie that can be loaded: below 2^32.
use Rattle.std.proofs.Common.{◌≡◌, ℕ, zero, suc, ◌+◌, ◌-◌, ◌%◌, ◌^◌, ◌<◌, ◌≤◌, Bool, true, false, not, cond, nat_le, List, [], ◌∷◌, slice_get, find, Option, Some, None, refl, sym, ap, ◌∙◌, arith, lit<, mod-lt, length-take}
use Rattle.std.proofs.lemmas.Bool.{and_parts, leb-true, not-false}
use Rattle.std.proofs.Math.Nat.{mod-add-div'}
use Rattle.cet_rules.specs.declared.covered.Covered.{Covered}
use Rattle.cet_rules.specs.declared.function.Function.{Function}
use Rattle.cet_rules.specs.declared.segment.Segment.{Segment}
use Rattle.cet_rules.specs.declared.image.Image.{Image}
use Rattle.cet_rules.specs.Image.{bytes_from, end_of}
use Rattle.cet_rules.specs.Piece.{instruction_at}
use Rattle.cet_isa.proofs.Stays.{decoded_within}
use Rattle.cet_process.specs.declared.load_error.LoadError.{LoadError}
use Rattle.cet_process.specs.Start.{first_page, end_of_pages, is_in_place, misplaced_or, first_shared, load_error}
use Rattle.cet_invariant.proofs.Fetched.{holder}
use Rattle.cet_invariant.proofs.Instructions.{read_form}

-- where nothing is found, each fails the test
none_passes : (test : Segment → Bool) (segments : List Segment) (k : ℕ) (s : Segment) → find test segments ≡ None → slice_get segments k ≡ Some s → test s ≡ false
none_passes test [] k s none stands = absurd cc
none_passes test (t ∷ segments) k s none stands = of_first (test t) refl none k stands (none_passes test segments)
  where
    of_first : (b : Bool) → test t ≡ b → cond b (Some t) (find test segments) ≡ None → (k : ℕ) → slice_get (t ∷ segments) k ≡ Some s
        → ((k : ℕ) (s : Segment) → find test segments ≡ None → slice_get segments k ≡ Some s → test s ≡ false) → test s ≡ false
    of_first true is none k stands later = absurd cc
    of_first false is none zero stands later = let same : t ≡ s = cc in sym (ap test same) ∙ is
    of_first false is none (suc k) stands later = later k s none stands

none_misplaced : (o : Option Segment) (shared : Option LoadError) → misplaced_or o shared ≡ None → o ≡ None
none_misplaced None shared e = refl
none_misplaced (Some s) shared e = absurd cc

-- a segment of an image that can be loaded ends below 2^32
pub segment_below : (image : Image) (k : ℕ) (s : Segment) → load_error image ≡ None → slice_get image.segments k ≡ Some s → s.start + s.size < 2 ^ 32
segment_below image k s loaded stands =
    let none = none_misplaced (find (λ t. not (is_in_place t)) image.segments) (first_shared image.segments) loaded in
    let placed = and_parts (nat_le 4096 (first_page s)) (nat_le (end_of_pages s) (2 ^ 32 - 65536)) (not-false (is_in_place s) (none_passes (λ t. not (is_in_place t)) image.segments k s none stands)) in
    let ends : end_of_pages s ≤ 2 ^ 32 - 65536 = leb-true (end_of_pages s) (2 ^ 32 - 65536) placed.1 in
    let whole : (s.start + s.size + 4095) % 4096 + end_of_pages s ≡ s.start + s.size + 4095 = mod-add-div' (s.start + s.size + 4095) 4096 in
    let rest : (s.start + s.size + 4095) % 4096 < 4096 = mod-lt (s.start + s.size + 4095) (lit< tt) in
    omega (arith, ends, whole, rest)

-- and so does each instruction of a function
pub instruction_below : (image : Image) (f : Function) (a : ℕ) (i : Covered) (n : ℕ) → load_error image ≡ None → instruction_at image f a ≡ Some (i, n) → a < 2 ^ 32
instruction_below image f a i n loaded e =
    let read = read_form image f a i n e in
    let fits = decoded_within _ read.0 n read.1 in
    let h = holder image a (omega (arith, fits.0, fits.1, length-take (end_of f - a) (bytes_from image.segments a))) in
    let below = segment_below image h.place h.segment loaded h.stands in
    omega (arith, below, h.below)
