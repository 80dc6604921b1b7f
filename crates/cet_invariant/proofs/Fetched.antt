-- The code bytes of memory are the image's: which instruction a thread runs that stands at a position of a function.
use Rattle.std.proofs.Common.{◌≡◌, ℕ, suc, ◌+◌, ◌-◌, ◌<◌, ◌≤◌, ◌⊎◌, min, inl, inr, Bool, true, false, cond, not, ◌&&◌, List, [], ◌∷◌, ◌++◌, length, take, drop, replicate, slice_get, Some, Result, Ok, Err, nat_eq, refl, sym, ap, ◌∙◌, subst, arith, append_assoc, length-append, length-take, take-append-drop, if◌then◌else◌}
use Rattle.std.specs.List.{starts_with}
use Rattle.std.proofs.lemmas.Bool.{and_parts, and_from, leb-true, ltb-true, le-leb, ne_eqb}
use Rattle.std.proofs.lemmas.List.{length-replicate, drop-append-le, drop_at, drop-drop}
use Rattle.std.proofs.Math.Nat.{div-mul-le_self}
use Rattle.cet_isa.specs.declared.instruction.Insn.{Insn}
use Rattle.cet_isa.specs.declared.instruction.Insn.TheVariants as insn
use Rattle.cet_isa.specs.declared.decode_error.DecodeError.TheVariants.{Short, Outside}
use Rattle.cet_isa.specs.declared.fault.Fault.TheVariants.{Page}
use Rattle.cet_isa.specs.declared.registers.Mode.{Mode}
use Rattle.cet_isa.specs.Decoded.{Decoding, decoded}
use Rattle.cet_isa.proofs.Laws.{outside_stays}
use Rattle.cet_isa.proofs.Stays.{decoded_stays, decoded_within, decoded_endbr64}
use Rattle.cet_machine.specs.declared.memory.Region.{Region}
use Rattle.cet_machine.specs.Memory.{holds, code_at}
use Rattle.cet_machine.specs.Memory as memory
use Rattle.cet_machine.specs.Machine.{Machine, plus}
use Rattle.cet_machine.specs.Step.{Faulted, executed, executed_if_form, endbr64_bytes, step_over, step}
use Rattle.cet_rules.specs.declared.function.Function.{Function}
use Rattle.cet_rules.specs.declared.image.Image.{Image}
use Rattle.cet_rules.specs.declared.segment.Segment.{Segment}
use Rattle.cet_rules.specs.Image.{contents_of, lies_in, bytes_from, code_from, end_of}
use Rattle.cet_process.specs.Start.{first_page, end_of_pages, region_of}
use Rattle.cet_invariant.specs.Contexts.{HasImage}

-- ---- the bytes of a segment, among those of its pages

-- the segment that a lies in, and the bytes from a to its end
pub record Holds (image : Image) (a : ℕ) : Type 0 where
  pub place : ℕ
  pub segment : Segment
  pub stands : slice_get image.segments place ≡ Some segment
  pub from : segment.start ≤ a
  pub below : a < segment.start + segment.size
  pub bytes : bytes_from image.segments a ≡ drop (a - segment.start) (contents_of segment)

Found : List Segment → ℕ → Type 0
Found segments a = (k : ℕ) × (s : Segment) × (slice_get segments k ≡ Some s) × (lies_in a s ≡ true) × (bytes_from segments a ≡ drop (a - s.start) (contents_of s))

of_first : (s : Segment) (segments : List Segment) (a : ℕ) (c : Bool) → lies_in a s ≡ c → 0 < length (cond c (drop (a - s.start) (contents_of s)) (bytes_from segments a))
    → (0 < length (bytes_from segments a) → Found segments a) → Found (s ∷ segments) a
unfolding Found bytes_from
of_first s segments a true is some later = (0, s, refl, is, rw is refl)
of_first s segments a false is some later = let l = later some in (suc l.0, l.1, l.2, l.3, rw is l.4)

found : (segments : List Segment) (a : ℕ) → 0 < length (bytes_from segments a) → Found segments a
unfolding bytes_from
found [] a some = absurd (omega arith)
found (s ∷ segments) a some = of_first s segments a (lies_in a s) refl some (found segments a)

pub holder : (image : Image) (a : ℕ) → 0 < length (bytes_from image.segments a) → Holds image a
unfolding Found
holder image a some =
    let at = found image.segments a some in
    let parts = and_parts _ _ at.3 in
    record { place = at.0; segment = at.1; stands = at.2; from = leb-true at.1.start a parts.0; below = ltb-true a (at.1.start + at.1.size) parts.1; bytes = at.4 }

length_of_contents : (s : Segment) → length s.bytes ≤ s.size → length (contents_of s) ≡ s.size
length_of_contents s fits = omega (arith, length-append {A = ℕ}, length-replicate {A = ℕ})

-- the bytes after the segment, to the end of its pages
abbrev pub rest_of_pages : Segment → List ℕ
rest_of_pages s = replicate (end_of_pages s - (s.start + s.size)) 0

-- an address of the segment lies in its pages
in_pages : (s : Segment) (a : ℕ) → length s.bytes ≤ s.size → s.start ≤ a → a < s.start + s.size → holds a 1 (region_of s) ≡ true
in_pages s a fits from below =
    let low : first_page s ≤ s.start = div-mul-le_self s.start 4096 in
    and_from _ _ (le-leb (first_page s) a (omega (arith, low, from)))
    (le-leb (a + 1) (first_page s + length (region_of s).bytes) (omega (arith, low, from, below, fits, length-append {A = ℕ}, length-replicate {A = ℕ})))

-- what the pages have from there on: the rest of the segment, then zeros
from_pages : (s : Segment) (a : ℕ) → length s.bytes ≤ s.size → s.start ≤ a → a < s.start + s.size
    → memory.bytes_from (region_of s) a ≡ drop (a - s.start) (contents_of s) ++ rest_of_pages s
from_pages s a fits from below =
    let low : first_page s ≤ s.start = div-mul-le_self s.start 4096 in
    let front = s.start - first_page s in
    let whole = replicate front 0 ++ (contents_of s ++ rest_of_pages s) in
    let parts : a - first_page s ≡ front + (a - s.start) = omega (arith, low, from) in
    ap (λ (l : List ℕ). drop (a - first_page s) l) (append_assoc (replicate front 0) (contents_of s) (rest_of_pages s))
    ∙ ap (λ (n : ℕ). drop n whole) parts ∙ sym (drop-drop (a - s.start) front whole)
    ∙ ap (λ (l : List ℕ). drop (a - s.start) l) (drop_at (replicate front 0) (contents_of s ++ rest_of_pages s) front (length-replicate front 0))
    ∙ drop-append-le (a - s.start) (contents_of s) (rest_of_pages s) (omega (arith, length_of_contents s fits, from, below))

-- ---- what is fetched

code_of : Bool → List ℕ → List ℕ
code_of executable bytes = if executable then bytes else []

-- at an address of a segment: the image's bytes from there on, and zeros after them, where the segment is executable
code_here : (image : Image) (M : List Region) (a : ℕ) → HasImage image M → (h : Holds image a)
    → code_at M a ≡ code_of h.segment.executable (bytes_from image.segments a ++ rest_of_pages h.segment)
unfolding code_of
code_here image M a has h =
    let fits : length h.segment.bytes ≤ h.segment.size = (image.segments_regular.each h.place h.segment h.stands).bytes_fit in
    has.code h.place h.segment h.stands a (in_pages h.segment a fits h.from h.below)
    ∙ ap (code_of h.segment.executable) (from_pages h.segment a fits h.from h.below ∙ ap (λ (l : List ℕ). l ++ rest_of_pages h.segment) (sym h.bytes))

-- ---- a step over code whose first form is known

-- the step does what the instruction does, or ends in a page fault: where no code stands at rip, or the form does not end within 15 bytes
abbrev pub Runs : Insn → ℕ → Mode → ℕ → Machine → Type 0
Runs x n mode free m = (step mode free m ≡ executed x n mode free m) ⊎ ((a : ℕ) × (step mode free m ≡ Faulted (Page a)))

ok_is : {A E : Type 0} (x y : A) → ◌≡◌ {A = Result A E} (Ok x) (Ok y) → x ≡ y
ok_is x y e = cc

of_window : (code : List ℕ) (x : Insn) (n : ℕ) (mode : Mode) (free : ℕ) (m : Machine) (d : Decoding) → decoded code ≡ Ok (x, n) → decoded (take 15 code) ≡ d
    → (executed_if_form d (length (take 15 code)) mode free m ≡ executed x n mode free m) ⊎ ((a : ℕ) × (executed_if_form d (length (take 15 code)) mode free m ≡ Faulted (Page a)))
of_window code x n mode free m (Ok y) e window =
    let same : ◌≡◌ {A = Decoding} (Ok y) (Ok (x, n)) = sym (decoded_stays (take 15 code) (drop 15 code) y window) ∙ ap decoded (take-append-drop 15 code) ∙ e in
    inl (ap (λ (z : Insn × ℕ). executed z.0 z.1 mode free m) (ok_is y (x, n) same))
of_window code x n mode free m (Err Short) e window = inr (plus m.regs.rip (length (take 15 code)), refl)
of_window code x n mode free m (Err Outside) e window =
    let clash : ◌≡◌ {A = Decoding} (Err Outside) (Ok (x, n)) = sym (outside_stays (take 15 code) (drop 15 code) window) ∙ ap decoded (take-append-drop 15 code) ∙ e in
    absurd (cc)

-- the tracker's test passes
test_passes : (waiting starts : Bool) → (waiting ≡ true → starts ≡ true) → (waiting && not starts) ≡ false
test_passes true starts h = rw (h refl) refl
test_passes false starts h = refl

-- fifteen bytes hold those of an ENDBR64
starts_window : (code : List ℕ) → starts_with nat_eq code endbr64_bytes ≡ true → starts_with nat_eq (take 15 code) endbr64_bytes ≡ true
starts_window [] e = e
starts_window (a ∷ []) e = e
starts_window (a ∷ b ∷ []) e = e
starts_window (a ∷ b ∷ c ∷ []) e = e
starts_window (a ∷ b ∷ c ∷ d ∷ code) e = e

-- where ENDBR64 is decoded, its bytes are the first that are fetched
window_marked : (code : List ℕ) (n : ℕ) → decoded code ≡ Ok (insn.EndBr64, n) → starts_with nat_eq (take 15 code) endbr64_bytes ≡ true
window_marked code n e = starts_window code (decoded_endbr64 code n e)

window_runs : (code : List ℕ) (x : Insn) (n : ℕ) (mode : Mode) (free : ℕ) (m : Machine) → decoded code ≡ Ok (x, n) → (m.regs.waiting ≡ true → x ≡ insn.EndBr64)
    → step_over (take 15 code) mode free m ≡ executed_if_form (decoded (take 15 code)) (length (take 15 code)) mode free m
window_runs code x n mode free m e landing =
    let fits = decoded_within code x n e in
    let size : length (take 15 code) ≡ min 15 (length code) = length-take 15 code in
    let marked : m.regs.waiting ≡ true → starts_with nat_eq (take 15 code) endbr64_bytes ≡ true =
    λ waits. window_marked code n (subst (λ (y : Insn). decoded code ≡ Ok (y, n)) (landing waits) e) in
    rw (ne_eqb (length (take 15 code)) 0 (λ none. omega (arith, fits.0, fits.1, size, none)), test_passes m.regs.waiting (starts_with nat_eq (take 15 code) endbr64_bytes) marked) refl

code_runs : (code : List ℕ) (x : Insn) (n : ℕ) (mode : Mode) (free : ℕ) (m : Machine) → code_at m.memory m.regs.rip ≡ code → decoded code ≡ Ok (x, n) → (m.regs.waiting ≡ true → x ≡ insn.EndBr64)
    → Runs x n mode free m
unfolding step
code_runs code x n mode free m here e landing =
    let over : step mode free m ≡ executed_if_form (decoded (take 15 code)) (length (take 15 code)) mode free m =
    ap (λ (c : List ℕ). step_over (take 15 c) mode free m) here ∙ window_runs code x n mode free m e landing in
    elim (of_window code x n mode free m (decoded (take 15 code)) e refl) [
      | inl runs ↦ inl (over ∙ runs)
      | inr page ↦ inr (page.0, over ∙ page.1)
    ]

no_code_faults : (mode : Mode) (free : ℕ) (m : Machine) → code_at m.memory m.regs.rip ≡ [] → step mode free m ≡ Faulted (Page m.regs.rip)
unfolding step
no_code_faults mode free m here = ap (λ (c : List ℕ). step_over (take 15 c) mode free m) here

-- what a step at an instruction of the function does
pub form_runs : (image : Image) (f : Function) (x : Insn) (n : ℕ) (mode : Mode) (free : ℕ) (m : Machine) → HasImage image m.memory → decoded (code_from image f m.regs.rip) ≡ Ok (x, n)
    → (m.regs.waiting ≡ true → x ≡ insn.EndBr64) → Runs x n mode free m
unfolding code_of
form_runs image f x n mode free m has e landing =
    let a = m.regs.rip in
    let bytes = bytes_from image.segments a in
    let size = end_of f - a in
    let fits = decoded_within (code_from image f a) x n e in
    let h = holder image a (omega (arith, fits.0, fits.1, length-take size bytes)) in
    let zeros = rest_of_pages h.segment in
    let stays : decoded (bytes ++ zeros) ≡ Ok (x, n) =
    ap decoded (ap (λ (l : List ℕ). l ++ zeros) (sym (take-append-drop size bytes)) ∙ append_assoc (take size bytes) (drop size bytes) zeros)
    ∙ decoded_stays (take size bytes) (drop size bytes ++ zeros) (x, n) e in
    by_kind (h.segment.executable) (bytes ++ zeros) stays (code_here image m.memory a has h)
  where
    by_kind : (executable : Bool) (code : List ℕ) → decoded code ≡ Ok (x, n) → code_at m.memory m.regs.rip ≡ code_of executable code → Runs x n mode free m
    by_kind true code stays here = code_runs code x n mode free m here stays landing
    by_kind false code stays here = inr (m.regs.rip, no_code_faults mode free m here)
