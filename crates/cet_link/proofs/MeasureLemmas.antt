-- Where the classes start and end, and whether they fit.
use Rattle.std.proofs.Common.{◌≡◌, ℕ, ◌+◌, ◌-◌, ◌^◌, ◌<◌, ◌≤◌, true, false, ◌&&◌, leb, List, length, Option, Some, None, refl, sym, ap, ◌∙◌, arith}
use Rattle.std.proofs.lemmas.Bool.{lt-leb, le-leb, leb-true, and_parts, and_from, and_left, and_right}
use Rattle.std.specs.Int.{next_multiple_of}
use Rattle.cet_elf.specs.declared.object.Class.{Class}
use Rattle.cet_elf.specs.declared.object.Class.TheVariants as classes
use Rattle.cet_elf.specs.declared.object.Object.{Object}
use Rattle.cet_link.specs.declared.layout.Frame.{Frame}
use Rattle.cet_link.specs.declared.layout.Ends.{Ends}
use Rattle.cet_link.specs.Places.{is_class, start_behind, end_behind, all_sections, section_at, sections_before, code_start, code_end, read_start, note_end, read_end, write_start, stored_end, write_end, front_of, place}
use Rattle.cet_link.specs.Faults.{classes_fit}
use Rattle.cet_link.specs.Laid.{IsFrame, end_in, place_in}
use Rattle.std.specs.Option.{option_map_or}
use Rattle.cet_elf.specs.declared.object.Section.{Section}
use Rattle.cet_link.proofs.LayoutLemmas.{end_behind-grows}

pub code_start-is : code_start ≡ 0x401000
unfolding code_start
code_start-is = refl

pub code_end-is : (inputs : List Object) → code_end inputs ≡ end_behind classes.Code 0x401000 (all_sections inputs)
unfolding code_start code_end
code_end-is inputs = refl

pub read_start-is : (inputs : List Object) → read_start inputs ≡ next_multiple_of (code_end inputs) 4096
unfolding read_start
read_start-is inputs = refl

pub note_end-is : (inputs : List Object) (note : List ℕ) → note_end inputs note ≡ read_start inputs + length note
unfolding note_end
note_end-is inputs note = refl

pub read_end-is : (inputs : List Object) (note : List ℕ) → read_end inputs note ≡ end_behind classes.Read (note_end inputs note) (all_sections inputs)
unfolding read_end
read_end-is inputs note = refl

pub write_start-is : (inputs : List Object) (note : List ℕ) → write_start inputs note ≡ next_multiple_of (read_end inputs note) 4096
unfolding write_start
write_start-is inputs note = refl

pub stored_end-is : (inputs : List Object) (note : List ℕ) → stored_end inputs note ≡ end_behind classes.Write (write_start inputs note) (all_sections inputs)
unfolding stored_end
stored_end-is inputs note = refl

pub write_end-is : (inputs : List Object) (note : List ℕ) → write_end inputs note ≡ end_behind classes.Zero (stored_end inputs note) (all_sections inputs)
unfolding write_end
write_end-is inputs note = refl

-- ---- what has been measured, on the way

pub code-measured : (inputs : List Object) (code : ℕ) → code ≡ end_behind classes.Code 0x401000 (all_sections inputs) → code ≡ code_end inputs
code-measured inputs code h = h ∙ sym (code_end-is inputs)

pub read-started : (inputs : List Object) (code read : ℕ) → code ≡ code_end inputs → read ≡ next_multiple_of code 4096 → read ≡ read_start inputs
read-started inputs code read hc h = h ∙ ap (λ n. next_multiple_of n 4096) hc ∙ sym (read_start-is inputs)

pub note-ended : (inputs : List Object) (note : List ℕ) (read : ℕ) → read ≡ read_start inputs → read + length note ≡ note_end inputs note
note-ended inputs note read h = ap (λ n. n + length note) h ∙ sym (note_end-is inputs note)

pub read-measured : (inputs : List Object) (note : List ℕ) (from end : ℕ) → from ≡ note_end inputs note → end ≡ end_behind classes.Read from (all_sections inputs) → end ≡ read_end inputs note
read-measured inputs note from end hf h = h ∙ ap (λ n. end_behind classes.Read n (all_sections inputs)) hf ∙ sym (read_end-is inputs note)

pub write-started : (inputs : List Object) (note : List ℕ) (end start : ℕ) → end ≡ read_end inputs note → start ≡ next_multiple_of end 4096 → start ≡ write_start inputs note
write-started inputs note end start he h = h ∙ ap (λ n. next_multiple_of n 4096) he ∙ sym (write_start-is inputs note)

pub stored-measured : (inputs : List Object) (note : List ℕ) (start end : ℕ) → start ≡ write_start inputs note → end ≡ end_behind classes.Write start (all_sections inputs) → end ≡ stored_end inputs note
stored-measured inputs note start end hs h = h ∙ ap (λ n. end_behind classes.Write n (all_sections inputs)) hs ∙ sym (stored_end-is inputs note)

pub write-measured : (inputs : List Object) (note : List ℕ) (stored end : ℕ) → stored ≡ stored_end inputs note → end ≡ end_behind classes.Zero stored (all_sections inputs) → end ≡ write_end inputs note
write-measured inputs note stored end hs h = h ∙ ap (λ n. end_behind classes.Zero n (all_sections inputs)) hs ∙ sym (write_end-is inputs note)

-- ---- a class that does not fit

pub past-code : (inputs : List Object) (note : List ℕ) → 20975616 < end_behind classes.Code 0x401000 (all_sections inputs) → classes_fit inputs note ≡ false
past-code inputs note h =
    let start = code_start-is in
    let end = code_end-is inputs in
    and_left _ (leb (write_end inputs note - write_start inputs note) 16777216)
    (and_left _ (leb (read_end inputs note - read_start inputs) 16777216) (lt-leb (code_end inputs - code_start) 16777216 (omega (arith, start, end, h))))

past-read-class : (inputs : List Object) (note : List ℕ) → read_start inputs + 16777216 < read_end inputs note → classes_fit inputs note ≡ false
past-read-class inputs note h =
    and_left _ (leb (write_end inputs note - write_start inputs note) 16777216)
    (and_right (leb (code_end inputs - code_start) 16777216) _ (lt-leb (read_end inputs note - read_start inputs) 16777216 (omega arith)))

past-write-class : (inputs : List Object) (note : List ℕ) → write_start inputs note + 16777216 < write_end inputs note → classes_fit inputs note ≡ false
past-write-class inputs note h =
    and_right (leb (code_end inputs - code_start) 16777216 && leb (read_end inputs note - read_start inputs) 16777216) _
    (lt-leb (write_end inputs note - write_start inputs note) 16777216 (omega arith))

pub past-note : (inputs : List Object) (note : List ℕ) → 16777216 < length note → classes_fit inputs note ≡ false
past-note inputs note h =
    let end = read_end-is inputs note in
    let front = note_end-is inputs note in
    let grows = end_behind-grows classes.Read (note_end inputs note) (all_sections inputs) in
    past-read-class inputs note (omega (arith, end, front, grows))

pub past-read : (inputs : List Object) (note : List ℕ) (start from : ℕ) → start ≡ read_start inputs → from ≡ note_end inputs note
    → start + 16777216 < end_behind classes.Read from (all_sections inputs) → classes_fit inputs note ≡ false
past-read inputs note start from hs hf h =
    let end : end_behind classes.Read from (all_sections inputs) ≡ read_end inputs note = ap (λ n. end_behind classes.Read n (all_sections inputs)) hf ∙ sym (read_end-is inputs note) in
    past-read-class inputs note (omega (arith, hs, end, h))

pub past-stored : (inputs : List Object) (note : List ℕ) (start : ℕ) → start ≡ write_start inputs note
    → start + 16777216 < end_behind classes.Write start (all_sections inputs) → classes_fit inputs note ≡ false
past-stored inputs note start hs h =
    let stored : end_behind classes.Write start (all_sections inputs) ≡ stored_end inputs note = ap (λ n. end_behind classes.Write n (all_sections inputs)) hs ∙ sym (stored_end-is inputs note) in
    let grows = end_behind-grows classes.Zero (stored_end inputs note) (all_sections inputs) in
    let end = write_end-is inputs note in
    past-write-class inputs note (omega (arith, hs, stored, grows, end, h))

pub past-write : (inputs : List Object) (note : List ℕ) (start stored : ℕ) → start ≡ write_start inputs note → stored ≡ stored_end inputs note
    → start + 16777216 < end_behind classes.Zero stored (all_sections inputs) → classes_fit inputs note ≡ false
past-write inputs note start stored hs ht h =
    let end : end_behind classes.Zero stored (all_sections inputs) ≡ write_end inputs note = ap (λ n. end_behind classes.Zero n (all_sections inputs)) ht ∙ sym (write_end-is inputs note) in
    past-write-class inputs note (omega (arith, hs, end, h))

-- ---- all fit

pub all-fit : (inputs : List Object) (note : List ℕ) → code_end inputs ≤ 20975616 → read_end inputs note ≤ read_start inputs + 16777216 → write_end inputs note ≤ write_start inputs note + 16777216
    → classes_fit inputs note ≡ true
all-fit inputs note hc hr hw =
    let start = code_start-is in
    and_from (leb (code_end inputs - code_start) 16777216 && leb (read_end inputs note - read_start inputs) 16777216) (leb (write_end inputs note - write_start inputs note) 16777216)
    (and_from (leb (code_end inputs - code_start) 16777216) (leb (read_end inputs note - read_start inputs) 16777216) (le-leb _ _ (omega arith)) (le-leb _ _ (omega arith)))
    (le-leb _ _ (omega arith))

pub record AreBounded (inputs : List Object) (note : List ℕ) : Type 0 where
  pub code : code_end inputs < 2 ^ 40
  pub read_start : read_start inputs < 2 ^ 40
  pub write_start : write_start inputs note < 2 ^ 40
  pub read : read_end inputs note < 2 ^ 40
  pub stored : stored_end inputs note < 2 ^ 40
  pub write : write_end inputs note < 2 ^ 40

pub bounded : (inputs : List Object) (note : List ℕ) → classes_fit inputs note ≡ true → AreBounded inputs note
bounded inputs note h =
    let parts = and_parts (leb (code_end inputs - code_start) 16777216 && leb (read_end inputs note - read_start inputs) 16777216) (leb (write_end inputs note - write_start inputs note) 16777216) h in
    let firsts = and_parts (leb (code_end inputs - code_start) 16777216) (leb (read_end inputs note - read_start inputs) 16777216) parts.0 in
    let code = leb-true (code_end inputs - code_start) 16777216 firsts.0 in
    let read = leb-true (read_end inputs note - read_start inputs) 16777216 firsts.1 in
    let write = leb-true (write_end inputs note - write_start inputs note) 16777216 parts.1 in
    let start = code_start-is in
    let rs = read_start-is inputs in
    let ws = write_start-is inputs note in
    let we = write_end-is inputs note in
    let grows = end_behind-grows classes.Zero (stored_end inputs note) (all_sections inputs) in
    record {
      code = omega (arith, code, start);
      read_start = omega (arith, code, start, rs);
      write_start = omega (arith, code, start, read, rs, ws);
      read = omega (arith, code, start, read, rs);
      stored = omega (arith, code, start, read, rs, write, ws, we, grows);
      write = omega (arith, code, start, read, rs, write, ws);
    }

abbrev pub ends_of : Frame → Ends
ends_of f = record { code = 0x401000; read = f.note_end; write = f.write_start; zero = f.stored_end }

pub front-is : (inputs : List Object) (note : List ℕ) (f : Frame) → IsFrame inputs note f → (class : Class) → end_in (ends_of f) class ≡ front_of inputs note class
unfolding front_of
front-is inputs note f h classes.Code = sym code_start-is
front-is inputs note f h classes.Read = h.note_end
front-is inputs note f h classes.Write = h.write_start
front-is inputs note f h classes.Zero = h.stored_end
front-is inputs note f h classes.Group = refl

pub frame-room : (inputs : List Object) (note : List ℕ) (f : Frame) → classes_fit inputs note ≡ true → IsFrame inputs note f
    → (class : Class) → is_class classes.Group class ≡ false → end_behind class (end_in (ends_of f) class) (all_sections inputs) < 2 ^ 48
frame-room inputs note f fit h classes.Code g = let b = bounded inputs note fit in let e = code_end-is inputs in omega (arith, b.code, e)
frame-room inputs note f fit h classes.Read g =
    let b = bounded inputs note fit in let e : end_behind classes.Read f.note_end (all_sections inputs) ≡ read_end inputs note = ap (λ n. end_behind classes.Read n (all_sections inputs)) h.note_end ∙ sym (read_end-is inputs note) in omega (arith, b.read, e)
frame-room inputs note f fit h classes.Write g =
    let b = bounded inputs note fit in let e : end_behind classes.Write f.write_start (all_sections inputs) ≡ stored_end inputs note = ap (λ n. end_behind classes.Write n (all_sections inputs)) h.write_start ∙ sym (stored_end-is inputs note) in omega (arith, b.stored, e)
frame-room inputs note f fit h classes.Zero g =
    let b = bounded inputs note fit in let e : end_behind classes.Zero f.stored_end (all_sections inputs) ≡ write_end inputs note = ap (λ n. end_behind classes.Zero n (all_sections inputs)) h.stored_end ∙ sym (write_end-is inputs note) in omega (arith, b.write, e)
frame-room inputs note f fit h classes.Group g = absurd cc

-- ---- the places that follow

places-at : (front other : Class → ℕ) → ((class : Class) → front class ≡ other class) → (before : List Section) (found : Option Section)
    → option_map_or (λ s. start_behind (end_behind s.class (front s.class) before) s) found 0 ≡ option_map_or (λ s. start_behind (end_behind s.class (other s.class) before) s) found 0
places-at front other h before None = refl
places-at front other h before (Some s) = ap (λ e. start_behind (end_behind s.class e before) s) (h s.class)

pub place_in-is : (inputs : List Object) (note : List ℕ) (f : Frame) (e : Ends) → e ≡ ends_of f → IsFrame inputs note f → (input number : ℕ)
    → place_in (end_in e) inputs input number ≡ place inputs note input number
unfolding place
place_in-is inputs note f e is h input number =
    places-at (end_in e) (front_of inputs note) (λ class. ap (λ (x : Ends). end_in x class) is ∙ front-is inputs note f h class) (sections_before inputs input number) (section_at inputs input number)

-- ---- each class ends behind its start

pub record AreOrdered (inputs : List Object) (note : List ℕ) : Type 0 where
  pub code : 4198400 ≤ code_end inputs
  pub read : read_start inputs ≤ read_end inputs note
  pub write : write_start inputs note ≤ write_end inputs note

pub ordered : (inputs : List Object) (note : List ℕ) → AreOrdered inputs note
ordered inputs note =
    let all = all_sections inputs in
    let code = end_behind-grows classes.Code 0x401000 all in
    let read = end_behind-grows classes.Read (note_end inputs note) all in
    let stored = end_behind-grows classes.Write (write_start inputs note) all in
    let write = end_behind-grows classes.Zero (stored_end inputs note) all in
    let c = code_end-is inputs in
    let n = note_end-is inputs note in
    let r = read_end-is inputs note in
    let s = stored_end-is inputs note in
    let w = write_end-is inputs note in
    record { code = omega (arith, code, c); read = omega (arith, read, n, r); write = omega (arith, stored, s, write, w) }
