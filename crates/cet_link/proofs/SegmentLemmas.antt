-- The bytes of a class as they grow.
use Rattle.std.proofs.Common.{◌≡◌, ℕ, ◌+◌, ◌-◌, ◌<◌, false, cond, List, [], ◌∷◌, ◌++◌, length, get_or, take, replicate, refl, sym, ap, ◌∙◌, arith, append_assoc}
use Rattle.std.proofs.lemmas.List.{append-nil, length-append, length-replicate}
use Rattle.std.proofs.lemmas.List.Concat.{flat_map_single}
use Rattle.std.specs.List.{enumerate_from, flat_map}
use Rattle.cet_elf.specs.declared.object.Class.{Class}
use Rattle.cet_elf.specs.declared.object.Class.TheVariants as classes
use Rattle.cet_elf.specs.declared.object.Object.{Object}
use Rattle.cet_elf.specs.declared.object.Section.{Section}
use Rattle.cet_elf.specs.Consistent.{HasItsBytes}
use Rattle.cet_link.specs.Inputs.{Part, parts, parts_of}
use Rattle.cet_link.specs.Places.{is_class, start_behind}
use Rattle.cet_link.specs.Patched.{patched}
use Rattle.cet_elf.specs.declared.exec.ExecSegment.{ExecSegment}
use Rattle.cet_link.specs.Linked.{bytes_behind, segment, code_segment, read_segment, write_segment}
use Rattle.cet_link.specs.Places.{code_start, code_end, read_start, note_end, read_end, write_start, write_end}
use Rattle.cet_link.proofs.MeasureLemmas.{note_end-is}
use Rattle.cet_link.specs.Laid.{Gains, parts_in}
use Rattle.cet_link.proofs.LoopLemmas.{each_more}
use Rattle.cet_link.proofs.LayoutLemmas.{is_class-itself, start_behind-grows}
use Rattle.cet_link.proofs.PatchLemmas.{patched-length}

-- every section that is stored has as many bytes as its size
pub stored-size : (class : Class) (size : ℕ) (bytes : List ℕ) → is_class classes.Zero class ≡ false → HasItsBytes class size bytes → length bytes ≡ size
stored-size classes.Code size bytes g h = h
stored-size classes.Read size bytes g h = h
stored-size classes.Write size bytes g h = h
stored-size classes.Zero size bytes g h = absurd cc
stored-size classes.Group size bytes g h = h

pub Gains-none : (inputs : List Object) (note : List ℕ) (class : Class) (start : ℕ) (old : List ℕ) → Gains inputs note class start old old []
Gains-none inputs note class start old = λ others. refl

pub Gains-append : (inputs : List Object) (note : List ℕ) (class : Class) (start : ℕ) (old mid new : List ℕ) (xs ys : List Part)
    → Gains inputs note class start old mid xs → Gains inputs note class start mid new ys → Gains inputs note class start old new (xs ++ ys)
Gains-append inputs note class start old mid new xs ys f g = λ others.
    ap (λ zs. old ++ bytes_behind inputs note class (start + length old) zs) (append_assoc xs ys others) ∙ f (ys ++ others) ∙ g others

-- a section of another class adds nothing
pub Gains-other : (inputs : List Object) (note : List ℕ) (class : Class) (start : ℕ) (old : List ℕ) (p : Part) → is_class class p.section.class ≡ false
    → Gains inputs note class start old old (p ∷ [])
Gains-other inputs note class start old p h = λ others. rw h refl

-- a section of the class adds zeros and its own bytes
pub Gains-one : (inputs : List Object) (note : List ℕ) (start : ℕ) (old new : List ℕ) (p : Part) → length p.section.bytes ≡ p.section.size
    → new ≡ old ++ (replicate (start_behind (start + length old) p.section - (start + length old)) 0 ++ patched inputs note p)
    → Gains inputs note p.section.class start old new (p ∷ [])
Gains-one inputs note start old new p size h = λ others.
    let class = p.section.class in
    let end = start + length old in
    let here = start_behind end p.section in
    let zeros : List ℕ = replicate (here - end) 0 in
    let own = patched inputs note p in
    let grows = start_behind-grows end p.section in
    let long : length new ≡ length old + ((here - end) + p.section.size) =
    ap length h ∙ length-append old (zeros ++ own) ∙ ap (λ n. length old + n) (length-append zeros own ∙ ap (λ n. n + length own) (length-replicate (here - end) 0)
    ∙ ap (λ n. (here - end) + n) (patched-length inputs note p ∙ size)) in
    let next : here + p.section.size ≡ start + length new = omega (arith, long, grows) in
    ap (λ b. old ++ cond b (zeros ++ (own ++ bytes_behind inputs note class (here + p.section.size) others)) (bytes_behind inputs note class end others)) (is_class-itself class)
    ∙ ap (λ n. old ++ (zeros ++ (own ++ bytes_behind inputs note class n others))) next
    ∙ ap (λ zs. old ++ zs) (sym (append_assoc zeros own (bytes_behind inputs note class (start + length new) others)))
    ∙ sym (append_assoc old (zeros ++ own) (bytes_behind inputs note class (start + length new) others))
    ∙ ap (λ zs. zs ++ bytes_behind inputs note class (start + length new) others) (sym h)

-- the sections of an input, and of all inputs, one more
pub parts_in-more : (input : ℕ) (ss : List Section) (i : ℕ) (s : Section) → i < length ss → s ≡ get_or ss i s
    → parts_in input (take (i + 1) ss) ≡ parts_in input (take i ss) ++ record { input = input; number = i; section = s } ∷ []
parts_in-more input ss i s lt is =
    let part : ℕ × Section → Part = λ i. record { input = input; number = i.0; section = i.1 } in
    sym (flat_map_single part (enumerate_from 0 (take (i + 1) ss)))
    ∙ each_more (λ i. part i ∷ []) ss i s lt is
    ∙ ap (λ zs. zs ++ part (i, s) ∷ []) (flat_map_single part (enumerate_from 0 (take i ss)))

pub parts-is : (inputs : List Object) → parts inputs ≡ flat_map (λ i. parts_of i.0 i.1) (enumerate_from 0 inputs)
unfolding parts
parts-is inputs = refl

pub Gains-all : (inputs : List Object) (note : List ℕ) (class : Class) (start : ℕ) (old new : List ℕ) (xs : List Part)
    → Gains inputs note class start old new xs → new ≡ old ++ bytes_behind inputs note class (start + length old) xs
Gains-all inputs note class start old new xs g =
    sym (append-nil new) ∙ sym (g []) ∙ ap (λ zs. old ++ bytes_behind inputs note class (start + length old) zs) (append-nil xs)

-- ---- the segments

pub code_segment-is : (inputs : List Object) (note bytes : List ℕ) (end : ℕ) → end ≡ code_end inputs → bytes ≡ [] ++ bytes_behind inputs note classes.Code (4198400 + length {A = ℕ} []) (parts inputs)
    → segment 5 4198400 end bytes ≡ code_segment inputs note
unfolding code_segment code_start
code_segment-is inputs note bytes end he hb =
    ap (λ n. segment 5 4198400 n bytes) he ∙ ap (segment 5 4198400 (code_end inputs)) hb

pub read_segment-is : (inputs : List Object) (note bytes : List ℕ) (start end : ℕ) → start ≡ read_start inputs → end ≡ read_end inputs note
    → bytes ≡ note ++ bytes_behind inputs note classes.Read (start + length note) (parts inputs) → segment 4 start end bytes ≡ read_segment inputs note
unfolding read_segment
read_segment-is inputs note bytes start end hs he hb =
    let front : start + length note ≡ note_end inputs note = ap (λ n. n + length note) hs ∙ sym (note_end-is inputs note) in
    ap (λ n. segment 4 n end bytes) hs ∙ ap (λ n. segment 4 (read_start inputs) n bytes) he
    ∙ ap (segment 4 (read_start inputs) (read_end inputs note)) (hb ∙ ap (λ n. note ++ bytes_behind inputs note classes.Read n (parts inputs)) front)

pub write_segment-is : (inputs : List Object) (note bytes : List ℕ) (start end : ℕ) → start ≡ write_start inputs note → end ≡ write_end inputs note
    → bytes ≡ [] ++ bytes_behind inputs note classes.Write (start + length {A = ℕ} []) (parts inputs) → segment 6 start end bytes ≡ write_segment inputs note
unfolding write_segment
write_segment-is inputs note bytes start end hs he hb =
    let front : start + length {A = ℕ} [] ≡ write_start inputs note = omega (arith, hs) in
    ap (λ n. segment 6 n end bytes) hs ∙ ap (λ n. segment 6 (write_start inputs note) n bytes) he
    ∙ ap (segment 6 (write_start inputs note) (write_end inputs note)) (hb ∙ ap (λ n. bytes_behind inputs note classes.Write n (parts inputs)) front)

pub three : (none code read write a b c : List ExecSegment) → none ≡ [] → code ≡ none ++ a → read ≡ code ++ b → write ≡ read ++ c → write ≡ a ++ (b ++ c)
three none code read write a b c h0 h1 h2 h3 =
    h3 ∙ ap (λ xs. xs ++ c) (h2 ∙ ap (λ xs. xs ++ b) (h1 ∙ ap (λ xs. xs ++ a) h0)) ∙ append_assoc a b c
