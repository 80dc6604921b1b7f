-- The executable of inputs without a fault can be written.
use Rattle.std.proofs.Common.{◌≡◌, ℕ, ◌+◌, ◌-◌, ◌^◌, ◌<◌, ◌≤◌, Bool, true, false, cond, ◌&&◌, not, eqb, List, [], ◌∷◌, ◌++◌, length, map, filter, replicate, All, Option, Some, None, refl, sym, ap, ◌∙◌, subst, arith}
use Rattle.std.proofs.lemmas.List.{map-append, length-append, length-replicate}
use Rattle.std.proofs.lemmas.List.Elements.{All-nil, All-cons, All-head, All-tail, All-append, All-map, All-weaker, All-filter}
use Rattle.std.proofs.lemmas.Bool.{eqb-false, ltb-true, and_parts, false≢true, not-true}
use Rattle.std.specs.List.{enumerate_from, flat_map, filter_map, cons_option, find, fold, sum_by}
use Rattle.std.specs.Option.{option_or}
use Rattle.cet_elf.specs.declared.object.Class.{Class}
use Rattle.cet_elf.specs.declared.object.Class.TheVariants as classes
use Rattle.cet_elf.specs.declared.object.Object.{Object}
use Rattle.cet_elf.specs.declared.object.Section.{Section}
use Rattle.cet_elf.specs.declared.object.Symbol.{Symbol}
use Rattle.cet_elf.specs.declared.object.SymbolKind.{SymbolKind}
use Rattle.cet_elf.specs.declared.object.SymbolKind.TheVariants as kinds
use Rattle.cet_elf.specs.declared.exec.ExecSegment.{ExecSegment}
use Rattle.cet_elf.specs.declared.exec.ExecSymbol.{ExecSymbol}
use Rattle.cet_elf.specs.Consistent.{HasNoZero, IsConsistent, IsConsistentSection, IsConsistentSymbol}
use Rattle.cet_exec.specs.Regular.{IsRegularSegment, IsRegularSymbol, IsRegularExec}
use Rattle.cet_link.specs.declared.error.LinkError.{LinkError}
use Rattle.cet_link.specs.Inputs.{Met, Part, symbols_of, symbols, parts_of, parts}
use Rattle.cet_link.specs.Names.{is_local, is_undefined, defines_global, defines_weak, definition_of, names_met}
use Rattle.cet_link.specs.Places.{is_class, start_behind, end_behind, all_sections, code_start, code_end, read_start, note_end, read_end, write_start, stored_end, write_end}
use Rattle.cet_link.specs.Patched.{patched}
use Rattle.cet_link.specs.Linked.{bytes_behind, segment, code_segment, read_segment, write_segment, is_section, is_empty, is_kept, exec_symbol, locals, definitions, kept_symbols, exec_symbols, note_of, linked}
use Rattle.cet_link.specs.First.{where_true}
use Rattle.cet_link.specs.Faults.{input_faults, undefined_faults, entry_faults, size_faults, overflow_faults, classes_fit, names_fit, faults}
use Rattle.cet_link.proofs.LayoutLemmas.{is_class-same, start_behind-grows, end_behind-grows}
use Rattle.cet_link.proofs.MeasureLemmas.{code_start-is, code_end-is, note_end-is, read_end-is, stored_end-is, write_end-is}
use Rattle.cet_link.proofs.PatchLemmas.{patched-length}
use Rattle.cet_link.proofs.SegmentLemmas.{stored-size}

-- ---- the stored bytes of a class end where its sections do

abbrev IsSized : Section → Type 0
IsSized s = is_class classes.Zero s.class ≡ false → length s.bytes ≡ s.size

abbrev sections_in : List Part → List Section
sections_in ps = map (λ p. p.section) ps

bytes-step : (inputs : List Object) (note : List ℕ) (class : Class) (end : ℕ) (p : Part) (ps : List Part) → is_class classes.Zero class ≡ false → IsSized p.section
    → ((n : ℕ) → n + length (bytes_behind inputs note class n ps) ≡ end_behind class n (sections_in ps)) → (b : Bool) → is_class class p.section.class ≡ b
    → end + length (cond b (replicate (start_behind end p.section - end) 0 ++ (patched inputs note p ++ bytes_behind inputs note class (start_behind end p.section + p.section.size) ps)) (bytes_behind inputs note class end ps))
    ≡ end_behind class (cond b (start_behind end p.section + p.section.size) end) (sections_in ps)
bytes-step inputs note class end p ps stored sized rest true e =
    let own_class : is_class classes.Zero p.section.class ≡ false = ap (is_class classes.Zero) (sym (is_class-same class p.section.class e)) ∙ stored in
    let own : length (patched inputs note p) ≡ p.section.size = patched-length inputs note p ∙ sized own_class in
    let next = rest (start_behind end p.section + p.section.size) in
    let zeros = length-replicate {A = ℕ} (start_behind end p.section - end) 0 in
    let grows = start_behind-grows end p.section in
    let first = length-append (replicate (start_behind end p.section - end) 0) (patched inputs note p ++ bytes_behind inputs note class (start_behind end p.section + p.section.size) ps) in
    let second = length-append (patched inputs note p) (bytes_behind inputs note class (start_behind end p.section + p.section.size) ps) in
    omega (arith, own, next, zeros, grows, first, second)
bytes-step inputs note class end p ps stored sized rest false e = rest end

bytes-end : (inputs : List Object) (note : List ℕ) (class : Class) (end : ℕ) (ps : List Part) → is_class classes.Zero class ≡ false → All IsSized (sections_in ps)
    → end + length (bytes_behind inputs note class end ps) ≡ end_behind class end (sections_in ps)
bytes-end inputs note class end [] stored sized = omega arith
bytes-end inputs note class end (p ∷ ps) stored sized =
    bytes-step inputs note class end p ps stored (All-head IsSized p.section (sections_in ps) sized)
    (λ n. bytes-end inputs note class n ps stored (All-tail IsSized p.section (sections_in ps) sized)) (is_class class p.section.class) refl

own-sections : (input n : ℕ) (ss : List Section) → sections_in (map (λ i. record { input = input; number = i.0; section = i.1 }) (enumerate_from n ss)) ≡ ss
own-sections input n [] = refl
own-sections input n (s ∷ ss) = ap (λ zs. s ∷ zs) (own-sections input (n + 1) ss)

sections-from : (n : ℕ) (inputs : List Object) → sections_in (flat_map (λ i. parts_of i.0 i.1) (enumerate_from n inputs)) ≡ flat_map (λ (o : Object). o.sections) inputs
sections-from n [] = refl
sections-from n (o ∷ os) =
    map-append (λ (p : Part). p.section) (parts_of n o) (flat_map (λ i. parts_of i.0 i.1) (enumerate_from (n + 1) os))
    ∙ ap (λ zs. zs ++ sections_in (flat_map (λ i. parts_of i.0 i.1) (enumerate_from (n + 1) os))) (own-sections n 0 o.sections)
    ∙ ap (λ zs. o.sections ++ zs) (sections-from (n + 1) os)

sections-of-parts : (inputs : List Object) → sections_in (parts inputs) ≡ all_sections inputs
unfolding parts all_sections
sections-of-parts inputs = sections-from 0 inputs

sized-sections : (inputs : List Object) → All IsConsistent inputs → All IsSized (all_sections inputs)
unfolding all_sections
sized-sections [] h = All-nil IsSized
sized-sections (o ∷ os) h =
    let c = All-head IsConsistent o os h in
    All-append IsSized o.sections (flat_map (λ (p : Object). p.sections) os)
    (All-weaker (IsConsistentSection (length o.symbols)) IsSized (λ s cs stored. stored-size s.class s.size s.bytes stored cs.bytes) o.sections c.sections)
    (sized-sections os (All-tail IsConsistent o os h))

class-end : (inputs : List Object) (note : List ℕ) (class : Class) (end : ℕ) → All IsConsistent inputs → is_class classes.Zero class ≡ false
    → end + length (bytes_behind inputs note class end (parts inputs)) ≡ end_behind class end (all_sections inputs)
class-end inputs note class end h stored =
    bytes-end inputs note class end (parts inputs) stored (subst (λ (ss : List Section). All IsSized ss) (sym (sections-of-parts inputs)) (sized-sections inputs h))
    ∙ ap (end_behind class end) (sections-of-parts inputs)

-- ---- segments

segment-regular : (flags start end : ℕ) (bytes : List ℕ) → flags < 8 → length bytes ≤ end - start → All IsRegularSegment (segment flags start end bytes)
segment-regular flags start end bytes few stored = by (eqb (end - start) 0) refl where
  by : (b : Bool) → eqb (end - start) 0 ≡ b → All IsRegularSegment (cond b [] (record { start = start; size = end - start; flags = flags; bytes = bytes } ∷ []))
  by true e = All-nil IsRegularSegment
  by false e =
      let some : end - start ≡ 0 → ⊥ = eqb-false (end - start) 0 e in
      All-cons IsRegularSegment (record { start = start; size = end - start; flags = flags; bytes = bytes }) [] (record { has_size = omega (arith, some); stored = stored; flags = few }) (All-nil IsRegularSegment)

segment-few : (flags start end : ℕ) (bytes : List ℕ) → length (segment flags start end bytes) ≤ 1
segment-few flags start end bytes = by (eqb (end - start) 0) where
  by : (b : Bool) → length {A = ExecSegment} (cond b [] (record { start = start; size = end - start; flags = flags; bytes = bytes } ∷ [])) ≤ 1
  by true = omega arith
  by false = omega arith

code-regular : (inputs : List Object) (note : List ℕ) → All IsConsistent inputs → All IsRegularSegment (code_segment inputs note) × (length (code_segment inputs note) ≤ 1)
unfolding code_segment
code-regular inputs note h =
    let whole = class-end inputs note classes.Code code_start h refl in
    let start = code_start-is in
    let same : end_behind classes.Code code_start (all_sections inputs) ≡ code_end inputs = ap (λ n. end_behind classes.Code n (all_sections inputs)) start ∙ sym (code_end-is inputs) in
    (segment-regular 5 code_start (code_end inputs) _ (omega arith) (omega (arith, whole, same)), segment-few 5 code_start (code_end inputs) _)

read-regular : (inputs : List Object) (note : List ℕ) → All IsConsistent inputs → All IsRegularSegment (read_segment inputs note) × (length (read_segment inputs note) ≤ 1)
unfolding read_segment
read-regular inputs note h =
    let whole = class-end inputs note classes.Read (note_end inputs note) h refl in
    let front = note_end-is inputs note in
    let end = read_end-is inputs note in
    let long = length-append note (bytes_behind inputs note classes.Read (note_end inputs note) (parts inputs)) in
    (segment-regular 4 (read_start inputs) (read_end inputs note) _ (omega arith) (omega (arith, whole, front, end, long)), segment-few 4 (read_start inputs) (read_end inputs note) _)

write-regular : (inputs : List Object) (note : List ℕ) → All IsConsistent inputs → All IsRegularSegment (write_segment inputs note) × (length (write_segment inputs note) ≤ 1)
unfolding write_segment
write-regular inputs note h =
    let whole = class-end inputs note classes.Write (write_start inputs note) h refl in
    let stored = stored_end-is inputs note in
    let end = write_end-is inputs note in
    let grows = end_behind-grows classes.Zero (stored_end inputs note) (all_sections inputs) in
    (segment-regular 6 (write_start inputs note) (write_end inputs note) _ (omega arith) (omega (arith, whole, stored, end, grows)), segment-few 6 (write_start inputs note) (write_end inputs note) _)

-- ---- symbols

abbrev IsNamed : Met → Type 0
IsNamed m = HasNoZero m.symbol.name

names-from : (n : ℕ) (inputs : List Object) → All IsConsistent inputs → All IsNamed (flat_map (λ i. symbols_of i.0 i.1) (enumerate_from n inputs))
names-from n [] h = All-nil IsNamed
names-from n (o ∷ os) h =
    let c = All-head IsConsistent o os h in
    All-append IsNamed (symbols_of n o) (flat_map (λ i. symbols_of i.0 i.1) (enumerate_from (n + 1) os))
    (All-map IsNamed (λ (s : Symbol). record { input = n; symbol = s }) o.symbols (All-weaker (IsConsistentSymbol (length o.sections)) (λ (s : Symbol). HasNoZero s.name) (λ s cs. cs.name) o.symbols c.symbols))
    (names-from (n + 1) os (All-tail IsConsistent o os h))

named-symbols : (inputs : List Object) → All IsConsistent inputs → All IsNamed (symbols inputs)
unfolding symbols
named-symbols inputs h = names-from 0 inputs h

find-among : (p : Met → Bool) (ms : List Met) (d : Met) → All IsNamed ms → find p ms ≡ Some d → IsNamed d
find-among p [] d all h = absurd cc
find-among p (m ∷ ms) d all h = by (λ e. find-among p ms d (All-tail IsNamed m ms all) e) (p m) h where
  by : (find p ms ≡ Some d → IsNamed d) → (b : Bool) → cond b (Some m) (find p ms) ≡ Some d → IsNamed d
  by rest true e = let same : m ≡ d = cc in subst IsNamed same (All-head IsNamed m ms all)
  by rest false e = rest e

either-among : (a b : Option Met) (d : Met) → ((e : Met) → a ≡ Some e → IsNamed e) → ((e : Met) → b ≡ Some e → IsNamed e) → option_or a b ≡ Some d → IsNamed d
either-among None b d f g h = g d h
either-among (Some e) b d f g h = f d h

definition-among : (met : List Met) (name : List ℕ) (d : Met) → All IsNamed met → definition_of met name ≡ Some d → IsNamed d
unfolding definition_of
definition-among met name d all h =
    either-among (find (defines_global name) met) (find (defines_weak name) met) d (λ e k. find-among (defines_global name) met e all k) (λ e k. find-among (defines_weak name) met e all k) h

found-named : (of : List ℕ → Option Met) → ((name : List ℕ) (d : Met) → of name ≡ Some d → IsNamed d) → (names : List (List ℕ)) → All IsNamed (filter_map of names)
found-named of f [] = All-nil IsNamed
found-named of f (name ∷ names) = by (found-named of f names) (of name) refl where
  by : All IsNamed (filter_map of names) → (o : Option Met) → of name ≡ o → All IsNamed (cons_option o (filter_map of names))
  by rest None e = rest
  by rest (Some d) e = All-cons IsNamed d (filter_map of names) (f name d e) rest

kept-named : (met : List Met) → All IsNamed met → All IsNamed (kept_symbols met)
unfolding kept_symbols definitions
kept-named met all =
    All-filter (λ (m : Met). is_kept m.symbol) IsNamed (locals met ++ filter_map (definition_of met) (names_met met))
    (All-append IsNamed (locals met) (filter_map (definition_of met) (names_met met)) (All-filter (λ (m : Met). is_local m.symbol.bind) IsNamed met all)
    (found-named (definition_of met) (λ name d h. definition-among met name d all h) (names_met met)))

filter-passes : (p : Met → Bool) (ms : List Met) → All (λ m. p m ≡ true) (filter p ms)
filter-passes p [] = All-nil (λ m. p m ≡ true)
filter-passes p (m ∷ ms) = by (filter-passes p ms) (p m) refl where
  by : All (λ x. p x ≡ true) (filter p ms) → (b : Bool) → p m ≡ b → All (λ x. p x ≡ true) (cond b (m ∷ filter p ms) (filter p ms))
  by rest true e = All-cons (λ x. p x ≡ true) m (filter p ms) e rest
  by rest false e = rest

kept-kept : (met : List Met) → All (λ m. is_kept m.symbol ≡ true) (kept_symbols met)
unfolding kept_symbols
kept-kept met = filter-passes (λ m. is_kept m.symbol) (locals met ++ definitions met)

not-empty : (name : List ℕ) → is_empty name ≡ false → name ≡ [] → ⊥
not-empty name h e = false≢true (sym h ∙ ap is_empty e)

not-section : (kind : SymbolKind) → is_section kind ≡ false → kind ≡ kinds.Section → ⊥
not-section kind h e = false≢true (sym h ∙ ap is_section e)

symbol-regular : (inputs : List Object) (note : List ℕ) (m : Met) → IsNamed m × (is_kept m.symbol ≡ true) → IsRegularSymbol (exec_symbol inputs note m)
symbol-regular inputs note m (named, kept) =
    let outer = and_parts (not (is_section m.symbol.kind) && not (is_undefined m.symbol.place)) (not (is_empty m.symbol.name)) kept in
    let inner = and_parts (not (is_section m.symbol.kind)) (not (is_undefined m.symbol.place)) outer.0 in
    record {
      named = not-empty m.symbol.name (not-true (is_empty m.symbol.name) outer.1);
      name = named;
      kind = not-section m.symbol.kind (not-true (is_section m.symbol.kind) inner.0);
    }

symbols-regular : (inputs : List Object) (note : List ℕ) → All IsConsistent inputs → All IsRegularSymbol (exec_symbols inputs note)
unfolding exec_symbols
symbols-regular inputs note h =
    let kept = kept_symbols (symbols inputs) in
    let Both : Met → Type 0 = λ m. IsNamed m × (is_kept m.symbol ≡ true) in
    let named = kept-named (symbols inputs) (named-symbols inputs h) in
    let passes = kept-kept (symbols inputs) in
    let both : All Both kept = λ k d lt. (named k d lt, passes k d lt) in
    All-map IsRegularSymbol (exec_symbol inputs note) kept (All-weaker Both (λ m. IsRegularSymbol (exec_symbol inputs note m)) (symbol-regular inputs note) kept both)

name-bytes-from : (inputs : List Object) (note : List ℕ) (sum : ℕ) (ms : List Met)
    → fold (λ n (s : ExecSymbol). n + length s.name) sum (map (exec_symbol inputs note) ms) ≡ fold (λ n (m : Met). n + length m.symbol.name) sum ms
name-bytes-from inputs note sum [] = refl
name-bytes-from inputs note sum (m ∷ ms) = name-bytes-from inputs note (sum + length m.symbol.name) ms

name-bytes : (inputs : List Object) (note : List ℕ) (ms : List Met) → sum_by (λ (s : ExecSymbol). length s.name) (map (exec_symbol inputs note) ms) ≡ sum_by (λ (m : Met). length m.symbol.name) ms
name-bytes inputs note ms = name-bytes-from inputs note 0 ms

-- ---- no fault of size

none-front : (xs ys : List LinkError) → xs ++ ys ≡ [] → xs ≡ []
none-front [] ys h = refl
none-front (x ∷ xs) ys h = absurd cc

none-back : (xs ys : List LinkError) → xs ++ ys ≡ [] → ys ≡ []
none-back [] ys h = h
none-back (x ∷ xs) ys h = absurd cc

not-where : (test : Bool) (e : LinkError) → where_true (not test) e ≡ [] → test ≡ true
not-where true e h = refl
not-where false e h = absurd cc

few-names : (inputs : List Object) (entry note : List ℕ) → faults inputs entry note ≡ [] → names_fit (symbols inputs) ≡ true
unfolding faults
few-names inputs entry note h =
    let a = none-back (input_faults [] 0 inputs) (undefined_faults (symbols inputs) (symbols inputs) ++ (entry_faults (symbols inputs) entry ++ (size_faults inputs note ++ overflow_faults inputs note (parts inputs)))) h in
    let b = none-back (undefined_faults (symbols inputs) (symbols inputs)) (entry_faults (symbols inputs) entry ++ (size_faults inputs note ++ overflow_faults inputs note (parts inputs))) a in
    let c = none-back (entry_faults (symbols inputs) entry) (size_faults inputs note ++ overflow_faults inputs note (parts inputs)) b in
    let d = none-front (size_faults inputs note) (overflow_faults inputs note (parts inputs)) c in
    (and_parts (classes_fit inputs note) (names_fit (symbols inputs)) (not-where (classes_fit inputs note && names_fit (symbols inputs)) _ d)).1

few-bytes : (inputs : List Object) (note : List ℕ) → names_fit (symbols inputs) ≡ true → sum_by (λ (s : ExecSymbol). length s.name) (exec_symbols inputs note) < 2 ^ 31
unfolding exec_symbols
few-bytes inputs note fit = let below = ltb-true (sum_by (λ (m : Met). length m.symbol.name) (kept_symbols (symbols inputs))) (2 ^ 31) fit in
    omega (arith, below, name-bytes inputs note (kept_symbols (symbols inputs)))

no-empty-note : (note : List ℕ) → note_of note ≡ Some [] → ⊥
no-empty-note [] h = absurd cc
no-empty-note (n ∷ ns) h = absurd cc

pub linked-regular : (inputs : List Object) (entry note : List ℕ) → All IsConsistent inputs → faults inputs entry note ≡ [] → IsRegularExec (linked inputs entry note)
unfolding linked
linked-regular inputs entry note h sound =
    let code = code-regular inputs note h in
    let read = read-regular inputs note h in
    let write = write-regular inputs note h in
    let long_back = length-append (read_segment inputs note) (write_segment inputs note) in
    let long = length-append (code_segment inputs note) (read_segment inputs note ++ write_segment inputs note) in
    record {
      few_segments = omega (arith, code.1, read.1, write.1, long, long_back);
      segments = All-append IsRegularSegment (code_segment inputs note) (read_segment inputs note ++ write_segment inputs note) code.0
          (All-append IsRegularSegment (read_segment inputs note) (write_segment inputs note) read.0 write.0);
      symbols = symbols-regular inputs note h;
      few_name_bytes = few-bytes inputs note (few-names inputs entry note sound);
      note = no-empty-note note;
    }
