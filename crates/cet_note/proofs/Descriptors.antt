-- A property that is read is a stored one that stands there, and the other way round; and so for all properties.
use Rattle.std.proofs.Common.{◌≡◌, ℕ, zero, suc, ◌+◌, ◌≤◌, Bool, true, false, cond, leb, List, [], ◌∷◌, ◌++◌, length, take, drop, Option, Some, None, Result, Ok, IsTrue, All, ◌⊎◌, refl, sym, ap, subst, ◌∙◌, append_assoc, inl, inr, arith}
use Rattle.std.specs.Prelude.{if◌then◌else◌}
use Rattle.std.proofs.lemmas.Bool.{leb-true, le-leb, lt-leb, lt-ltb}
use Rattle.std.proofs.lemmas.List.{length-append, take_all}
use Rattle.std.proofs.lemmas.List.Elements.{All-nil, All-cons, All-head, All-tail}
use Rattle.cet_base.specs.Field.{field, little_endian}
use Rattle.cet_note.specs.declared.fault.NoteError.{NoteError}
use Rattle.cet_note.specs.Note.{Note, is_word_type}
use Rattle.cet_note.specs.Form.{word_bytes, padding_of, Stored, stored_bytes, descriptor, IsStored, words_among}
use Rattle.cet_note.specs.Fault.{◌>>=◌, bytes_at, above, size_fits, Entry, property_in, next_at, with_word, properties_in}
use Rattle.cet_note.proofs.Steps.{bind_ok, done, ok_is, IsRead-from_ok, Below, Below-above, within_end, fitting, word_has_four}
use Rattle.cet_note.proofs.Loop.{nothing_left}
use Rattle.cet_note.proofs.Fields.{IsBytes, Stands, Stands-length, Stands-split, word_at-Stands, bytes_at-Stands, Stands-bytes_at, Stands-word_at}

-- what reading a stored property gives
abbrev pub entry_of : Stored → Entry
entry_of s = record { kind = s.kind; size = length s.content; word = if is_word_type s.kind then Some (little_endian s.content) else None }

pub above-Below : (last : Option ℕ) (kind at : ℕ) → Below last kind → above last kind at ≡ Ok tt
above-Below None kind at h = refl
above-Below (Some last) kind at h = rw (lt-ltb last kind h) refl

pub length-stored_bytes : (s : Stored) → length (stored_bytes s) ≡ 8 + length s.content + length s.padding
length-stored_bytes s = omega (arith, length-append s.content s.padding)

-- the word of a stored property
word_of_content : (b : Bool) (content : List ℕ) → (b ≡ true → length content ≡ 4) → (if b then field 4 content 0 else None) ≡ (if b then Some (little_endian content) else None)
word_of_content false content h = refl
word_of_content true content h =
    let within : leb (0 + 4) (length content) ≡ true = le-leb _ _ (omega (arith, h refl)) in
    let all : take 4 content ≡ content = take_all 4 content (omega (arith, h refl)) in
    rw (within, all) refl

-- the parts of a property that stands at a place
pub record StandsStored (bytes : List ℕ) (at : ℕ) (s : Stored) (rest : List ℕ) : Type 0 where
  pub kind : Stands bytes at (word_bytes s.kind) (word_bytes (length s.content) ++ (s.content ++ (s.padding ++ rest)))
  pub size : Stands bytes (at + 4) (word_bytes (length s.content)) (s.content ++ (s.padding ++ rest))
  pub content : Stands bytes (at + 8) s.content (s.padding ++ rest)
  pub padding : Stands bytes (at + 8 + length s.content) s.padding rest

stored_parts : (s : Stored) (rest : List ℕ) → stored_bytes s ++ rest ≡ word_bytes s.kind ++ (word_bytes (length s.content) ++ (s.content ++ (s.padding ++ rest)))
stored_parts s rest = ap (λ (r : List ℕ). word_bytes s.kind ++ (word_bytes (length s.content) ++ r)) (append_assoc s.content s.padding rest)

pub StandsStored-from : (bytes : List ℕ) (at : ℕ) (s : Stored) (rest : List ℕ) → Stands bytes at (stored_bytes s) rest → StandsStored bytes at s rest
StandsStored-from bytes at s rest h =
    let kind : Stands bytes at (word_bytes s.kind) (word_bytes (length s.content) ++ (s.content ++ (s.padding ++ rest))) = record { place = h.place; is = h.is ∙ stored_parts s rest } in
    let size = Stands-split bytes at (word_bytes s.kind) (word_bytes (length s.content)) (s.content ++ (s.padding ++ rest)) 4 refl kind in
    let content' = Stands-split bytes (at + 4) (word_bytes (length s.content)) s.content (s.padding ++ rest) 4 refl size in
    let content : Stands bytes (at + 8) s.content (s.padding ++ rest) = subst (λ (n : ℕ). Stands bytes n s.content (s.padding ++ rest)) {x = at + 4 + 4} (omega arith) content' in
    record { kind = kind; size = size; content = content; padding = Stands-split bytes (at + 8) s.content s.padding rest (length s.content) refl content }

-- a stored property that stands there is read
pub property-again : (bytes : List ℕ) (end : ℕ) (last : Option ℕ) (at : ℕ) (s : Stored) (rest : List ℕ) → IsStored s → Below last s.kind → at + length (stored_bytes s) ≤ end → Stands bytes at (stored_bytes s) rest
    → property_in bytes end last at ≡ Ok (entry_of s)
unfolding property_in
property-again bytes end last at s rest is below ends stands =
    let p = StandsStored-from bytes at s rest stands in
    let kind = word_at-Stands bytes at s.kind _ is.type_fits p.kind in
    let up = above-Below last s.kind at below in
    let size = word_at-Stands bytes (at + 4) (length s.content) _ is.size_fits p.size in
    let fits : size_fits end s.kind (length s.content) (at + 4) ≡ true = fitting end s.kind (length s.content) (at + 4) (omega (arith, length-stored_bytes s, is.is_padded)) is.is_word in
    let content = bytes_at-Stands bytes (at + 8) s.content _ p.content in
    let padding : bytes_at bytes (at + 8 + length s.content) (padding_of (length s.content)) ≡ Ok s.padding = rw (← is.is_padded) (bytes_at-Stands bytes (at + 8 + length s.content) s.padding rest p.padding) in
    let word = word_of_content (is_word_type s.kind) s.content is.is_word in
    let made = λ (w : Option ℕ). let e : Entry = record { kind = s.kind; size = length s.content; word = w } in done e in
    rw (kind, up, size, fits, content, padding) (ap made word)

entry_is : (e : Entry) (size : ℕ) (word : Option ℕ) → e.size ≡ size → e.word ≡ word → e ≡ record { kind = e.kind; size = size; word = word }
entry_is e size word p q =
    let by_size = λ (n : ℕ). let r : Entry = record { kind = e.kind; size = n; word = e.word } in r in
    let by_word = λ (w : Option ℕ). let r : Entry = record { kind = e.kind; size = size; word = w } in r in
    ap by_size p ∙ ap by_word q

-- a property that was read stands there
pub record Took (bytes : List ℕ) (last : Option ℕ) (at : ℕ) (e : Entry) : Type 0 where
  pub s : Stored
  pub is : IsStored s
  pub below : Below last s.kind
  pub entry : e ≡ entry_of s
  pub stands : Stands bytes at (stored_bytes s) (drop (next_at at e.size) bytes)

pub property-takes : (bytes : List ℕ) (end : ℕ) (last : Option ℕ) (at : ℕ) (e : Entry) → IsBytes bytes → property_in bytes end last at ≡ Ok e → Took bytes last at e
property-takes bytes end last at e fits h =
    let r = IsRead-from_ok bytes end last at e h in
    let k = Stands-word_at bytes at e.kind fits r.kind_at in
    let z = Stands-word_at bytes (at + 4) e.size fits r.size_at in
    let c = Stands-bytes_at bytes (at + 8) e.size r.content r.content_at in
    let p = Stands-bytes_at bytes (at + 8 + e.size) (padding_of e.size) r.padding r.padding_at in
    let s : Stored = record { kind = e.kind; content = r.content; padding = r.padding } in
    let rest = drop (next_at at e.size) bytes in
    let four : IsTrue (is_word_type e.kind) → length r.content ≡ 4 = λ typed. c.1 ∙ word_has_four end e.kind e.size (at + 4) r.fits typed in
    let eight : at + 4 + 4 ≡ at + 8 = omega arith in
    let is : drop at bytes ≡ word_bytes e.kind ++ (word_bytes e.size ++ (r.content ++ (r.padding ++ rest))) =
    k.0.is ∙ ap (λ (x : List ℕ). word_bytes e.kind ++ x) (z.0.is ∙ ap (λ (x : List ℕ). word_bytes e.size ++ x) (ap (λ (n : ℕ). drop n bytes) eight ∙ c.0.is ∙ ap (λ (x : List ℕ). r.content ++ x) p.0.is)) in
    record {
      s = s;
      is = record { type_fits = k.1; size_fits = rw c.1 z.1; is_word = four; is_padded = rw c.1 p.1 };
      below = Below-above last e.kind at r.is_above;
      entry = entry_is e (length r.content) _ (sym c.1) (r.word_is ∙ word_of_content (is_word_type e.kind) r.content four);
      stands = record {
        place = k.0.place;
        is = is ∙ ap (λ (n : ℕ). word_bytes e.kind ++ (word_bytes n ++ (r.content ++ (r.padding ++ rest)))) (sym c.1) ∙ sym (stored_parts s rest);
      };
    }

-- ---- all properties

-- the types ascend, and the first one stands above `last`
abbrev pub Ascends : Option ℕ → List Stored → Type 0
Ascends last [] = Unit {0}
Ascends last (s ∷ others) = Below last s.kind × Ascends (Some s.kind) others

with_word-if : (b : Bool) (kind bits : ℕ) (note : Note) → with_word kind (if b then Some bits else None) note ≡ (if b then (kind, bits) ∷ note else note)
with_word-if true kind bits note = refl
with_word-if false kind bits note = refl

pub properties-again : (ps : List Stored) (n : ℕ) (bytes : List ℕ) (end : ℕ) (last : Option ℕ) (at : ℕ) (rest : List ℕ) → All IsStored ps → Ascends last ps → at + length (descriptor ps) ≡ end → end ≤ at + n → Stands bytes at (descriptor ps) rest
    → properties_in n bytes end last at ≡ Ok (words_among ps)
unfolding properties_in
properties-again [] n bytes end last at rest each up ends room h = nothing_left n bytes end last at (omega (arith, ends))
properties-again (s ∷ ps) zero bytes end last at rest each up ends room h = absurd (omega (arith, ends, room, length-append (stored_bytes s) (descriptor ps), length-stored_bytes s))
properties-again (s ∷ ps) (suc n) bytes end last at rest each up ends room h =
    let is = All-head IsStored s ps each in
    let len = length-append (stored_bytes s) (descriptor ps) in
    let size = length-stored_bytes s in
    let first : Stands bytes at (stored_bytes s) (descriptor ps ++ rest) = record { place = h.place; is = h.is ∙ append_assoc (stored_bytes s) (descriptor ps) rest } in
    let entry = property-again bytes end last at s (descriptor ps ++ rest) is up.0 (omega (arith, ends, len)) first in
    let next : at + length (stored_bytes s) ≡ next_at at (length s.content) = omega (arith, size, is.is_padded) in
    let tail = Stands-split bytes at (stored_bytes s) (descriptor ps) rest (length (stored_bytes s)) refl first in
    let tail' = subst (λ (k : ℕ). Stands bytes k (descriptor ps) rest) next tail in
    let others = properties-again ps n bytes end (Some s.kind) (next_at at (length s.content)) rest (All-tail IsStored s ps each) up.1 (omega (arith, ends, len, next)) (omega (arith, room, size, next)) tail' in
    let goes : leb end at ≡ false = lt-leb end at (omega (arith, ends, len, size)) in
    rw (goes, entry, others) (ap (λ (x : Note). Ok x) (with_word-if (is_word_type s.kind) s.kind (little_endian s.content) (words_among ps)))

-- the properties that were read stand there
pub record TookAll (bytes : List ℕ) (end : ℕ) (last : Option ℕ) (at : ℕ) (note : Note) : Type 0 where
  pub ps : List Stored
  pub each : All IsStored ps
  pub ascends : Ascends last ps
  pub words : note ≡ words_among ps
  pub ends : at + length (descriptor ps) ≡ end
  pub stands : Stands bytes at (descriptor ps) (drop end bytes)

took_none : (bytes : List ℕ) (end : ℕ) (last : Option ℕ) (at : ℕ) (note : Note) → at ≡ end → at ≤ length bytes → [] ≡ note → TookAll bytes end last at note
took_none bytes end last at note ends place none = record {
  ps = [];
  each = All-nil IsStored;
  ascends = tt;
  words = sym none;
  ends = omega arith;
  stands = record { place = place; is = rw ends refl };
}

took_stored : (bytes : List ℕ) (end : ℕ) (last : Option ℕ) (at : ℕ) (s : Stored) (others note : Note) → IsStored s → Below last s.kind → Stands bytes at (stored_bytes s) (drop (next_at at (length s.content)) bytes)
    → TookAll bytes end (Some s.kind) (next_at at (length s.content)) others → with_word s.kind (if is_word_type s.kind then Some (little_endian s.content) else None) others ≡ note → TookAll bytes end last at note
took_stored bytes end last at s others note is below stands all e = record {
  ps = s ∷ all.ps;
  each = All-cons IsStored s all.ps is all.each;
  ascends = (below, all.ascends);
  words = sym e ∙ with_word-if (is_word_type s.kind) s.kind (little_endian s.content) others ∙ ap (λ (x : Note). if is_word_type s.kind then (s.kind, little_endian s.content) ∷ x else x) all.words;
  ends = omega (arith, all.ends, length-append (stored_bytes s) (descriptor all.ps), length-stored_bytes s, is.is_padded);
  stands = record {
    place = stands.place;
    is = stands.is ∙ ap (λ (x : List ℕ). stored_bytes s ++ x) all.stands.is ∙ sym (append_assoc (stored_bytes s) (descriptor all.ps) (drop end bytes));
  };
}

took_more : (bytes : List ℕ) (end : ℕ) (last : Option ℕ) (at : ℕ) (e : Entry) (others note : Note) → Took bytes last at e → TookAll bytes end (Some e.kind) (next_at at e.size) others → with_word e.kind e.word others ≡ note → TookAll bytes end last at note
took_more bytes end last at e others note t all is =
    took_stored bytes end last at t.s others note t.is t.below
    (subst (λ (x : Entry). Stands bytes at (stored_bytes t.s) (drop (next_at at x.size) bytes)) t.entry t.stands)
    (subst (λ (x : Entry). TookAll bytes end (Some x.kind) (next_at at x.size) others) t.entry all)
    (subst (λ (x : Entry). with_word x.kind x.word others ≡ note) t.entry is)

pub took_place : (bytes : List ℕ) (last : Option ℕ) (at : ℕ) (e : Entry) → Took bytes last at e → next_at at e.size ≤ length bytes
took_place bytes last at e t =
    let size : e.size ≡ length t.s.content = ap (λ (x : Entry). x.size) t.entry in
    omega (arith, size, Stands-length bytes at (stored_bytes t.s) (drop (next_at at e.size) bytes) t.stands, length-stored_bytes t.s, t.is.is_padded)

choice : {A : Type 0} (b : Bool) (x : A) (r : Result A NoteError) (y : A) → cond b (Ok x) r ≡ Ok y → ((b ≡ true) × (x ≡ y)) ⊎ ((b ≡ false) × (r ≡ Ok y))
choice true x r y e = inl (refl, ok_is x y e)
choice false x r y e = inr (refl, e)

pub properties-take : (n : ℕ) (bytes : List ℕ) (end : ℕ) (last : Option ℕ) (at : ℕ) (note : Note) → IsBytes bytes → at ≤ end → end ≤ at + n → at ≤ length bytes → properties_in n bytes end last at ≡ Ok note → TookAll bytes end last at note
unfolding properties_in
properties-take zero bytes end last at note fits within room place h = took_none bytes end last at note (omega arith) place (ok_is _ _ h)
properties-take (suc n) bytes end last at note fits within room place h =
    let rest = λ (entry : Entry). properties_in n bytes end (Some entry.kind) (next_at at entry.size) >>= λ others. Ok (with_word entry.kind entry.word others) in
    elim (choice (leb end at) [] (property_in bytes end last at >>= rest) note h) [
      | inl l ↦ took_none bytes end last at note (omega (arith, leb-true _ _ l.0)) place l.1
      | inr r ↦
          let a = bind_ok (property_in bytes end last at) rest note r.1 in
          let e = a.0 in
          let b = bind_ok (properties_in n bytes end (Some e.kind) (next_at at e.size)) (λ others. Ok (with_word e.kind e.word others)) note a.2 in
          let read = IsRead-from_ok bytes end last at e a.1 in
          let t = property-takes bytes end last at e fits a.1 in
          let next : next_at at e.size ≤ end = within_end end e.kind e.size at read.fits in
          let all = properties-take n bytes end (Some e.kind) (next_at at e.size) b.0 fits next (omega arith) (took_place bytes last at e t) b.1 in
          took_more bytes end last at e b.0 note t all (ok_is _ _ b.2)
    ]
