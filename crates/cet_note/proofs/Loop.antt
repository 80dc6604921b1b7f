-- Reading properties one after the other, as the loop does.
use Rattle.std.proofs.Common.{◌≡◌, ℕ, zero, suc, ◌+◌, ◌-◌, ◌<◌, ◌≤◌, true, false, leb, List, [], ◌∷◌, ◌++◌, Option, Some, None, Result, Ok, Err, All, refl, sym, ap, ◌∙◌, append_assoc, arith}
use Rattle.std.specs.Ordering.{nat_cmp}
use Rattle.std.specs.BTreeMap.{insert_entry}
use Rattle.std.proofs.lemmas.Bool.{lt-leb, le-leb}
use Rattle.std.proofs.lemmas.Bool.Decides.{nat_tests}
use Rattle.std.proofs.lemmas.List.{append-nil, map-append}
use Rattle.std.proofs.lemmas.List.Elements.{All-nil, All-cons, All-head, All-tail, All-append, All-weaker}
use Rattle.cet_note.specs.declared.fault.NoteError.{NoteError}
use Rattle.cet_note.specs.declared.fault.NoteError.TheVariants as errors
use Rattle.cet_note.specs.Note.{Note, types}
use Rattle.cet_note.specs.Fault.{◌>>=◌, Entry, property_in, next_at, with_word, properties_in, Fails}
use Rattle.cet_note.proofs.Steps.{IsRead-from_ok, Below, Below-above, within_end}

-- what was read before, and what is still read
abbrev pub with_front : Note → Result Note NoteError → Result Note NoteError
with_front front reading = reading >>= λ rest. Ok (front ++ rest)

-- no type of the properties so far is above the last one
abbrev pub UpTo : Option ℕ → Note → Type 0
UpTo None props = props ≡ []
UpTo (Some last) props = All (λ kind. kind ≤ last) (types props)

-- what the loop has read, with room for the properties that are left
pub record HasRead (bytes : List ℕ) (size end : ℕ) (props : Note) (last : Option ℕ) (at : ℕ) : Type 0 where
  pub end_is : end ≡ 16 + size
  pub within : at ≤ end
  pub room : ℕ
  pub enough : end ≤ at + room
  pub so_far : with_front props (properties_in room bytes end last at) ≡ properties_in size bytes end None 16
  pub up_to : UpTo last props

front_none : (r : Result Note NoteError) → with_front [] r ≡ r
front_none (Ok x) = refl
front_none (Err d) = refl

pub HasRead-start : (bytes : List ℕ) (size end : ℕ) → end ≡ 16 + size → HasRead bytes size end [] None 16
HasRead-start bytes size end e = record {
  end_is = e;
  within = omega arith;
  room = size;
  enough = omega arith;
  so_far = front_none (properties_in size bytes end None 16);
  up_to = refl;
}

-- what holds of each way to fail holds of the fault
Fails-from : (fault : NoteError) (r s : Result Entry NoteError) (t : Result Note NoteError) → ((f : NoteError) → r ≡ Err f → t ≡ Err f) → Fails fault r → Fails fault t
Fails-from errors.NoMemory r s t h e = tt
Fails-from (errors.Cut at) r s t h e = h _ e
Fails-from (errors.Name at) r s t h e = h _ e
Fails-from (errors.Kind at) r s t h e = h _ e
Fails-from (errors.Size at) r s t h e = h _ e
Fails-from (errors.Order at) r s t h e = h _ e
Fails-from (errors.Twice at) r s t h e = h _ e

-- a fault of the next property is the fault of all
pub HasRead-fails : (bytes : List ℕ) (size end : ℕ) (props : Note) (last : Option ℕ) (at : ℕ) (fault : NoteError) → HasRead bytes size end props last at → at < end → Fails fault (property_in bytes end last at) → Fails fault (properties_in size bytes end None 16)
unfolding properties_in
HasRead-fails bytes size end props last at fault h lt fails =
    let k : h.room ≡ suc (h.room - 1) = omega (arith, h.enough) in
    let goes : leb end at ≡ false = lt-leb end at lt in
    Fails-from fault (property_in bytes end last at) (property_in bytes end last at) (properties_in size bytes end None 16) (λ f e.
    let one : with_front props (properties_in h.room bytes end last at) ≡ Err f = rw (k, goes, e) refl in
    sym h.so_far ∙ one) fails

pub nothing_left : (n : ℕ) (bytes : List ℕ) (end : ℕ) (last : Option ℕ) (at : ℕ) → end ≤ at → properties_in n bytes end last at ≡ Ok []
unfolding properties_in
nothing_left zero bytes end last at le = refl
nothing_left (suc n) bytes end last at le = let done : leb end at ≡ true = le-leb end at le in rw done refl

-- at the end of the descriptor all is read
pub HasRead-ends : (bytes : List ℕ) (size end : ℕ) (props : Note) (last : Option ℕ) (at : ℕ) → HasRead bytes size end props last at → end ≤ at → properties_in size bytes end None 16 ≡ Ok props
HasRead-ends bytes size end props last at h le =
    let none = nothing_left h.room bytes end last at le in
    let one : with_front props (properties_in h.room bytes end last at) ≡ Ok props = rw none (ap (λ (n : Note). Ok n) (append-nil props)) in
    sym h.so_far ∙ one

with_word-append : (kind : ℕ) (word : Option ℕ) (rest : Note) → with_word kind word rest ≡ with_word kind word [] ++ rest
with_word-append kind None rest = refl
with_word-append kind (Some bits) rest = refl

regroup : (front : Note) (kind : ℕ) (word : Option ℕ) (r : Result Note NoteError) → with_front front (r >>= λ rest. Ok (with_word kind word rest)) ≡ with_front (front ++ with_word kind word []) r
regroup front kind word (Ok rest) = ap (λ (n : Note). Ok n) (ap (λ (n : Note). front ++ n) (with_word-append kind word rest) ∙ sym (append_assoc front (with_word kind word []) rest))
regroup front kind word (Err d) = refl

UpTo-more : (last : Option ℕ) (props : Note) (kind : ℕ) (word : Option ℕ) → Below last kind → UpTo last props → All (λ k. k ≤ kind) (types (props ++ with_word kind word []))
UpTo-more last props kind word below up_to =
    rw (map-append (λ (p : ℕ × ℕ). p.0) props (with_word kind word [])) (All-append (λ k. k ≤ kind) (types props) (types (with_word kind word [])) (front last props below up_to) (back word))
  where
    front : (last : Option ℕ) (props : Note) → Below last kind → UpTo last props → All (λ k. k ≤ kind) (types props)
    front None props below up_to = rw up_to (All-nil (λ k. k ≤ kind))
    front (Some last) props below up_to = All-weaker (λ k. k ≤ last) (λ k. k ≤ kind) (λ k h. omega arith) (types props) up_to

    back : (word : Option ℕ) → All (λ k. k ≤ kind) (types (with_word kind word []))
    back None = All-nil (λ k. k ≤ kind)
    back (Some bits) = All-cons (λ k. k ≤ kind) kind [] (omega arith) (All-nil (λ k. k ≤ kind))

reads_next : (n : ℕ) (bytes : List ℕ) (end : ℕ) (props : Note) (last : Option ℕ) (at : ℕ) (e : Entry) → at < end → property_in bytes end last at ≡ Ok e
    → with_front props (properties_in (suc n) bytes end last at) ≡ with_front (props ++ with_word e.kind e.word []) (properties_in n bytes end (Some e.kind) (next_at at e.size))
unfolding properties_in
reads_next n bytes end props last at e lt is =
    let goes : leb end at ≡ false = lt-leb end at lt in
    rw (goes, is) (regroup props e.kind e.word (properties_in n bytes end (Some e.kind) (next_at at e.size)))

-- one more property
pub HasRead-more : (bytes : List ℕ) (size end : ℕ) (props : Note) (last : Option ℕ) (at : ℕ) (e : Entry) → HasRead bytes size end props last at → at < end → property_in bytes end last at ≡ Ok e
    → HasRead bytes size end (props ++ with_word e.kind e.word []) (Some e.kind) (next_at at e.size)
HasRead-more bytes size end props last at e h lt is =
    let r = IsRead-from_ok bytes end last at e is in
    let k : h.room ≡ suc (h.room - 1) = omega (arith, h.enough) in
    let one : with_front props (properties_in h.room bytes end last at) ≡ with_front (props ++ with_word e.kind e.word []) (properties_in (h.room - 1) bytes end (Some e.kind) (next_at at e.size)) =
    ap (λ (n : ℕ). with_front props (properties_in n bytes end last at)) k ∙ reads_next (h.room - 1) bytes end props last at e lt is in
    record {
      end_is = h.end_is;
      within = within_end end e.kind e.size at r.fits;
      room = h.room - 1;
      enough = omega (arith, h.enough);
      so_far = sym one ∙ h.so_far;
      up_to = UpTo-more last props e.kind e.word (Below-above last e.kind at r.is_above) h.up_to;
    }

-- a type above all others goes to the end
pub insert_entry-above : (props : Note) (kind bits : ℕ) → All (λ k. k < kind) (types props) → insert_entry nat_cmp props kind bits ≡ props ++ (kind, bits) ∷ []
insert_entry-above [] kind bits h = refl
insert_entry-above (p ∷ props) kind bits h =
    let first : p.0 < kind = All-head (λ k. k < kind) p.0 (types props) h in
    let rest = insert_entry-above props kind bits (All-tail (λ k. k < kind) p.0 (types props) h) in
    grind (arith, nat_tests)

-- so the word of the next property goes to the end
pub insert_entry-next : (last : Option ℕ) (props : Note) (kind bits : ℕ) → Below last kind → UpTo last props → insert_entry nat_cmp props kind bits ≡ props ++ (kind, bits) ∷ []
insert_entry-next None props kind bits below up_to = rw up_to refl
insert_entry-next (Some last) props kind bits below up_to =
    insert_entry-above props kind bits (All-weaker (λ k. k ≤ last) (λ k. k < kind) (λ k h. omega arith) (types props) up_to)
