-- The fault that reading finds is the first one by rows.
use Rattle.std.proofs.Common.{◌≡◌, ◌≢◌, ℕ, zero, suc, ◌+◌, ◌%◌, ◌-◌, ◌<◌, ◌≤◌, ◌^◌, Bool, true, false, cond, leb, ltb, eqb, List, [], ◌∷◌, ◌++◌, length, take, drop, Option, Some, None, Result, Ok, Err, All, ◌⊎◌, refl, sym, ap, subst, ◌∙◌, append_assoc, inl, inr, arith}
use Rattle.std.specs.Prelude.{if◌then◌else◌, codes, IfErr}
use Rattle.std.proofs.lemmas.Bool.{leb-true, leb-false, ltb-false, eqb-true, eq-eqb, false≢true}
use Rattle.std.proofs.lemmas.List.{length-append, length-drop}
use Rattle.std.proofs.lemmas.List.Elements.{All-nil, All-cons}
use Rattle.cet_base.specs.Field.{field, little_endian}
use Rattle.cet_note.specs.declared.fault.NoteError.{NoteError}
use Rattle.cet_note.specs.declared.fault.NoteError.TheVariants as errors
use Rattle.cet_note.specs.declared.fault.NoteError.TheVariants.{Cut, Name, Kind, Size, Order, Twice}
use Rattle.cet_note.specs.Note.{Note, is_word_type}
use Rattle.cet_note.specs.Form.{word_bytes, padding_of, Stored, stored_bytes, descriptor, header, IsStored}
use Rattle.cet_note.specs.Fault.{◌>>=◌, demand, word_at, bytes_at, header_in, above, size_fits, Entry, property_in, next_at, with_word, properties_in, note_in, Gives}
use Rattle.cet_note.specs.FirstFault.{Row, name_size, descriptor_size, note_type, note_name, property_type, property_size, content, padding, note_end, IsSize, AreProperties, last_type, Below, FitsIn, SizeFront, ContentFront, BreaksRule, Breaks, IsFirstFault}
use Rattle.cet_note.proofs.Steps.{done, kept, word_has_four, ok_is, demand_ok, Below-above, within_end, fitting, IsRead-from_ok}
use Rattle.cet_note.proofs.Fields.{IsBytes, Stands, Stands-length, Stands-bytes_at, Stands-word_at}
use Rattle.cet_note.proofs.Descriptors.{Ascends, Took, took_place, property-takes, TookAll, properties-take, length-stored_bytes}
use Rattle.cet_note.proofs.WholeNotes.{descriptor-whole, four_words, IsStrictlyIncreasing-from, TookHeader, header-takes}

-- where a chain of steps failed
bind_err : {A B : Type 0} (r : Result A NoteError) (k : A → Result B NoteError) (f : NoteError) → (r >>= k) ≡ Err f → (r ≡ Err f) ⊎ ((x : A) × (r ≡ Ok x) × (k x ≡ Err f))
bind_err (Ok x) k f e = inr (x, refl, e)
bind_err (Err d) k f e = let is : d ≡ f = cc in inl (ap (λ (x : NoteError). Err x) is)

never : {A : Type 0} {x : A} {f : NoteError} → done x ≡ Err f → ⊥
never e = absurd cc

demand_err : (b : Bool) (d f : NoteError) → demand b d ≡ Err f → (b ≡ false) × (f ≡ d)
demand_err true d f e = absurd cc
demand_err false d f e = (refl, cc)

-- a field that is not there
chosen_err : {A : Type 0} (b : Bool) (x : A) (d f : NoteError) → cond b (Ok x) (Err d) ≡ Err f → (b ≡ false) × (f ≡ d)
chosen_err true x d f e = absurd cc
chosen_err false x d f e = (refl, cc)

word_err : (bytes : List ℕ) (at : ℕ) (f : NoteError) → word_at bytes at ≡ Err f → (length bytes < at + 4) × (f ≡ Cut at)
word_err bytes at f e = let c = chosen_err (leb (at + 4) (length bytes)) (little_endian (take 4 (drop at bytes))) (Cut at) f e in (leb-false _ _ c.0, c.1)

bytes_err : (bytes : List ℕ) (at size : ℕ) (f : NoteError) → bytes_at bytes at size ≡ Err f → (length bytes < at + size) × (f ≡ Cut at)
bytes_err bytes at size f e = let c = chosen_err (leb (at + size) (length bytes)) (take size (drop at bytes)) (Cut at) f e in (leb-false _ _ c.0, c.1)

-- a word that is there
word_is : (bytes : List ℕ) (at n : ℕ) → word_at bytes at ≡ Ok n → (at + 4 ≤ length bytes) × (n ≡ little_endian (take 4 (drop at bytes)))
word_is bytes at n e = go (leb (at + 4) (length bytes)) (leb-true (at + 4) (length bytes)) e
  where
    go : (b : Bool) → (b ≡ true → at + 4 ≤ length bytes) → cond b (done (little_endian (take 4 (drop at bytes)))) (Err (Cut at)) ≡ done n → (at + 4 ≤ length bytes) × (n ≡ little_endian (take 4 (drop at bytes)))
    go true h e = (h refl, sym (ok_is _ _ e))
    go false h e = absurd cc

-- ---- the properties before the one that fails

pub record Failed (bytes : List ℕ) (end : ℕ) (last : Option ℕ) (at : ℕ) (f : NoteError) : Type 0 where
  pub ps : List Stored
  pub each : All IsStored ps
  pub ascends : Ascends last ps
  pub stands : Stands bytes at (descriptor ps) (drop (at + length (descriptor ps)) bytes)
  pub below : at + length (descriptor ps) < end
  pub fails : property_in bytes end (last_type last ps) (at + length (descriptor ps)) ≡ Err f

failed_here : (bytes : List ℕ) (end : ℕ) (last : Option ℕ) (at : ℕ) (f : NoteError) → at < end → at ≤ length bytes → property_in bytes end last at ≡ Err f → Failed bytes end last at f
failed_here bytes end last at f lt place fails =
    let same : at ≡ at + 0 = omega arith in
    record {
      ps = [];
      each = All-nil IsStored;
      ascends = tt;
      stands = record { place = place; is = ap (λ (n : ℕ). drop n bytes) same };
      below = omega arith;
      fails = subst (λ (n : ℕ). property_in bytes end last n ≡ Err f) same fails;
    }

failed_later : (bytes : List ℕ) (end : ℕ) (last : Option ℕ) (at : ℕ) (e : Entry) (f : NoteError) → Took bytes last at e → Failed bytes end (Some e.kind) (next_at at e.size) f → Failed bytes end last at f
failed_later bytes end last at e f t h =
    let s = t.s in
    let size : e.size ≡ length s.content = ap (λ (x : Entry). x.size) t.entry in
    let kind : e.kind ≡ s.kind = ap (λ (x : Entry). x.kind) t.entry in
    let next : next_at at e.size ≡ at + length (stored_bytes s) = omega (arith, size, length-stored_bytes s, t.is.is_padded) in
    let place : next_at at e.size + length (descriptor h.ps) ≡ at + length (descriptor (s ∷ h.ps)) = omega (arith, next, length-append (stored_bytes s) (descriptor h.ps)) in
    record {
      ps = s ∷ h.ps;
      each = All-cons IsStored s h.ps t.is h.each;
      ascends = (t.below, subst (λ (k : ℕ). Ascends (Some k) h.ps) kind h.ascends);
      stands = record {
        place = t.stands.place;
        is = t.stands.is ∙ ap (λ (x : List ℕ). stored_bytes s ++ x) (h.stands.is ∙ ap (λ (n : ℕ). descriptor h.ps ++ drop n bytes) place) ∙ sym (append_assoc (stored_bytes s) (descriptor h.ps) (drop (at + length (descriptor (s ∷ h.ps))) bytes));
      };
      below = omega (arith, h.below, place);
      fails = subst (λ (k : ℕ). property_in bytes end (last_type (Some k) h.ps) (at + length (descriptor (s ∷ h.ps))) ≡ Err f) kind (subst (λ (n : ℕ). property_in bytes end (last_type (Some e.kind) h.ps) n ≡ Err f) place h.fails);
    }

took_next : (bytes : List ℕ) (end : ℕ) (last : Option ℕ) (at : ℕ) (e : Entry) → IsBytes bytes → property_in bytes end last at ≡ Ok e → (next_at at e.size ≤ end) × (next_at at e.size ≤ length bytes)
took_next bytes end last at e fits h = (
  within_end end e.kind e.size at (IsRead-from_ok bytes end last at e h).fits,
  took_place bytes last at e (property-takes bytes end last at e fits h),
)

no_error : {A B : Type 0} (b : Bool) (x : B) (r : Result A NoteError) (k : A → Result B NoteError) (f : NoteError) → cond b (Ok x) (r >>= k) ≡ Err f → (b ≡ false) × ((r >>= k) ≡ Err f)
no_error true x r k f e = absurd cc
no_error false x r k f e = (refl, e)

pub properties-failed : (n : ℕ) (bytes : List ℕ) (end : ℕ) (last : Option ℕ) (at : ℕ) (f : NoteError) → IsBytes bytes → at ≤ length bytes → properties_in n bytes end last at ≡ Err f → Failed bytes end last at f
unfolding properties_in
properties-failed zero bytes end last at f fits place h = absurd cc
properties-failed (suc n) bytes end last at f fits place h =
    let k = λ (entry : Entry). properties_in n bytes end (Some entry.kind) (next_at at entry.size) >>= λ others. Ok (with_word entry.kind entry.word others) in
    let c = no_error (leb end at) [] (property_in bytes end last at) k f h in
    let lt : at < end = leb-false _ _ c.0 in
    elim (bind_err (property_in bytes end last at) k f c.1) [
      | inl fails ↦ failed_here bytes end last at f lt place fails
      | inr t ↦
          let e = t.0 in
          let took = property-takes bytes end last at e fits t.1 in
          let next = took_next bytes end last at e fits t.1 in
          elim (bind_err (properties_in n bytes end (Some e.kind) (next_at at e.size)) (λ others. Ok (with_word e.kind e.word others)) f t.2) [
            | inl later ↦ failed_later bytes end last at e f took (properties-failed n bytes end (Some e.kind) (next_at at e.size) f fits next.1 later)
            | inr u ↦ absurd (never u.2)
          ]
    ]

-- ---- the field that fails

-- the header and the properties in front of it
record Before (bytes : List ℕ) (size : ℕ) (ps : List Stored) : Type 0 where
  some : bytes ≢ []
  is_size : IsSize size
  are : AreProperties ps
  is : bytes ≡ (header size ++ descriptor ps) ++ drop (16 + length (descriptor ps)) bytes

place_of : (size : ℕ) (ps : List Stored) → length (header size ++ descriptor ps) ≡ 16 + length (descriptor ps)
place_of size ps = omega (arith, length-append (header size) (descriptor ps))

moved : (row : Row) (rest : List ℕ) (a b : ℕ) (f : NoteError) → a ≡ b → Breaks row rest a f → Breaks row rest b f
moved row rest a b f e h = subst (λ (n : ℕ). Breaks row rest n f) e h

type_fault : (bytes : List ℕ) (size : ℕ) (ps : List Stored) (f : NoteError) → Before bytes size ps → length (descriptor ps) < size
    → Breaks (property_type (last_type None ps)) (drop (16 + length (descriptor ps)) bytes) (16 + length (descriptor ps)) f → IsFirstFault bytes f
type_fault bytes size ps f b lt h =
    let at = 16 + length (descriptor ps) in
    (b.some, property_type (last_type None ps), header size ++ descriptor ps, drop at bytes, (size, ps, b.is_size, b.are, refl, lt, refl), b.is, moved (property_type (last_type None ps)) (drop at bytes) at (length (header size ++ descriptor ps)) f (sym (place_of size ps)) h)

record SizeBefore (bytes : List ℕ) (size : ℕ) (ps : List Stored) (kind left : ℕ) (front : List ℕ) : Type 0 where
  some : bytes ≢ []
  front_is : SizeFront kind left front
  is : bytes ≡ front ++ drop (16 + length (descriptor ps) + 4) bytes
  place : length front ≡ 16 + length (descriptor ps) + 4

size_before : (bytes : List ℕ) (size : ℕ) (ps : List Stored) (kind left : ℕ) → Before bytes size ps → kind < 2 ^ 32 → Below (last_type None ps) kind → length (descriptor ps) + 8 + left ≡ size
    → Stands bytes (16 + length (descriptor ps)) (word_bytes kind) (drop (16 + length (descriptor ps) + 4) bytes) → SizeBefore bytes size ps kind left (header size ++ (descriptor ps ++ word_bytes kind))
size_before bytes size ps kind left b fits below fills stands =
    let rest = drop (16 + length (descriptor ps) + 4) bytes in
    record {
      some = b.some;
      front_is = (size, ps, b.is_size, b.are, fits, below, fills, refl);
      is = b.is ∙ ap (λ (x : List ℕ). (header size ++ descriptor ps) ++ x) stands.is ∙ regroup (header size) (descriptor ps) (word_bytes kind) rest;
      place = omega (arith, length-append (header size) (descriptor ps ++ word_bytes kind), length-append (descriptor ps) (word_bytes kind));
    }
  where
    regroup : (a b c d : List ℕ) → (a ++ b) ++ (c ++ d) ≡ (a ++ (b ++ c)) ++ d
    regroup a b c d = simp append_assoc

size_fault : (bytes : List ℕ) (size : ℕ) (ps : List Stored) (kind left : ℕ) (front : List ℕ) (f : NoteError) → SizeBefore bytes size ps kind left front
    → Breaks (property_size kind left) (drop (16 + length (descriptor ps) + 4) bytes) (16 + length (descriptor ps) + 4) f → IsFirstFault bytes f
size_fault bytes size ps kind left front f b h =
    let at = 16 + length (descriptor ps) + 4 in
    (b.some, property_size kind left, front, drop at bytes, b.front_is, b.is, moved (property_size kind left) (drop at bytes) at (length front) f (sym b.place) h)

record ContentBefore (bytes : List ℕ) (at : ℕ) (n : ℕ) (front : List ℕ) : Type 0 where
  some : bytes ≢ []
  front_is : ContentFront n front
  is : bytes ≡ front ++ drop at bytes
  place : length front ≡ at

content_before : (bytes : List ℕ) (size : ℕ) (ps : List Stored) (kind left n : ℕ) (front : List ℕ) → SizeBefore bytes size ps kind left front → n < 2 ^ 32 → FitsIn kind left n
    → Stands bytes (16 + length (descriptor ps) + 4) (word_bytes n) (drop (16 + length (descriptor ps) + 8) bytes) → ContentBefore bytes (16 + length (descriptor ps) + 8) n (front ++ word_bytes n)
content_before bytes size ps kind left n front b small fits stands = record {
  some = b.some;
  front_is = (kind, left, front, b.front_is, small, fits, refl);
  is = b.is ∙ ap (λ (x : List ℕ). front ++ x) stands.is ∙ sym (append_assoc front (word_bytes n) (drop (16 + length (descriptor ps) + 8) bytes));
  place = omega (arith, b.place, length-append front (word_bytes n));
}

content_fault : (bytes : List ℕ) (at n : ℕ) (front : List ℕ) (f : NoteError) → ContentBefore bytes at n front → Breaks (content n) (drop at bytes) at f → IsFirstFault bytes f
content_fault bytes at n front f b h =
    (b.some, content n, front, drop at bytes, b.front_is, b.is, moved (content n) (drop at bytes) at (length front) f (sym b.place) h)

padding_fault : (bytes : List ℕ) (at n : ℕ) (front bs : List ℕ) (f : NoteError) → ContentBefore bytes at n front → length bs ≡ n → Stands bytes at bs (drop (at + n) bytes) → Breaks (padding n) (drop (at + n) bytes) (at + n) f → IsFirstFault bytes f
padding_fault bytes at n front bs f b len stands h =
    let place : length (front ++ bs) ≡ at + n = omega (arith, b.place, len, length-append front bs) in
    let is : bytes ≡ (front ++ bs) ++ drop (at + n) bytes = b.is ∙ ap (λ (x : List ℕ). front ++ x) stands.is ∙ sym (append_assoc front bs (drop (at + n) bytes)) in
    (b.some, padding n, front ++ bs, drop (at + n) bytes, (front, bs, b.front_is, len, refl), is, moved (padding n) (drop (at + n) bytes) (at + n) (length (front ++ bs)) f (sym place) h)

-- a type that does not stand above the last one
above_err : (last : Option ℕ) (kind n at : ℕ) (rest : List ℕ) (f : NoteError) → kind ≡ n → above last kind at ≡ Err f → BreaksRule (property_type last) n rest at f
above_err None kind n at rest f same e = absurd cc
above_err (Some last) kind n at rest f same e = go (ltb last kind) (eqb last kind) (ltb-false last kind) (eqb-true last kind) (eq-eqb last kind) e
  where
    go : (a b : Bool) → (a ≡ false → kind ≤ last) → (b ≡ true → last ≡ kind) → (last ≡ kind → b ≡ true) → (if a then kept else if b then Err (Twice at) else Err (Order at)) ≡ Err f → ((n ≡ last) × (f ≡ Twice at)) ⊎ ((n < last) × (f ≡ Order at))
    go true b h k l e = absurd cc
    go false true h k l e = inl (sym same ∙ sym (k refl), cc)
    go false false h k l e = let differs : last ≡ kind → ⊥ = λ x. false≢true (l x) in inr (omega (arith, h refl, same, differs), cc)

-- the field is too short
short : (bytes : List ℕ) (at size : ℕ) → at ≤ length bytes → length bytes < at + size → length (drop at bytes) < size
short bytes at size place lt = omega (arith, length-drop at bytes)

long : (bytes : List ℕ) (at size : ℕ) → at + size ≤ length bytes → size ≤ length (drop at bytes)
long bytes at size le = omega (arith, length-drop at bytes)

-- the steps of a property from its size on, from its data on, and its padding
abbrev padding_steps : List ℕ → ℕ → ℕ → ℕ → List ℕ → Result Entry NoteError
padding_steps bytes at kind size c = do
  _ ← bytes_at bytes (at + 8 + size) (padding_of size)
  Ok (record { kind = kind; size = size; word = if is_word_type kind then field 4 c 0 else None })

abbrev content_steps : List ℕ → ℕ → ℕ → ℕ → Result Entry NoteError
content_steps bytes at kind size = bytes_at bytes (at + 8) size >>= padding_steps bytes at kind size

abbrev fit_steps : List ℕ → ℕ → ℕ → ℕ → ℕ → Result Entry NoteError
fit_steps bytes end at kind size = demand (size_fits end kind size (at + 4)) (Size (at + 4)) >>= λ u. content_steps bytes at kind size

abbrev size_steps : List ℕ → ℕ → ℕ → ℕ → Result Entry NoteError
size_steps bytes end at kind = word_at bytes (at + 4) >>= fit_steps bytes end at kind

from_padding : (bytes : List ℕ) (at kind n : ℕ) (front bs : List ℕ) (f : NoteError) → ContentBefore bytes (at + 8) n front → length bs ≡ n → Stands bytes (at + 8) bs (drop (at + 8 + n) bytes) → padding_steps bytes at kind n bs ≡ Err f → IsFirstFault bytes f
from_padding bytes at kind n front bs f b len stands h =
    let made = λ (p : List ℕ). let e : Entry = record { kind = kind; size = n; word = if is_word_type kind then field 4 bs 0 else None } in done e in
    elim (bind_err (bytes_at bytes (at + 8 + n) (padding_of n)) made f h) [
      | inl e ↦
          let c = bytes_err bytes (at + 8 + n) (padding_of n) f e in
          let place : at + 8 + n ≤ length bytes = omega (arith, Stands-length bytes (at + 8) bs (drop (at + 8 + n) bytes) stands, len) in
          padding_fault bytes (at + 8) n front bs f b len stands (inl (short bytes (at + 8 + n) (padding_of n) place c.0, c.1))
      | inr p ↦ absurd (never p.2)
    ]

from_content : (bytes : List ℕ) (at kind n : ℕ) (front : List ℕ) (f : NoteError) → at + 8 ≤ length bytes → ContentBefore bytes (at + 8) n front → content_steps bytes at kind n ≡ Err f → IsFirstFault bytes f
from_content bytes at kind n front f place b h =
    elim (bind_err (bytes_at bytes (at + 8) n) (padding_steps bytes at kind n) f h) [
      | inl e ↦ let c = bytes_err bytes (at + 8) n f e in content_fault bytes (at + 8) n front f b (inl (short bytes (at + 8) n place c.0, c.1))
      | inr p ↦ let t = Stands-bytes_at bytes (at + 8) n p.0 p.1 in from_padding bytes at kind n front p.0 f b t.1 t.0 p.2
    ]

-- a size that fits is no fault
fitting_size : (end kind n at left : ℕ) → end ≡ at + 8 + left → FitsIn kind left n → size_fits end kind n (at + 4) ≡ true
fitting_size end kind n at left ends h = fitting end kind n (at + 4) (omega (arith, h.0)) h.1

fits_in : (end kind n at left : ℕ) → end ≡ at + 8 + left → size_fits end kind n (at + 4) ≡ true → FitsIn kind left n
fits_in end kind n at left ends e = let w = within_end end kind n at e in (omega arith, word_has_four end kind n (at + 4) e)

from_size : (bytes : List ℕ) (size : ℕ) (ps : List Stored) (kind left : ℕ) (front : List ℕ) (f : NoteError) → IsBytes bytes → SizeBefore bytes size ps kind left front → 16 + size ≡ 16 + length (descriptor ps) + 8 + left → 16 + length (descriptor ps) + 4 ≤ length bytes
    → size_steps bytes (16 + size) (16 + length (descriptor ps)) kind ≡ Err f → IsFirstFault bytes f
from_size bytes size ps kind left front f fits b ends place h =
    let at = 16 + length (descriptor ps) in
    elim (bind_err (word_at bytes (at + 4)) (fit_steps bytes (16 + size) at kind) f h) [
      | inl e ↦ let c = word_err bytes (at + 4) f e in size_fault bytes size ps kind left front f b (inl (short bytes (at + 4) 4 place c.0, c.1))
      | inr a ↦
          let n = a.0 in
          let v = word_is bytes (at + 4) n a.1 in
          let w = Stands-word_at bytes (at + 4) n fits a.1 in
          elim (bind_err (demand (size_fits (16 + size) kind n (at + 4)) (Size (at + 4))) (λ u. content_steps bytes at kind n) f a.2) [
            | inl e ↦
                let d = demand_err (size_fits (16 + size) kind n (at + 4)) (Size (at + 4)) f e in
                let misfit : FitsIn kind left (little_endian (take 4 (drop (at + 4) bytes))) → ⊥ = λ g. false≢true (sym d.0 ∙ fitting_size (16 + size) kind n at left ends (subst (FitsIn kind left) (sym v.1) g)) in
                size_fault bytes size ps kind left front f b (inr (long bytes (at + 4) 4 v.0, (misfit, d.1)))
            | inr u ↦
                let ok : size_fits (16 + size) kind n (at + 4) ≡ true = demand_ok _ _ u.0 u.1 in
                let eight : at + 4 + 4 ≡ at + 8 = omega arith in
                let stands = subst (λ (m : ℕ). Stands bytes (at + 4) (word_bytes n) (drop m bytes)) eight w.0 in
                from_content bytes at kind n (front ++ word_bytes n) f (omega (arith, v.0)) (content_before bytes size ps kind left n front b w.1 (fits_in (16 + size) kind n at left ends ok) stands) u.2
          ]
    ]

property_fault : (bytes : List ℕ) (size : ℕ) (ps : List Stored) (f : NoteError) → IsBytes bytes → Before bytes size ps → length (descriptor ps) < size → 16 + length (descriptor ps) ≤ length bytes
    → property_in bytes (16 + size) (last_type None ps) (16 + length (descriptor ps)) ≡ Err f → IsFirstFault bytes f
unfolding property_in
property_fault bytes size ps f fits b lt place h =
    let at = 16 + length (descriptor ps) in
    let last = last_type None ps in
    let left = size - (length (descriptor ps) + 8) in
    let room : length (descriptor ps) + 8 ≤ size = omega (arith, lt, b.is_size.whole, descriptor-whole ps b.are.each) in
    let k1 = λ (kind : ℕ) (u : Unit {0}). size_steps bytes (16 + size) at kind in
    elim (bind_err (word_at bytes at) (λ kind. above last kind at >>= k1 kind) f h) [
      | inl e ↦ let c = word_err bytes at f e in type_fault bytes size ps f b lt (inl (short bytes at 4 place c.0, c.1))
      | inr a ↦
          let kind = a.0 in
          let v = word_is bytes at kind a.1 in
          let w = Stands-word_at bytes at kind fits a.1 in
          elim (bind_err (above last kind at) (k1 kind) f a.2) [
            | inl e ↦ type_fault bytes size ps f b lt (inr (long bytes at 4 v.0, above_err last kind (little_endian (take 4 (drop at bytes))) at (drop at bytes) f v.1 e))
            | inr u ↦
                let below = Below-above last kind at u.1 in
                let s = size_before bytes size ps kind left b w.1 below (omega arith) w.0 in
                from_size bytes size ps kind left (header size ++ (descriptor ps ++ word_bytes kind)) f fits s (omega arith) (omega (arith, v.0)) u.2
          ]
    ]

-- ---- the header that fails

eqb_not : (a b : ℕ) → eqb a b ≡ false → a ≢ b
eqb_not a b e same = absurd (false≢true (sym e ∙ eq-eqb a b same))

abbrev after_name : List ℕ → ℕ → ℕ → Result ℕ NoteError
after_name bytes size name = demand (eqb name 0x00554e47) (Name 12) >>= λ u. Ok size

abbrev after_type : List ℕ → ℕ → ℕ → Result ℕ NoteError
after_type bytes size kind = demand (eqb kind 5) (Kind 8) >>= λ u. word_at bytes 12 >>= after_name bytes size

abbrev after_size : List ℕ → ℕ → Result ℕ NoteError
after_size bytes size = demand (eqb (size % 8) 0) (Size 4) >>= λ u. word_at bytes 8 >>= after_type bytes size

abbrev after_name_size : List ℕ → ℕ → Result ℕ NoteError
after_name_size bytes n = demand (eqb n 4) (Name 0) >>= λ u. word_at bytes 4 >>= after_size bytes

name_fault : (bytes : List ℕ) (size : ℕ) (f : NoteError) → (bytes ≢ []) → IsSize size → bytes ≡ (word_bytes 4 ++ (word_bytes size ++ word_bytes 5)) ++ drop 12 bytes → 12 ≤ length bytes → (word_at bytes 12 >>= after_name bytes size) ≡ Err f → IsFirstFault bytes f
name_fault bytes size f some is_size is place h =
    let front = word_bytes 4 ++ (word_bytes size ++ word_bytes 5) in
    elim (bind_err (word_at bytes 12) (after_name bytes size) f h) [
      | inl e ↦ let c = word_err bytes 12 f e in (some, note_name, front, drop 12 bytes, (size, is_size, refl), is, inl (short bytes 12 4 place c.0, c.1))
      | inr a ↦
          let v = word_is bytes 12 a.0 a.1 in
          elim (bind_err (demand (eqb a.0 0x00554e47) (Name 12)) (λ u. done size) f a.2) [
            | inl e ↦
                let d = demand_err (eqb a.0 0x00554e47) (Name 12) f e in
                let other : take 4 (drop 12 bytes) ≢ codes "GNU" ++ 0 ∷ [] = λ g. eqb_not a.0 0x00554e47 d.0 (v.1 ∙ ap little_endian g) in
                (some, note_name, front, drop 12 bytes, (size, is_size, refl), is, inr (long bytes 12 4 v.0, (other, d.1)))
            | inr u ↦ absurd (never u.2)
          ]
    ]

note_type_fault : (bytes : List ℕ) (size : ℕ) (f : NoteError) → IsBytes bytes → (bytes ≢ []) → IsSize size → bytes ≡ (word_bytes 4 ++ word_bytes size) ++ drop 8 bytes → 8 ≤ length bytes → (word_at bytes 8 >>= after_type bytes size) ≡ Err f → IsFirstFault bytes f
note_type_fault bytes size f fits some is_size is place h =
    let front = word_bytes 4 ++ word_bytes size in
    elim (bind_err (word_at bytes 8) (after_type bytes size) f h) [
      | inl e ↦ let c = word_err bytes 8 f e in (some, note_type, front, drop 8 bytes, (size, is_size, refl), is, inl (short bytes 8 4 place c.0, c.1))
      | inr a ↦
          let v = word_is bytes 8 a.0 a.1 in
          elim (bind_err (demand (eqb a.0 5) (Kind 8)) (λ u. word_at bytes 12 >>= after_name bytes size) f a.2) [
            | inl e ↦
                let d = demand_err (eqb a.0 5) (Kind 8) f e in
                (some, note_type, front, drop 8 bytes, (size, is_size, refl), is, inr (long bytes 8 4 v.0, (λ g. eqb_not a.0 5 d.0 (v.1 ∙ g), d.1)))
            | inr u ↦
                let five : a.0 ≡ 5 = eqb-true _ _ (demand_ok _ _ u.0 u.1) in
                let w = Stands-word_at bytes 8 5 fits (a.1 ∙ ap done five) in
                name_fault bytes size f some is_size (is ∙ ap (λ (x : List ℕ). (word_bytes 4 ++ word_bytes size) ++ x) w.0.is) (omega (arith, v.0)) u.2
          ]
    ]

descriptor_fault : (bytes : List ℕ) (f : NoteError) → IsBytes bytes → (bytes ≢ []) → bytes ≡ word_bytes 4 ++ drop 4 bytes → 4 ≤ length bytes → (word_at bytes 4 >>= after_size bytes) ≡ Err f → IsFirstFault bytes f
descriptor_fault bytes f fits some is place h =
    elim (bind_err (word_at bytes 4) (after_size bytes) f h) [
      | inl e ↦ let c = word_err bytes 4 f e in (some, descriptor_size, word_bytes 4, drop 4 bytes, refl, is, inl (short bytes 4 4 place c.0, c.1))
      | inr a ↦
          let size = a.0 in
          let v = word_is bytes 4 size a.1 in
          elim (bind_err (demand (eqb (size % 8) 0) (Size 4)) (λ u. word_at bytes 8 >>= after_type bytes size) f a.2) [
            | inl e ↦
                let d = demand_err (eqb (size % 8) 0) (Size 4) f e in
                (some, descriptor_size, word_bytes 4, drop 4 bytes, refl, is, inr (long bytes 4 4 v.0, (λ g. eqb_not (size % 8) 0 d.0 (ap (λ (n : ℕ). n % 8) v.1 ∙ g), d.1)))
            | inr u ↦
                let whole : size % 8 ≡ 0 = eqb-true _ _ (demand_ok _ _ u.0 u.1) in
                let w = Stands-word_at bytes 4 size fits a.1 in
                note_type_fault bytes size f fits some (record { fits = w.1; whole = whole }) (is ∙ ap (λ (x : List ℕ). word_bytes 4 ++ x) w.0.is) (omega (arith, v.0)) u.2
          ]
    ]

header_fault : (bytes : List ℕ) (f : NoteError) → IsBytes bytes → (bytes ≢ []) → header_in bytes ≡ Err f → IsFirstFault bytes f
unfolding header_in
header_fault bytes f fits some h =
    elim (bind_err (word_at bytes 0) (after_name_size bytes) f h) [
      | inl e ↦ let c = word_err bytes 0 f e in (some, name_size, [], bytes, refl, refl, inl (c.0, c.1))
      | inr a ↦
          let v = word_is bytes 0 a.0 a.1 in
          elim (bind_err (demand (eqb a.0 4) (Name 0)) (λ u. word_at bytes 4 >>= after_size bytes) f a.2) [
            | inl e ↦
                let d = demand_err (eqb a.0 4) (Name 0) f e in
                (some, name_size, [], bytes, refl, refl, inr (v.0, (λ g. eqb_not a.0 4 d.0 (v.1 ∙ g), d.1)))
            | inr u ↦
                let four : a.0 ≡ 4 = eqb-true _ _ (demand_ok _ _ u.0 u.1) in
                let w = Stands-word_at bytes 0 4 fits (a.1 ∙ ap done four) in
                descriptor_fault bytes f fits some w.0.is (omega (arith, v.0)) u.2
          ]
    ]

-- ---- the note

before_of : (bytes : List ℕ) (size : ℕ) (ps : List Stored) → (bytes ≢ []) → TookHeader bytes size → All IsStored ps → Ascends None ps → Stands bytes 16 (descriptor ps) (drop (16 + length (descriptor ps)) bytes) → Before bytes size ps
before_of bytes size ps some t each up stands = record {
  some = some;
  is_size = record { fits = t.fits; whole = t.whole };
  are = record { each = each; ascending = IsStrictlyIncreasing-from ps up };
  is = t.is ∙ ap (four_words size) stands.is ∙ sym (append_assoc (header size) (descriptor ps) (drop (16 + length (descriptor ps)) bytes));
}

end_fault : (bytes : List ℕ) (size : ℕ) (note : Note) (f : NoteError) → (bytes ≢ []) → TookHeader bytes size → TookAll bytes (16 + size) None 16 note → 16 + size < length bytes → f ≡ Size (16 + size) → IsFirstFault bytes f
end_fault bytes size note f some t all more is =
    let ps = all.ps in
    let len : length (descriptor ps) ≡ size = omega (arith, all.ends) in
    let at : 16 + size ≡ 16 + length (descriptor ps) = omega (arith, len) in
    let b = before_of bytes size ps some t all.each all.ascends (subst (λ (n : ℕ). Stands bytes 16 (descriptor ps) (drop n bytes)) at all.stands) in
    let rest = drop (16 + length (descriptor ps)) bytes in
    let left : rest ≢ [] = λ none. omega (arith, ap length none, length-drop (16 + length (descriptor ps)) bytes, len) in
    let place : 16 + size ≡ length (header size ++ descriptor ps) = omega (arith, len, place_of size ps) in
    (some, note_end, header size ++ descriptor ps, rest, (size, ps, b.is_size, b.are, len, refl), b.is, inr (omega arith, (left, is ∙ ap (λ (n : ℕ). Size n) place)))

pub first_fault-found : (bytes : List ℕ) (f : NoteError) → IsBytes bytes → note_in bytes ≡ Err f → IsFirstFault bytes f
unfolding note_in
first_fault-found [] f fits h = absurd (never h)
first_fault-found (x ∷ xs) f fits h =
    let bytes = x ∷ xs in
    let some : bytes ≢ [] = λ e. absurd cc in
    let k2 = λ (size : ℕ) (note : Note). demand (leb (length bytes) (16 + size)) (Size (16 + size)) >>= λ u. done note in
    let k1 = λ (size : ℕ). properties_in size bytes (16 + size) None 16 >>= k2 size in
    elim (bind_err (header_in bytes) k1 f h) [
      | inl e ↦ header_fault bytes f fits some e
      | inr a ↦
          let size = a.0 in
          let t = header-takes bytes size fits a.1 in
          elim (bind_err (properties_in size bytes (16 + size) None 16) (k2 size) f a.2) [
            | inl e ↦
                let p = properties-failed size bytes (16 + size) None 16 f fits t.place e in
                let place : 16 + length (descriptor p.ps) ≤ length bytes = omega (arith, Stands-length bytes 16 (descriptor p.ps) (drop (16 + length (descriptor p.ps)) bytes) p.stands) in
                property_fault bytes size p.ps f fits (before_of bytes size p.ps some t p.each p.ascends p.stands) (omega (arith, p.below)) place p.fails
            | inr u ↦
                let all = properties-take size bytes (16 + size) None 16 u.0 fits (omega arith) (omega arith) t.place u.1 in
                elim (bind_err (demand (leb (length bytes) (16 + size)) (Size (16 + size))) (λ v. done u.0) f u.2) [
                  | inl e ↦ let d = demand_err (leb (length bytes) (16 + size)) (Size (16 + size)) f e in end_fault bytes size u.0 f some t all (leb-false _ _ d.0) d.1
                  | inr v ↦ absurd (never v.2)
                ]
          ]
    ]

-- what a call refused
pub refused : (bytes : List ℕ) (r : Result Note NoteError) → IsBytes bytes → Gives (λ n. n) r (note_in bytes) → IfErr r (λ e. e ≢ errors.NoMemory → IsFirstFault bytes e)
refused bytes (Ok note) fits h = tt
refused bytes (Err errors.NoMemory) fits h = λ other. absurd (other refl)
refused bytes (Err (errors.Cut at)) fits h = λ other. first_fault-found bytes (Cut at) fits h
refused bytes (Err (errors.Name at)) fits h = λ other. first_fault-found bytes (Name at) fits h
refused bytes (Err (errors.Kind at)) fits h = λ other. first_fault-found bytes (Kind at) fits h
refused bytes (Err (errors.Size at)) fits h = λ other. first_fault-found bytes (Size at) fits h
refused bytes (Err (errors.Order at)) fits h = λ other. first_fault-found bytes (Order at) fits h
refused bytes (Err (errors.Twice at)) fits h = λ other. first_fault-found bytes (Twice at) fits h
