-- The first fault by rows is the fault that reading finds: all rows.
use Rattle.std.proofs.Common.{◌≡◌, ◌≢◌, ℕ, ◌+◌, ◌<◌, true, List, [], ◌∷◌, ◌++◌, length, Option, None, Ok, Err, refl, sym, ap, subst, ◌∙◌, append_assoc, inl, inr, arith}
use Rattle.std.proofs.lemmas.List.{append-nil, length-append}
use Rattle.cet_note.specs.declared.fault.NoteError.{NoteError}
use Rattle.cet_note.specs.declared.fault.NoteError.TheVariants.{Size}
use Rattle.cet_note.specs.Form.{word_bytes, Stored, descriptor, header, words_among}
use Rattle.cet_note.specs.Fault.{word_at, bytes_at, header_in, size_fits, property_in, note_in}
use Rattle.cet_note.specs.FirstFault.{Row, name_size, descriptor_size, note_type, note_name, property_type, property_size, content, padding, note_end, IsSize, AreProperties, last_type, Below, FitsIn, SizeFront, ContentFront, Front, Breaks, IsFirstFault}
use Rattle.cet_note.proofs.Steps.{fitting}
use Rattle.cet_note.proofs.Fields.{IsBytes, IsBytes-drop, Stands, Stands-length, Stands-split, word_at-Stands, bytes_at-Stands}
use Rattle.cet_note.proofs.Descriptors.{above-Below, properties-again}
use Rattle.cet_note.proofs.WholeNotes.{Ascends-from, header-again}
use Rattle.cet_note.proofs.FaultFronts as fronts

-- what stands at a place up to the end, as a part and what is behind it
parted : (bytes : List ℕ) (at : ℕ) (part rest : List ℕ) → Stands bytes at (part ++ rest) [] → Stands bytes at part rest
parted bytes at part rest h = record { place = h.place; is = h.is ∙ append-nil (part ++ rest) }

behind : (bytes : List ℕ) (at : ℕ) (part rest : List ℕ) → Stands bytes at (part ++ rest) [] → Stands bytes (at + length part) rest []
behind bytes at part rest h =
    Stands-split bytes at part rest [] (length part) refl (record { place = h.place; is = h.is ∙ append_assoc part rest [] })

-- a header and properties stand in front of the rest
record Placed (bytes : List ℕ) (size : ℕ) (ps : List Stored) (rest : List ℕ) : Type 0 where
  head : header_in bytes ≡ Ok size
  stands : Stands bytes 16 (descriptor ps) rest
  behind : Stands bytes (16 + length (descriptor ps)) rest []

placed : (bytes rest : List ℕ) (size : ℕ) (ps : List Stored) → IsSize size → bytes ≡ (header size ++ descriptor ps) ++ rest → Placed bytes size ps rest
placed bytes rest size ps is e =
    let w = header-again bytes size (descriptor ps ++ rest) is.fits is.whole (e ∙ append_assoc (header size) (descriptor ps) rest) in
    record { head = w.0; stands = parted bytes 16 (descriptor ps) rest w.1; behind = behind bytes 16 (descriptor ps) rest w.1 }

-- the property behind them fails
note_fails_property : (bytes rest : List ℕ) (size : ℕ) (ps : List Stored) (f : NoteError) → (bytes ≢ []) → AreProperties ps → Placed bytes size ps rest → length (descriptor ps) < size
    → property_in bytes (16 + size) (last_type None ps) (16 + length (descriptor ps)) ≡ Err f → note_in bytes ≡ Err f
note_fails_property bytes rest size ps f some are p lt fails =
    fronts.note_fails_properties bytes size f some p.head
    (fronts.properties_fail ps size bytes (16 + size) None 16 rest f are.each (Ascends-from ps are.ascending) p.stands (omega arith) (omega arith) fails)

-- ---- the fields of the property

record SizePlaced (bytes : List ℕ) (kind left : ℕ) (front rest : List ℕ) : Type 0 where
  size : ℕ
  ps : List Stored
  are : AreProperties ps
  below : Below (last_type None ps) kind
  fills : length (descriptor ps) + 8 + left ≡ size
  placed : Placed bytes size ps (word_bytes kind ++ rest)
  kind_is : word_at bytes (16 + length (descriptor ps)) ≡ Ok kind
  behind : Stands bytes (16 + length (descriptor ps) + 4) rest []
  place : length front ≡ 16 + length (descriptor ps) + 4

size_placed : (bytes front rest : List ℕ) (kind left : ℕ) → bytes ≡ front ++ rest → SizeFront kind left front → SizePlaced bytes kind left front rest
size_placed bytes front rest kind left e h =
    let size = h.0 in
    let ps = h.1 in
    let body = descriptor ps in
    let is : front ≡ header size ++ (body ++ word_bytes kind) = h.7 in
    let whole : bytes ≡ (header size ++ body) ++ (word_bytes kind ++ rest) = e ∙ ap (λ (x : List ℕ). x ++ rest) is ∙ regroup body in
    let p = placed bytes (word_bytes kind ++ rest) size ps h.2 whole in
    record {
      size = size;
      ps = ps;
      are = h.3;
      below = h.5;
      fills = h.6;
      placed = p;
      kind_is = word_at-Stands bytes (16 + length body) kind rest h.4 (parted bytes (16 + length body) (word_bytes kind) rest p.behind);
      behind = behind bytes (16 + length body) (word_bytes kind) rest p.behind;
      place = omega (arith, ap length is, length-append (header size) (body ++ word_bytes kind), length-append body (word_bytes kind));
    }
  where
    regroup : (body : List ℕ) → (header h.0 ++ (body ++ word_bytes kind)) ++ rest ≡ (header h.0 ++ body) ++ (word_bytes kind ++ rest)
    regroup body = simp append_assoc

record ContentPlaced (bytes : List ℕ) (size : ℕ) (front rest : List ℕ) : Type 0 where
  kind : ℕ
  left : ℕ
  before : List ℕ
  of : SizePlaced bytes kind left before (word_bytes size ++ rest)
  fits : FitsIn kind left size
  size_is : word_at bytes (16 + length (descriptor of.ps) + 4) ≡ Ok size
  behind : Stands bytes (16 + length (descriptor of.ps) + 8) rest []
  place : length front ≡ 16 + length (descriptor of.ps) + 8

content_placed : (bytes front rest : List ℕ) (size : ℕ) → bytes ≡ front ++ rest → ContentFront size front → ContentPlaced bytes size front rest
content_placed bytes front rest size e h =
    let before = h.2 in
    let is : front ≡ before ++ word_bytes size = h.6 in
    let s = size_placed bytes before (word_bytes size ++ rest) h.0 h.1 (e ∙ ap (λ (x : List ℕ). x ++ rest) is ∙ append_assoc before (word_bytes size) rest) h.3 in
    let at = 16 + length (descriptor s.ps) + 4 in
    let next : at + 4 ≡ 16 + length (descriptor s.ps) + 8 = omega arith in
    record {
      kind = h.0;
      left = h.1;
      before = before;
      of = s;
      fits = h.5;
      size_is = word_at-Stands bytes at size rest h.4 (parted bytes at (word_bytes size) rest s.behind);
      behind = subst (λ (n : ℕ). Stands bytes n rest []) next (behind bytes at (word_bytes size) rest s.behind);
      place = omega (arith, ap length is, length-append before (word_bytes size), s.place);
    }

fits_size : (kind left size at end : ℕ) → end ≡ at + 8 + left → FitsIn kind left size → size_fits end kind size (at + 4) ≡ true
fits_size kind left size at end ends h = fitting end kind size (at + 4) (omega (arith, h.0)) h.1

-- ---- each row

-- a break at the place where the front ends
moved : (row : Row) (rest : List ℕ) (a b : ℕ) (f : NoteError) → a ≡ b → Breaks row rest a f → Breaks row rest b f
moved row rest a b f e h = subst (λ (n : ℕ). Breaks row rest n f) e h

row_size : (bytes front rest : List ℕ) (kind left : ℕ) (f : NoteError) → (bytes ≢ []) → bytes ≡ front ++ rest → SizeFront kind left front → Breaks (property_size kind left) rest (length front) f → note_in bytes ≡ Err f
row_size bytes front rest kind left f some e h b =
    let s = size_placed bytes front rest kind left e h in
    let at = 16 + length (descriptor s.ps) in
    note_fails_property bytes (word_bytes kind ++ rest) s.size s.ps f some s.are s.placed (omega (arith, s.fills))
    (fronts.property_fails_size bytes (16 + s.size) (last_type None s.ps) at kind left rest f (omega (arith, s.fills)) s.kind_is (above-Below (last_type None s.ps) kind at s.below) (moved (property_size kind left) rest (length front) (at + 4) f s.place b) s.behind)

row_content : (bytes front rest : List ℕ) (size : ℕ) (f : NoteError) → (bytes ≢ []) → bytes ≡ front ++ rest → ContentFront size front → Breaks (content size) rest (length front) f → note_in bytes ≡ Err f
row_content bytes front rest size f some e h b =
    let c = content_placed bytes front rest size e h in
    let s = c.of in
    let at = 16 + length (descriptor s.ps) in
    note_fails_property bytes (word_bytes c.kind ++ (word_bytes size ++ rest)) s.size s.ps f some s.are s.placed (omega (arith, s.fills))
    (fronts.property_fails_content bytes (16 + s.size) (last_type None s.ps) at c.kind size rest f s.kind_is (above-Below (last_type None s.ps) c.kind at s.below) c.size_is (fits_size c.kind c.left size at (16 + s.size) (omega (arith, s.fills)) c.fits) (moved (content size) rest (length front) (at + 8) f c.place b) c.behind)

row_padding : (bytes front rest : List ℕ) (size : ℕ) (f : NoteError) → (bytes ≢ []) → bytes ≡ front ++ rest → Front (padding size) front → Breaks (padding size) rest (length front) f → note_in bytes ≡ Err f
row_padding bytes front rest size f some e h b =
    let before = h.0 in
    let bs = h.1 in
    let is : front ≡ before ++ bs = h.4 in
    let c = content_placed bytes before (bs ++ rest) size (e ∙ ap (λ (x : List ℕ). x ++ rest) is ∙ append_assoc before bs rest) h.2 in
    let s = c.of in
    let at = 16 + length (descriptor s.ps) in
    let data_is : bytes_at bytes (at + 8) size ≡ Ok bs = subst (λ (n : ℕ). bytes_at bytes (at + 8) n ≡ Ok bs) h.3 (bytes_at-Stands bytes (at + 8) bs rest (parted bytes (at + 8) bs rest c.behind)) in
    let rest_at = subst (λ (n : ℕ). Stands bytes (at + 8 + n) rest []) h.3 (behind bytes (at + 8) bs rest c.behind) in
    let place : length front ≡ at + 8 + size = omega (arith, ap length is, length-append before bs, c.place, h.3) in
    note_fails_property bytes (word_bytes c.kind ++ (word_bytes size ++ (bs ++ rest))) s.size s.ps f some s.are s.placed (omega (arith, s.fills))
    (fronts.property_fails_padding bytes (16 + s.size) (last_type None s.ps) at c.kind size bs rest f s.kind_is (above-Below (last_type None s.ps) c.kind at s.below) c.size_is (fits_size c.kind c.left size at (16 + s.size) (omega (arith, s.fills)) c.fits) data_is (moved (padding size) rest (length front) (at + 8 + size) f place b) rest_at)

row_type : (bytes front rest : List ℕ) (last : Option ℕ) (f : NoteError) → (bytes ≢ []) → bytes ≡ front ++ rest → Front (property_type last) front → Breaks (property_type last) rest (length front) f → note_in bytes ≡ Err f
row_type bytes front rest last f some e h b =
    let size = h.0 in
    let ps = h.1 in
    let is : front ≡ header size ++ descriptor ps = h.6 in
    let p = placed bytes rest size ps h.2 (e ∙ ap (λ (x : List ℕ). x ++ rest) is) in
    let at = 16 + length (descriptor ps) in
    let place : length front ≡ at = omega (arith, ap length is, length-append (header size) (descriptor ps)) in
    let b' = subst (λ (o : Option ℕ). Breaks (property_type o) rest at f) h.4 (moved (property_type last) rest (length front) at f place b) in
    note_fails_property bytes rest size ps f some h.3 p h.5 (fronts.property_fails_type bytes (16 + size) (last_type None ps) at rest f b' p.behind)

row_end : (bytes front rest : List ℕ) (f : NoteError) → (bytes ≢ []) → bytes ≡ front ++ rest → Front note_end front → Breaks note_end rest (length front) f → note_in bytes ≡ Err f
row_end bytes front rest f some e h (inl c) = absurd (omega (arith, c.0))
row_end bytes front rest f some e h (inr c) =
    let size = h.0 in
    let ps = h.1 in
    let is : front ≡ header size ++ descriptor ps = h.5 in
    let p = placed bytes rest size ps h.2 (e ∙ ap (λ (x : List ℕ). x ++ rest) is) in
    let full : length (descriptor ps) ≡ size = h.4 in
    let place : length front ≡ 16 + size = omega (arith, ap length is, length-append (header size) (descriptor ps)) in
    let read = properties-again ps size bytes (16 + size) None 16 rest h.3.each (Ascends-from ps h.3.ascending) (omega arith) (omega arith) p.stands in
    let long : 16 + size < length bytes = omega (arith, Stands-length bytes 16 (descriptor ps) rest p.stands, more rest c.1.0) in
    fronts.note_fails_end bytes size (words_among ps) some p.head read long ∙ ap (λ (n : ℕ). Err (Size n)) (sym place) ∙ sym (ap (λ (x : NoteError). Err x) c.1.1)
  where
    more : (xs : List ℕ) → (xs ≢ []) → 0 < length xs
    more [] some = absurd (some refl)
    more (x ∷ xs) some = omega arith

-- the first fault by rows is the one that reading finds
pub first_fault-read : (bytes : List ℕ) (f : NoteError) → IsBytes bytes → IsFirstFault bytes f → note_in bytes ≡ Err f
first_fault-read bytes f fits h = go h.1 h.2 h.3 h.4 h.5 h.6
  where
    go : (row : Row) (front rest : List ℕ) → Front row front → bytes ≡ front ++ rest → Breaks row rest (length front) f → note_in bytes ≡ Err f
    go name_size front rest is e b =
        let e' = subst (λ (x : List ℕ). bytes ≡ x ++ rest) is e in
        fronts.note_fails_header bytes f h.0 (fronts.header_fails_size bytes rest f (subst (λ (x : List ℕ). Breaks name_size rest (length x) f) is b) (fronts.Behind-from bytes [] rest e'))
    go descriptor_size front rest is e b =
        let e' = subst (λ (x : List ℕ). bytes ≡ x ++ rest) is e in
        fronts.note_fails_header bytes f h.0 (fronts.header_fails_descriptor bytes rest f (subst (λ (x : List ℕ). Breaks descriptor_size rest (length x) f) is b) (fronts.header_at_size bytes rest e'))
    go note_type front rest is e b =
        let e' = subst (λ (x : List ℕ). bytes ≡ x ++ rest) is.2 e in
        fronts.note_fails_header bytes f h.0 (fronts.header_fails_type bytes rest is.0 f is.1 (subst (λ (x : List ℕ). Breaks note_type rest (length x) f) is.2 b) (fronts.header_at_type bytes rest is.0 is.1 e'))
    go note_name front rest is e b =
        let e' = subst (λ (x : List ℕ). bytes ≡ x ++ rest) is.2 e in
        let at = fronts.header_at_name bytes rest is.0 is.1 e' in
        let rest_fits = subst IsBytes (at.3.is ∙ append-nil rest) (IsBytes-drop 12 bytes fits) in
        fronts.note_fails_header bytes f h.0 (fronts.header_fails_name bytes rest is.0 f rest_fits is.1 (subst (λ (x : List ℕ). Breaks note_name rest (length x) f) is.2 b) at)
    go (property_type last) front rest is e b = row_type bytes front rest last f h.0 e is b
    go (property_size kind left) front rest is e b = row_size bytes front rest kind left f h.0 e is b
    go (content size) front rest is e b = row_content bytes front rest size f h.0 e is b
    go (padding size) front rest is e b = row_padding bytes front rest size f h.0 e is b
    go note_end front rest is e b = row_end bytes front rest f h.0 e is b
