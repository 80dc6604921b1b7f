-- What the steps of a reading that found no fault say.
use Rattle.std.proofs.Common.{◌≡◌, ℕ, ◌+◌, ◌≤◌, Bool, true, false, eqb, ltb, leb, not, ◌&&◌, ◌||◌, List, Option, Some, None, Result, Ok, Err, refl, sym, subst, ◌∙◌, arith}
use Rattle.std.specs.Prelude.{if◌then◌else◌}
use Rattle.std.proofs.lemmas.Bool.{ltb-true, leb-true, le-leb, eqb-true}
use Rattle.cet_base.specs.Field.{field}
use Rattle.cet_note.specs.declared.fault.NoteError.{NoteError}
use Rattle.cet_note.specs.declared.fault.NoteError.TheVariants.{Size, Order, Twice}
use Rattle.cet_note.specs.Note.{is_word_type}
use Rattle.cet_note.specs.Form.{padding_of}
use Rattle.cet_note.specs.Fault.{◌>>=◌, demand, word_at, bytes_at, above, size_fits, Entry, property_in, next_at}
pub use Rattle.cet_note.specs.FirstFault.{Below}

-- the value of a step that found no fault
pub bind_ok : {A B : Type 0} (r : Result A NoteError) (f : A → Result B NoteError) (y : B) → (r >>= f) ≡ Ok y → (x : A) × (r ≡ Ok x) × (f x ≡ Ok y)
bind_ok (Ok x) f y e = (x, refl, e)
bind_ok (Err d) f y e = absurd cc

-- a rule that was demanded holds
pub demand_ok : (b : Bool) (d : NoteError) (x : Unit {0}) → demand b d ≡ Ok x → b ≡ true
demand_ok true d x e = refl
demand_ok false d x e = absurd cc

-- what is known of a property that was read
pub record IsRead (bytes : List ℕ) (end : ℕ) (last : Option ℕ) (at : ℕ) (e : Entry) : Type 0 where
  pub kind_at : word_at bytes at ≡ Ok e.kind
  pub is_above : above last e.kind at ≡ Ok tt
  pub size_at : word_at bytes (at + 4) ≡ Ok e.size
  pub fits : size_fits end e.kind e.size (at + 4) ≡ true
  pub content : List ℕ
  pub content_at : bytes_at bytes (at + 8) e.size ≡ Ok content
  pub padding : List ℕ
  pub padding_at : bytes_at bytes (at + 8 + e.size) (padding_of e.size) ≡ Ok padding
  pub word_is : e.word ≡ (if is_word_type e.kind then field 4 content 0 else None)

abbrev pub done : {A : Type 0} → A → Result A NoteError
done x = Ok x

pub ok_is : {A : Type 0} (x y : A) → done x ≡ done y → x ≡ y
ok_is x y e = cc

pub IsRead-from_ok : (bytes : List ℕ) (end : ℕ) (last : Option ℕ) (at : ℕ) (e : Entry) → property_in bytes end last at ≡ Ok e → IsRead bytes end last at e
unfolding property_in
IsRead-from_ok bytes end last at e h =
    let made = λ (kind size : ℕ) (content : List ℕ). let r : Entry = record { kind = kind; size = size; word = if is_word_type kind then field 4 content 0 else None } in r in
    let k5 = λ (kind size : ℕ) (content padding : List ℕ). done (made kind size content) in
    let k4 = λ (kind size : ℕ) (content : List ℕ). bytes_at bytes (at + 8 + size) (padding_of size) >>= k5 kind size content in
    let k3 = λ (kind size : ℕ) (u : Unit {0}). bytes_at bytes (at + 8) size >>= k4 kind size in
    let k2 = λ (kind : ℕ) (size : ℕ). demand (size_fits end kind size (at + 4)) (Size (at + 4)) >>= k3 kind size in
    let k1 = λ (kind : ℕ) (u : Unit {0}). word_at bytes (at + 4) >>= k2 kind in
    let k0 = λ (kind : ℕ). above last kind at >>= k1 kind in
    let a = bind_ok (word_at bytes at) k0 e h in
    let b = bind_ok (above last a.0 at) (k1 a.0) e a.2 in
    let c = bind_ok (word_at bytes (at + 4)) (k2 a.0) e b.2 in
    let d = bind_ok (demand (size_fits end a.0 c.0 (at + 4)) (Size (at + 4))) (k3 a.0 c.0) e c.2 in
    let f = bind_ok (bytes_at bytes (at + 8) c.0) (k4 a.0 c.0) e d.2 in
    let g = bind_ok (bytes_at bytes (at + 8 + c.0) (padding_of c.0)) (k5 a.0 c.0 f.0) e f.2 in
    let is : made a.0 c.0 f.0 ≡ e = ok_is _ _ g.2 in
    subst (IsRead bytes end last at) is (record {
      kind_at = a.1;
      is_above = b.1;
      size_at = c.1;
      fits = demand_ok _ _ d.0 d.1;
      content = f.0;
      content_at = f.1;
      padding = g.0;
      padding_at = g.1;
      word_is = refl;
    })

abbrev pub kept : Result (Unit {0}) NoteError
kept = Ok tt

chosen : (a b : Bool) (f g : NoteError) → (if a then kept else if b then Err f else Err g) ≡ kept → a ≡ true
chosen true b f g e = refl
chosen false true f g e = absurd cc
chosen false false f g e = absurd cc

pub Below-above : (last : Option ℕ) (kind at : ℕ) → above last kind at ≡ Ok tt → Below last kind
Below-above None kind at e = tt
Below-above (Some last) kind at e =
    ltb-true last kind (chosen (ltb last kind) (eqb last kind) (Twice at) (Order at) e)

and_left : (a b : Bool) → a && b ≡ true → a ≡ true
and_left true b e = refl
and_left false b e = absurd cc

and_right : (a b : Bool) → a && b ≡ true → b ≡ true
and_right true b e = e
and_right false b e = absurd cc

-- a property ends within the descriptor
pub within_end : (end kind size at : ℕ) → size_fits end kind size (at + 4) ≡ true → next_at at size ≤ end
within_end end kind size at e =
    let h = leb-true (at + 4 + 4 + size + padding_of size) end (and_left _ _ e) in
    omega arith

typed : (b : Bool) (o : Option ℕ) (bits : ℕ) → (if b then o else None) ≡ Some bits → b ≡ true
typed true o bits e = refl
typed false o bits e = absurd cc

-- a word is read for the types of the three ranges alone
pub word_is_typed : (bytes : List ℕ) (end : ℕ) (last : Option ℕ) (at : ℕ) (e : Entry) (bits : ℕ) → IsRead bytes end last at e → e.word ≡ Some bits → is_word_type e.kind ≡ true
word_is_typed bytes end last at e bits h is =
    typed (is_word_type e.kind) (field 4 h.content 0) bits (sym h.word_is ∙ is)

-- the sizes that fit
pub fitting : (end kind size at : ℕ) → at + 4 + size + padding_of size ≤ end → (is_word_type kind ≡ true → size ≡ 4) → size_fits end kind size at ≡ true
fitting end kind size at within word =
    rw (le-leb (at + 4 + size + padding_of size) end within) (go (is_word_type kind) word)
  where
    go : (b : Bool) → (b ≡ true → size ≡ 4) → not b || eqb size 4 ≡ true
    go false h = refl
    go true h = rw (h refl) refl

four : (b : Bool) (size : ℕ) → not b || eqb size 4 ≡ true → b ≡ true → size ≡ 4
four true size e h = eqb-true size 4 e
four false size e h = absurd cc

pub word_has_four : (end kind size at : ℕ) → size_fits end kind size at ≡ true → is_word_type kind ≡ true → size ≡ 4
word_has_four end kind size at e =
    four (is_word_type kind) size (and_right (leb (at + 4 + size + padding_of size) end) (not (is_word_type kind) || eqb size 4) e)
