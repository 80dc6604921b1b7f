-- A note that is read is the note that the bytes stand for, and the other way round.
use Rattle.std.proofs.Common.{◌≡◌, ℕ, ◌+◌, ◌%◌, ◌<◌, ◌≤◌, ◌^◌, true, leb, eqb, List, [], ◌∷◌, ◌++◌, length, drop, map, Some, None, Result, Ok, Err, All, refl, sym, ap, subst, ◌∙◌, inl, inr, arith}
use Rattle.std.specs.Prelude.{IfOk}
use Rattle.std.specs.List.Sorted.{IsStrictlyIncreasing}
use Rattle.std.proofs.lemmas.Bool.{leb-true, le-leb, eqb-true}
use Rattle.std.proofs.lemmas.List.{append-nil, length-append, drop_all}
use Rattle.std.proofs.lemmas.List.Elements.{All-head, All-tail}
use Rattle.cet_note.specs.declared.fault.NoteError.{NoteError}
use Rattle.cet_note.specs.declared.fault.NoteError.TheVariants.{Name, Kind, Size}
use Rattle.cet_note.specs.Note.{Note}
use Rattle.cet_note.specs.Form.{word_bytes, Stored, stored_bytes, descriptor, note_bytes, IsStored, words_among, IsForm}
use Rattle.cet_note.specs.Fault.{◌>>=◌, demand, word_at, header_in, properties_in, note_in, Gives}
use Rattle.cet_note.proofs.Steps.{bind_ok, done, demand_ok, ok_is}
use Rattle.cet_note.proofs.Types.{rises_tail, rises_more, rises_one, rises_none}
use Rattle.cet_note.proofs.Fields.{IsBytes, Stands, Stands-length, Stands-split, word_at-Stands, Stands-word_at}
use Rattle.cet_note.proofs.Descriptors.{length-stored_bytes, Ascends, properties-again, TookAll, properties-take}

-- ---- the header

-- the four words of a header
abbrev pub four_words : ℕ → List ℕ → List ℕ
four_words size rest = word_bytes 4 ++ (word_bytes size ++ (word_bytes 5 ++ (word_bytes 0x00554e47 ++ rest)))

pub header-again : (bytes : List ℕ) (size : ℕ) (rest : List ℕ) → size < 2 ^ 32 → size % 8 ≡ 0 → bytes ≡ four_words size rest → (header_in bytes ≡ Ok size) × Stands bytes 16 rest []
unfolding header_in
header-again bytes size rest fits whole is =
    let a : Stands bytes 0 (word_bytes 4) (word_bytes size ++ (word_bytes 5 ++ (word_bytes 0x00554e47 ++ rest))) = record { place = omega arith; is = is } in
    let b = Stands-split bytes 0 (word_bytes 4) (word_bytes size) (word_bytes 5 ++ (word_bytes 0x00554e47 ++ rest)) 4 refl a in
    let c = Stands-split bytes 4 (word_bytes size) (word_bytes 5) (word_bytes 0x00554e47 ++ rest) 4 refl b in
    let d = Stands-split bytes 8 (word_bytes 5) (word_bytes 0x00554e47) rest 4 refl c in
    let d' : Stands bytes 12 (word_bytes 0x00554e47) (rest ++ []) = record { place = d.place; is = d.is ∙ ap (λ (r : List ℕ). word_bytes 0x00554e47 ++ r) (sym (append-nil rest)) } in
    let e = Stands-split bytes 12 (word_bytes 0x00554e47) rest [] 4 refl d' in
    let name_size = word_at-Stands bytes 0 4 _ (omega arith) a in
    let size_is = word_at-Stands bytes 4 size _ fits b in
    let kind = word_at-Stands bytes 8 5 _ (omega arith) c in
    let name = word_at-Stands bytes 12 0x00554e47 _ (omega arith) d in
    (rw (name_size, size_is, whole, kind, name) refl, e)

pub record TookHeader (bytes : List ℕ) (size : ℕ) : Type 0 where
  pub fits : size < 2 ^ 32
  pub whole : size % 8 ≡ 0
  pub place : 16 ≤ length bytes
  pub is : bytes ≡ four_words size (drop 16 bytes)

pub header-takes : (bytes : List ℕ) (size : ℕ) → IsBytes bytes → header_in bytes ≡ Ok size → TookHeader bytes size
unfolding header_in
header-takes bytes size fits h =
    let k6 = λ (size name : ℕ). demand (eqb name 0x00554e47) (Name 12) >>= λ u. done size in
    let k5 = λ (size : ℕ) (u : Unit {0}). word_at bytes 12 >>= k6 size in
    let k4 = λ (size kind : ℕ). demand (eqb kind 5) (Kind 8) >>= k5 size in
    let k3 = λ (size : ℕ) (u : Unit {0}). word_at bytes 8 >>= k4 size in
    let k2 = λ (size : ℕ). demand (eqb (size % 8) 0) (Size 4) >>= k3 size in
    let k1 = λ (u : Unit {0}). word_at bytes 4 >>= k2 in
    let k0 = λ (n : ℕ). demand (eqb n 4) (Name 0) >>= k1 in
    let a = bind_ok (word_at bytes 0) k0 size h in
    let b = bind_ok (demand (eqb a.0 4) (Name 0)) k1 size a.2 in
    let c = bind_ok (word_at bytes 4) k2 size b.2 in
    let d = bind_ok (demand (eqb (c.0 % 8) 0) (Size 4)) (k3 c.0) size c.2 in
    let e = bind_ok (word_at bytes 8) (k4 c.0) size d.2 in
    let f = bind_ok (demand (eqb e.0 5) (Kind 8)) (k5 c.0) size e.2 in
    let g = bind_ok (word_at bytes 12) (k6 c.0) size f.2 in
    let i = bind_ok (demand (eqb g.0 0x00554e47) (Name 12)) (λ u. done c.0) size g.2 in
    let four : a.0 ≡ 4 = eqb-true _ _ (demand_ok _ _ b.0 b.1) in
    let whole : c.0 % 8 ≡ 0 = eqb-true _ _ (demand_ok _ _ d.0 d.1) in
    let five : e.0 ≡ 5 = eqb-true _ _ (demand_ok _ _ f.0 f.1) in
    let gnu : g.0 ≡ 0x00554e47 = eqb-true _ _ (demand_ok _ _ i.0 i.1) in
    let w0 = Stands-word_at bytes 0 4 fits (a.1 ∙ ap done four) in
    let w1 = Stands-word_at bytes 4 c.0 fits c.1 in
    let w2 = Stands-word_at bytes 8 5 fits (e.1 ∙ ap done five) in
    let w3 = Stands-word_at bytes 12 0x00554e47 fits (g.1 ∙ ap done gnu) in
    let is : bytes ≡ four_words c.0 (drop 16 bytes) =
    w0.0.is ∙ ap (λ (r : List ℕ). word_bytes 4 ++ r) (w1.0.is ∙ ap (λ (r : List ℕ). word_bytes c.0 ++ r) (w2.0.is ∙ ap (λ (r : List ℕ). word_bytes 5 ++ r) w3.0.is)) in
    let place : 16 ≤ length bytes = omega (arith, Stands-length bytes 12 (word_bytes 0x00554e47) (drop 16 bytes) w3.0) in
    subst (TookHeader bytes) (ok_is c.0 size i.2) (record { fits = w1.1; whole = whole; place = place; is = is })

-- ---- the types ascend

Ascends-from_increasing : (s : Stored) (ps : List Stored) → IsStrictlyIncreasing (map (λ s. s.kind) (s ∷ ps)) → Ascends (Some s.kind) ps
Ascends-from_increasing s [] h = tt
Ascends-from_increasing s (t ∷ ps) h = (h 0 (omega arith), Ascends-from_increasing t ps (rises_tail s.kind (map (λ s. s.kind) (t ∷ ps)) h))

pub Ascends-from : (ps : List Stored) → IsStrictlyIncreasing (map (λ s. s.kind) ps) → Ascends None ps
Ascends-from [] h = tt
Ascends-from (s ∷ ps) h = (tt, Ascends-from_increasing s ps h)

increasing_more : (s : Stored) (ps : List Stored) → Ascends (Some s.kind) ps → IsStrictlyIncreasing (map (λ s. s.kind) (s ∷ ps))
increasing_more s [] h = rises_one s.kind
increasing_more s (t ∷ ps) h = rises_more s.kind t.kind (map (λ s. s.kind) ps) h.0 (increasing_more t ps h.1)

pub IsStrictlyIncreasing-from : (ps : List Stored) → Ascends None ps → IsStrictlyIncreasing (map (λ s. s.kind) ps)
IsStrictlyIncreasing-from [] h = rises_none
IsStrictlyIncreasing-from (s ∷ ps) h = increasing_more s ps h.1

-- a descriptor is a multiple of 8 bytes long
pub descriptor-whole : (ps : List Stored) → All IsStored ps → length (descriptor ps) % 8 ≡ 0
descriptor-whole [] each = refl
descriptor-whole (s ∷ ps) each =
    let is = All-head IsStored s ps each in
    let rest = descriptor-whole ps (All-tail IsStored s ps each) in
    omega (arith, rest, length-append (stored_bytes s) (descriptor ps), length-stored_bytes s, is.is_padded)

-- ---- the note

note_in-parts : (bytes : List ℕ) (size : ℕ) (note : Note) → 0 < length bytes → header_in bytes ≡ Ok size → properties_in size bytes (16 + size) None 16 ≡ Ok note → leb (length bytes) (16 + size) ≡ true → note_in bytes ≡ Ok note
unfolding note_in
note_in-parts [] size note some h p ends = absurd (omega arith)
note_in-parts (b ∷ bytes) size note some h p ends = rw (h, p, ends) refl

-- bytes that stand for a note are read as that note
pub note-again : (bytes : List ℕ) (note : Note) → IsForm bytes note → note_in bytes ≡ Ok note
unfolding note_in
note-again bytes note (inl h) = rw (h.0, h.1) refl
note-again bytes note (inr h) =
    let ps = h.0 in
    let d = h.1 in
    let body = descriptor ps in
    let size = length body in
    let t = header-again bytes size body d.size_fits (descriptor-whole ps d.each) h.2 in
    let len : 16 + size ≡ length bytes = omega (arith, Stands-length bytes 16 body [] t.1) in
    let p = properties-again ps size bytes (16 + size) None 16 [] d.each (Ascends-from ps d.ascending) refl (omega arith) t.1 in
    rw h.3 (note_in-parts bytes size (words_among ps) (omega arith) t.0 p (le-leb _ _ (omega arith)))

took_note : (bytes : List ℕ) (size : ℕ) (note : Note) → TookHeader bytes size → TookAll bytes (16 + size) None 16 note → length bytes ≤ 16 + size → IsForm bytes note
took_note bytes size note t all ends =
    let len : length (descriptor all.ps) ≡ size = omega (arith, all.ends) in
    let none : drop (16 + size) bytes ≡ [] = drop_all (16 + size) bytes ends in
    let body : drop 16 bytes ≡ descriptor all.ps = all.stands.is ∙ ap (λ (r : List ℕ). descriptor all.ps ++ r) none ∙ append-nil (descriptor all.ps) in
    let is : bytes ≡ note_bytes all.ps = t.is ∙ ap (four_words size) body ∙ ap (λ (n : ℕ). four_words n (descriptor all.ps)) (sym len) in
    inr (all.ps, record { each = all.each; ascending = IsStrictlyIncreasing-from all.ps all.ascends; size_fits = rw len t.fits }, is, all.words)

-- a note that is read is what the bytes stand for
pub note-takes : (bytes : List ℕ) (note : Note) → IsBytes bytes → note_in bytes ≡ Ok note → IsForm bytes note
unfolding note_in
note-takes [] note fits h = inl (refl, sym (ok_is _ _ h))
note-takes (b ∷ rest) note fits h =
    let bytes = b ∷ rest in
    let k2 = λ (size : ℕ) (note : Note). demand (leb (length bytes) (16 + size)) (Size (16 + size)) >>= λ u. done note in
    let k1 = λ (size : ℕ). properties_in size bytes (16 + size) None 16 >>= k2 size in
    let a = bind_ok (header_in bytes) k1 note h in
    let c = bind_ok (properties_in a.0 bytes (16 + a.0) None 16) (k2 a.0) note a.2 in
    let d = bind_ok (demand (leb (length bytes) (16 + a.0)) (Size (16 + a.0))) (λ u. done c.0) note c.2 in
    let t = header-takes bytes a.0 fits a.1 in
    let all = properties-take a.0 bytes (16 + a.0) None 16 c.0 fits (omega arith) (omega arith) t.place c.1 in
    let ends : length bytes ≤ 16 + a.0 = leb-true _ _ (demand_ok _ _ d.0 d.1) in
    subst (IsForm bytes) (ok_is c.0 note d.2) (took_note bytes a.0 c.0 t all ends)

-- what was read by a call
pub found : (bytes : List ℕ) (r : Result Note NoteError) → IsBytes bytes → Gives (λ n. n) r (note_in bytes) → IfOk r (IsForm bytes)
found bytes (Ok note) fits h = note-takes bytes note fits h
found bytes (Err e) fits h = tt
