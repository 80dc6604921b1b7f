-- A field that is read is the field that stands there, and the other way round. A place in the bytes is known by what
-- stands from there on.
use Rattle.std.proofs.Common.{◌≡◌, ℕ, ◌+◌, ◌<◌, ◌≤◌, ◌^◌, Bool, true, false, cond, leb, List, [], ◌∷◌, ◌++◌, length, get_or, take, drop, Ok, Err, refl, sym, ap, subst, ◌∙◌, inl, inr, arith}
use Rattle.std.specs.Int.{w32, from_le_bytes}
use Rattle.std.proofs.lemmas.Bool.{cases_lt, leb-true, le-leb}
use Rattle.std.proofs.lemmas.List.{take_at, drop_at, take-append-drop, length-append, length-take, length-drop, get_or-drop, get_or-take, get_or_past, drop-drop}
use Rattle.std.proofs.lemmas.Nat.{le_bytes_4, from_le_bytes-to_le_bytes_4}
use Rattle.cet_base.specs.Field.{little_endian}
use Rattle.cet_note.specs.declared.fault.NoteError.{NoteError}
use Rattle.cet_note.specs.declared.fault.NoteError.TheVariants.{Cut}
use Rattle.cet_note.specs.Form.{word_bytes}
use Rattle.cet_note.specs.Fault.{word_at, bytes_at}

abbrev pub IsBytes : List ℕ → Type 0
IsBytes bytes = (i : ℕ) → get_or bytes i 0 < 256

pub IsBytes-drop : (n : ℕ) (bytes : List ℕ) → IsBytes bytes → IsBytes (drop n bytes)
IsBytes-drop n bytes h i = rw get_or-drop (h (n + i))

pub IsBytes-take : (n : ℕ) (bytes : List ℕ) → IsBytes bytes → IsBytes (take n bytes)
IsBytes-take n bytes h i =
    elim (cases_lt i n) [
      | inl lt ↦ rw (get_or-take n bytes i 0 lt) (h i)
      | inr le ↦ rw (get_or_past (take n bytes) i 0 (omega (arith, length-take n bytes))) (omega arith)
    ]

-- the number of a word's bytes
pub little_endian-word_bytes : (n : ℕ) → n < 2 ^ 32 → little_endian (word_bytes n) ≡ n
little_endian-word_bytes n lt = omega (arith, from_le_bytes-to_le_bytes_4 n lt)

same_number : (a b c d : ℕ) → little_endian (a ∷ b ∷ c ∷ d ∷ []) ≡ from_le_bytes w32 (a ∷ b ∷ c ∷ d ∷ [])
same_number a b c d = omega arith

-- four bytes are the bytes of their number
pub word_bytes-little_endian : (bytes : List ℕ) → length bytes ≡ 4 → IsBytes bytes → (word_bytes (little_endian bytes) ≡ bytes) × (little_endian bytes < 2 ^ 32)
word_bytes-little_endian (a ∷ b ∷ c ∷ d ∷ []) len fits =
    let bytes = a ∷ b ∷ c ∷ d ∷ [] in
    (le_bytes_4 bytes (little_endian bytes) refl fits (same_number a b c d), omega (arith, fits 0, fits 1, fits 2, fits 3))
word_bytes-little_endian (a ∷ b ∷ c ∷ d ∷ e ∷ bytes) len fits = absurd (omega arith)
word_bytes-little_endian (a ∷ b ∷ c ∷ []) len fits = absurd (omega arith)
word_bytes-little_endian (a ∷ b ∷ []) len fits = absurd (omega arith)
word_bytes-little_endian (a ∷ []) len fits = absurd (omega arith)
word_bytes-little_endian [] len fits = absurd (omega arith)

-- from the place `at` on stands `part`, and then `rest`
pub record Stands (bytes : List ℕ) (at : ℕ) (part rest : List ℕ) : Type 0 where
  pub place : at ≤ length bytes
  pub is : drop at bytes ≡ part ++ rest

-- what is known behind the part
pub Stands-length : (bytes : List ℕ) (at : ℕ) (part rest : List ℕ) → Stands bytes at part rest → at + length part + length rest ≡ length bytes
Stands-length bytes at part rest h =
    omega (arith, h.place, length-drop at bytes, ap length h.is, length-append part rest)

pub drop-Stands : (bytes : List ℕ) (at : ℕ) (part rest : List ℕ) (size : ℕ) → Stands bytes at part rest → length part ≡ size → drop (at + size) bytes ≡ rest
drop-Stands bytes at part rest size h len = sym (drop-drop size at bytes) ∙ ap (drop size) h.is ∙ drop_at part rest size len

-- a field that stands there is read
pub word_at-Stands : (bytes : List ℕ) (at n : ℕ) (rest : List ℕ) → n < 2 ^ 32 → Stands bytes at (word_bytes n) rest → word_at bytes at ≡ Ok n
word_at-Stands bytes at n rest lt h =
    let within : leb (at + 4) (length bytes) ≡ true = le-leb _ _ (omega (arith, Stands-length bytes at (word_bytes n) rest h)) in
    rw (within, h.is) (ap (λ (m : ℕ). Ok m) (little_endian-word_bytes n lt))

pub bytes_at-Stands : (bytes : List ℕ) (at : ℕ) (part rest : List ℕ) → Stands bytes at part rest → bytes_at bytes at (length part) ≡ Ok part
bytes_at-Stands bytes at part rest h =
    let within : leb (at + length part) (length bytes) ≡ true = le-leb _ _ (omega (arith, Stands-length bytes at part rest h)) in
    rw (within, h.is, take_at part rest (length part) refl) refl

-- a part that stands there, as two
pub Stands-split : (bytes : List ℕ) (at : ℕ) (one two rest : List ℕ) (size : ℕ) → length one ≡ size → Stands bytes at one (two ++ rest) → Stands bytes (at + size) two rest
Stands-split bytes at one two rest size len h = record {
  place = omega (arith, Stands-length bytes at one (two ++ rest) h);
  is = drop-Stands bytes at one (two ++ rest) size h len;
}

-- a field that was read stands there
taken : {A : Type 0} (b : Bool) (d : NoteError) (x y : A) → cond b (Ok x) (Err d) ≡ Ok y → (b ≡ true) × (x ≡ y)
taken true d x y e = (refl, cc)
taken false d x y e = absurd cc

pub Stands-bytes_at : (bytes : List ℕ) (at size : ℕ) (part : List ℕ) → bytes_at bytes at size ≡ Ok part → Stands bytes at part (drop (at + size) bytes) × (length part ≡ size)
Stands-bytes_at bytes at size part e =
    let t = taken (leb (at + size) (length bytes)) (Cut at) (take size (drop at bytes)) part e in
    let within : at + size ≤ length bytes = leb-true _ _ t.0 in
    let len : length (take size (drop at bytes)) ≡ size = omega (arith, length-take size (drop at bytes), length-drop at bytes) in
    let is : drop at bytes ≡ take size (drop at bytes) ++ drop (at + size) bytes = sym (take-append-drop size (drop at bytes)) ∙ ap (λ (r : List ℕ). take size (drop at bytes) ++ r) (drop-drop size at bytes) in
    subst (λ (p : List ℕ). Stands bytes at p (drop (at + size) bytes) × (length p ≡ size)) t.1 (record { place = omega arith; is = is }, len)

pub Stands-word_at : (bytes : List ℕ) (at n : ℕ) → IsBytes bytes → word_at bytes at ≡ Ok n → Stands bytes at (word_bytes n) (drop (at + 4) bytes) × (n < 2 ^ 32)
Stands-word_at bytes at n fits e =
    let t = taken (leb (at + 4) (length bytes)) (Cut at) (little_endian (take 4 (drop at bytes))) n e in
    let b = Stands-bytes_at bytes at 4 (take 4 (drop at bytes)) (rw t.0 refl) in
    let part = take 4 (drop at bytes) in
    let w = word_bytes-little_endian part b.1 (IsBytes-take 4 (drop at bytes) (IsBytes-drop at bytes fits)) in
    subst (λ (m : ℕ). Stands bytes at (word_bytes m) (drop (at + 4) bytes) × (m < 2 ^ 32)) t.1 (rw w.0 b.0, w.1)
