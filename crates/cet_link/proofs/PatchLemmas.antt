-- Relocations and the bytes that they leave.
use Rattle.std.proofs.Common.{◌≡◌, ℕ, ◌+◌, ◌-◌, ◌*◌, ◌<◌, ◌≤◌, Bool, true, false, cond, IsTrue, List, [], ◌∷◌, ◌++◌, length, get_or, take, drop, Option, Some, None, ℤ, refl, sym, ap, ◌∙◌, arith, leb, ltb, eqb, ◌&&◌, ⊎_elim}
use Rattle.std.proofs.lemmas.List.{take_more, get_or_append_left, get_or-append_right, get_or-take, get_or-drop, length-take-le, length-map, get_or-map}
use Rattle.std.proofs.lemmas.List.FromFn.{length-enumerate_from, get_or-enumerate_from}
use Rattle.std.proofs.lemmas.Grind.{same_number_lists}
use Rattle.std.proofs.lemmas.Bool.{cases_lt, cond-true, cond-false, lt-ltb, le-ltb, le-leb, lt-leb, and_left, and_right, and_from, or_cases, ne_eqb, leb-true, false≢true}
use Rattle.byteorder.specs.Endian.{little_bytes}
use Rattle.cet_elf.specs.ObjectRelocations.{field_size, is_field_inside}
use Rattle.std.specs.List.{enumerate_from}
use Rattle.std.specs.Option.{option_or, option_map_or}
use Rattle.cet_elf.specs.declared.object.Object.{Object}
use Rattle.cet_elf.specs.declared.object.Rela.{Rela}
use Rattle.cet_link.specs.Inputs.{Part}
use Rattle.cet_link.specs.Places.{place}
use Rattle.cet_link.specs.Values.{value_at}
use Rattle.cet_link.specs.Patched.{sum_of, relocated, residue, field, covers, last_over, patched_byte, patched}
use Rattle.cet_link.specs.Laid.{patched_by}

pub relocated-is : (inputs : List Object) (note : List ℕ) (p : Part) (r : Rela) (s at : ℕ) → s ≡ value_at inputs note p.input r.symbol → at ≡ place inputs note p.input p.number
    → sum_of r.kind s r.addend (at + r.offset) ≡ relocated inputs note p r
unfolding relocated
relocated-is inputs note p r s at hs ha = ap (λ x. sum_of r.kind x r.addend (at + r.offset)) hs ∙ ap (λ x. sum_of r.kind (value_at inputs note p.input r.symbol) r.addend (x + r.offset)) ha

-- the last relocation over a byte wins
pub last_over-push : (at : ℕ) (rs : List Rela) (r : Rela) → last_over at (rs ++ r ∷ []) ≡ cond (covers at r) (Some r) (last_over at rs)
last_over-push at [] r = elim (covers at r) as (λ b. cond b (Some r) None ≡ cond b (Some r) None) [ true ↦ refl | false ↦ refl ]
last_over-push at (x ∷ rs) r =
    ap (λ o. option_or o (cond (covers at x) (Some x) None)) (last_over-push at rs r) ∙ by (covers at r) where
      by : (b : Bool) → option_or (cond b (Some r) (last_over at rs)) (cond (covers at x) (Some x) None) ≡ cond b (Some r) (option_or (last_over at rs) (cond (covers at x) (Some x) None))
      by true = refl
      by false = refl

-- ---- a write over the middle

pub over-mid : (a n k at : ℕ) (xs ys : List ℕ) → k ≡ n → length ys ≡ n → a + n ≤ length xs
    → get_or (take a xs ++ (ys ++ drop k (drop a xs))) at 0 ≡ cond (leb a at && ltb at (a + n)) (get_or ys (at - a) 0) (get_or xs at 0)
over-mid a n k at xs ys same long room =
    let front : length (take a xs) ≡ a = length-take-le a xs (omega arith) in
    ⊎_elim
    (λ (lt : at < a).
    (get_or_append_left (take a xs) (ys ++ drop k (drop a xs)) 0 at (omega arith) ∙ get_or-take a xs at 0 lt)
    ∙ sym (cond-false (leb a at && ltb at (a + n)) (get_or ys (at - a) 0) (get_or xs at 0) (and_left (leb a at) (ltb at (a + n)) (lt-leb a at lt))))
    (λ (ge : a ≤ at). get_or-append_right (take a xs) (ys ++ drop k (drop a xs)) a at 0 front ge ∙ ⊎_elim
    (λ (lt : at < a + n).
    get_or_append_left ys (drop k (drop a xs)) 0 (at - a) (omega arith)
    ∙ sym (cond-true (leb a at && ltb at (a + n)) (get_or ys (at - a) 0) (get_or xs at 0) (and_from (leb a at) (ltb at (a + n)) (le-leb a at ge) (lt-ltb at (a + n) lt))))
    (λ (far : a + n ≤ at).
    let place : a + (k + (at - a - n)) ≡ at = omega arith in
    get_or-append_right ys (drop k (drop a xs)) n (at - a) 0 long (omega arith) ∙ get_or-drop k (drop a xs) (at - a - n) 0 ∙ get_or-drop a xs (k + (at - a - n)) 0
    ∙ ap (λ m. get_or xs m 0) place
    ∙ sym (cond-false (leb a at && ltb at (a + n)) (get_or ys (at - a) 0) (get_or xs at 0) (and_right (leb a at) (ltb at (a + n)) (le-ltb at (a + n) far))))
    (cases_lt at (a + n)))
    (cases_lt at a)

-- ---- a byte after one relocation more

by-last : (F : Rela → ℕ) (b : Bool) (r : Rela) (o : Option Rela) (byte : ℕ) → option_map_or F (cond b (Some r) o) byte ≡ cond b (F r) (option_map_or F o byte)
by-last F true r o byte = refl
by-last F false r o byte = refl

pub field-is : (inputs : List Object) (note : List ℕ) (p : Part) (r : Rela) (sum : ℤ) → sum ≡ relocated inputs note p r → little_bytes (field_size r.kind) (residue (8 * field_size r.kind) sum) ≡ field inputs note p r
unfolding field
field-is inputs note p r sum h = ap (λ z. little_bytes (field_size r.kind) (residue (8 * field_size r.kind) z)) h

pub patched_by-push : (inputs : List Object) (note : List ℕ) (p : Part) (rs : List Rela) (r : Rela) (at byte : ℕ)
    → patched_by inputs note p (rs ++ r ∷ []) at byte ≡ cond (covers at r) (get_or (field inputs note p r) (at - r.offset) 0) (patched_by inputs note p rs at byte)
patched_by-push inputs note p rs r at byte =
    let F : Rela → ℕ = λ q. get_or (field inputs note p q) (at - q.offset) 0 in
    ap (λ o. option_map_or F o byte) (last_over-push at rs r) ∙ by-last F (covers at r) r (last_over at rs) byte

pub patched_by-more : (inputs : List Object) (note : List ℕ) (p : Part) (rs : List Rela) (i : ℕ) (r : Rela) (at byte : ℕ) → i < length rs
    → patched_by inputs note p (take (i + 1) rs) at byte
    ≡ cond (covers at (get_or rs i r)) (get_or (field inputs note p (get_or rs i r)) (at - (get_or rs i r).offset) 0) (patched_by inputs note p (take i rs) at byte)
patched_by-more inputs note p rs i r at byte lt =
    ap (λ qs. patched_by inputs note p qs at byte) (take_more rs i r lt) ∙ patched_by-push inputs note p (take i rs) (get_or rs i r) at byte

-- the whole section
pub patched-length : (inputs : List Object) (note : List ℕ) (p : Part) → length (patched inputs note p) ≡ length p.section.bytes
unfolding patched
patched-length inputs note p = length-map (enumerate_from 0 p.section.bytes) (λ i. patched_byte inputs note p i.0 i.1) ∙ length-enumerate_from 0 p.section.bytes

patched-at : (inputs : List Object) (note : List ℕ) (p : Part) (k : ℕ) → k < length p.section.bytes
    → get_or (patched inputs note p) k 0 ≡ patched_by inputs note p p.section.relocations k (get_or p.section.bytes k 0)
unfolding patched patched_byte
patched-at inputs note p k lt =
    let here : 0 + k ≡ k = omega arith in
    get_or-map (λ i. patched_byte inputs note p i.0 i.1) (enumerate_from 0 p.section.bytes) k (0, 0) 0 (omega (arith, length-enumerate_from 0 p.section.bytes))
    ∙ ap (λ i. patched_byte inputs note p i.0 i.1) (get_or-enumerate_from 0 p.section.bytes k (0, 0) lt)
    ∙ ap (λ m. patched_byte inputs note p m (get_or p.section.bytes k 0)) here

pub patched-all : (inputs : List Object) (note : List ℕ) (p : Part) (bytes : List ℕ) → length bytes ≡ length p.section.bytes
    → ((at : ℕ) → get_or bytes at 0 ≡ patched_by inputs note p p.section.relocations at (get_or p.section.bytes at 0)) → bytes ≡ patched inputs note p
patched-all inputs note p bytes long h =
    same_number_lists bytes (patched inputs note p) (long ∙ sym (patched-length inputs note p)) (λ k lt. h k ∙ sym (patched-at inputs note p k (omega arith)))

-- a field that is there lies in the bytes
pub field-room : (kind offset size : ℕ) → (kind ≡ 0 → ⊥) → IsTrue (is_field_inside kind offset size) → offset + field_size kind ≤ size
field-room kind offset size ne h =
    ⊎_elim (λ (zero_kind : eqb kind 0 ≡ true). absurd (false≢true (sym (ne_eqb kind 0 ne) ∙ zero_kind))) (λ (inside : leb (offset + field_size kind) size ≡ true). leb-true (offset + field_size kind) size inside)
    (or_cases (eqb kind 0) (leb (offset + field_size kind) size) h)
