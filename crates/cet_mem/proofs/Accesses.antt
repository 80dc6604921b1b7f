-- What the methods of memory answer, over plain values.
use Rattle.std.proofs.Common.{◌≡◌, ℕ, zero, suc, ◌+◌, ◌-◌, ◌/◌, ◌%◌, ◌^◌, ◌<◌, ◌≤◌, Bool, true, false, ◌==◌, ◌||◌, List, [], ◌∷◌, length, take, get_or, Option, Some, None, refl, sym, ap, ◌∙◌, inl, inr, arith, length-drop}
use Rattle.std.specs.List.{find}
use Rattle.std.specs.Int.{w64, byte_at, bytes_low_first, to_le_bytes}
use Rattle.std.specs.Option.{option_map, option_and_then, unwrap_or}
use Rattle.std.proofs.lemmas.Bool.{or_cases, eqb-true, le-leb}
use Rattle.std.proofs.Math.Nat.{pow-suc, div-div-eq-div-mul}
use Rattle.std.proofs.lemmas.Option.{get_or_from_slice_get}
use Rattle.cet_base.specs.Field.{little_endian}
use Rattle.cet_machine.specs.declared.memory.Region.{Region}
use Rattle.cet_machine.specs.declared.memory.Kind.{Kind}
use Rattle.cet_machine.specs.Memory.{holds, held, is_any, is_code, is_write, is_shadow, bytes_from, load, code_at, low_bytes, with_bytes, stored, store, shadow_load, shadow_store, fill}
use Rattle.cet_machine.proofs.MemoryBytes.{length-low_bytes}
use Rattle.cet_machine.proofs.MemoryRegions.{holds_parts, with_bytes_shape, stored_is, stored_none}
use Rattle.cet_machine.proofs.MemoryReads.{loaded_is, loaded_at, loaded_none, bytes_is}
use Rattle.cet_mem.specs.Access.{IsWidth}
use Rattle.cet_mem.specs.Order.{AreInOrder}
use Rattle.cet_mem.specs.Holder.{IsHolder}
use Rattle.cet_mem.proofs.Orders.{same_shape_in_order}

-- ---- what was found

-- r stands at the place of the holder in N
pub record At (M : List Region) (a n : ℕ) (r : Region) : Type 0 where
  pub found : find (holds a n) M ≡ Some r
  pub inside : holds a n r ≡ true

pub at_holder : (L N M : List Region) (a m n i : ℕ) (r : Region) → L ≡ M → N ≡ M → m ≡ n → IsHolder L a m i → r ≡ get_or N i r → At M a n r
at_holder L N M a m n i r of_l of_n width h is =
    let same : h.region ≡ r = sym (get_or_from_slice_get L i h.region r h.there) ∙ ap (λ (l : List Region). get_or l i r) (of_l ∙ sym of_n) ∙ sym is in
    record {
      found = sym (ap (λ (l : List Region). find (holds a n) l) of_l) ∙ ap (λ (k : ℕ). find (holds a k) L) (sym width) ∙ h.found ∙ ap Some same;
      inside = ap (λ (k : ℕ). holds a k r) (sym width) ∙ ap (holds a m) (sym same) ∙ h.holds_it;
    }

pub none_there : (L M : List Region) (a m n : ℕ) → L ≡ M → m ≡ n → find (holds a m) L ≡ None → find (holds a n) M ≡ None
none_there L M a m n of_l width none =
    sym (ap (λ (l : List Region). find (holds a n) l) of_l) ∙ ap (λ (k : ℕ). find (holds a k) L) (sym width) ∙ none

-- ---- loads

pub load_refused : (M : List Region) (a n : ℕ) → find (holds a n) M ≡ None → load M a n ≡ None
load_refused M a n none = loaded_is is_any M a n None none

pub load_done : (M : List Region) (a n : ℕ) (r : Region) → At M a n r → load M a n ≡ Some (little_endian (take n (bytes_from r a)))
load_done M a n r at = loaded_at is_any M a n r at.found refl

-- ---- code

pub code_refused : (M : List Region) (a : ℕ) → find (holds a 1) M ≡ None → code_at M a ≡ []
unfolding code_at
code_refused M a none = ap (λ (o : Option (List ℕ)). unwrap_or o []) (bytes_is is_code M a 1 None none)

pub code_of_other_kind : (M : List Region) (a : ℕ) (r : Region) → At M a 1 r → is_code r.kind ≡ false → code_at M a ≡ []
unfolding code_at
code_of_other_kind M a r at other =
    ap (λ (o : Option (List ℕ)). unwrap_or o []) (bytes_is is_code M a 1 (Some r) at.found)
    ∙ rw other refl

pub code_done : (M : List Region) (a : ℕ) (r : Region) → At M a 1 r → is_code r.kind ≡ true → code_at M a ≡ bytes_from r a
unfolding code_at
code_done M a r at code =
    ap (λ (o : Option (List ℕ)). unwrap_or o []) (bytes_is is_code M a 1 (Some r) at.found)
    ∙ rw code refl

-- ---- what is held

pub held_none : (M : List Region) (a n : ℕ) → find (holds a n) M ≡ None → held M a n ≡ None
unfolding held
held_none M a n none = ap (option_map (λ (q : Region). q.kind)) none

-- an interval's first address is held with it
pub holds_first : (a n : ℕ) (r : Region) → 0 < n → holds a n r ≡ true → holds a 1 r ≡ true
holds_first a n r some inside =
    let parts = holds_parts a n r inside in
    rw (le-leb r.start a parts.0) (le-leb (a + 1) (r.start + length r.bytes) (omega (arith, parts.1, some)))

-- from its first address a region has as many bytes as it holds there
pub enough_bytes : (a n : ℕ) (r : Region) (bytes : List ℕ) → holds a n r ≡ true → bytes ≡ bytes_from r a → n ≤ length bytes
enough_bytes a n r bytes inside is =
    let parts = holds_parts a n r inside in
    let size : length bytes ≡ length r.bytes - (a - r.start) = ap length is ∙ length-drop (a - r.start) r.bytes in
    omega (arith, parts.0, parts.1, size)

-- ---- stores

pub stored_refused : (allowed : Kind → Bool) (M : List Region) (a : ℕ) (new : List ℕ) → find (holds a (length new)) M ≡ None → stored allowed M a new ≡ None
unfolding stored
stored_refused allowed M a new none = ap (option_and_then _) none

-- an access has a byte at least, and 8 at most
pub width_bounds : (n : ℕ) → IsWidth n → (0 < n) × (n ≤ 8)
width_bounds n width = elim (or_cases (n == 1 || n == 4) (n == 8) width) [
  | inl small ↦ elim (or_cases (n == 1) (n == 4) small) [
    | inl one ↦ let e = eqb-true n 1 one in (omega arith, omega arith)
    | inr four ↦ let e = eqb-true n 4 four in (omega arith, omega arith)
  ]
  | inr eight ↦ let e = eqb-true n 8 eight in (omega arith, omega arith)
]

byte_is : (i v : ℕ) → byte_at i v ≡ v / 256 ^ i % 256
byte_is zero v = omega arith
byte_is (suc i) v = refl

-- the bytes of a number from byte i up
low_from : (i k v : ℕ) → bytes_low_first i k v ≡ low_bytes k (v / 256 ^ i)
unfolding low_bytes
low_from i zero v = refl
low_from i (suc k) v =
    let next : v / 256 ^ suc i ≡ v / 256 ^ i / 256 = ap (λ (d : ℕ). v / d) (pow-suc 256 i) ∙ sym (div-div-eq-div-mul v (256 ^ i) 256) in
    let rest : bytes_low_first (suc i) k v ≡ low_bytes k (v / 256 ^ i / 256) = low_from (suc i) k v ∙ ap (low_bytes k) next in
    ap (λ (b : ℕ). b ∷ bytes_low_first (suc i) k v) (byte_is i v) ∙ ap (λ (l : List ℕ). (v / 256 ^ i % 256) ∷ l) rest

first_bytes : (i k n v : ℕ) → n ≤ k → take n (bytes_low_first i k v) ≡ bytes_low_first i n v
first_bytes i k zero v h = refl
first_bytes i zero (suc n) v h = absurd (omega arith)
first_bytes i (suc k) (suc n) v h = ap (λ (r : List ℕ). byte_at i v ∷ r) (first_bytes (suc i) k n v (omega arith))

-- the low bytes of a number, cut from all its bytes
pub low_of_le_bytes : (n v : ℕ) → n ≤ 8 → take n (to_le_bytes w64 v) ≡ low_bytes n v
low_of_le_bytes n v small =
    let whole : v / 256 ^ 0 ≡ v = omega arith in
    first_bytes 0 8 n v small ∙ low_from 0 n v ∙ ap (low_bytes n) whole

-- all its bytes
pub word_bytes : (v : ℕ) → to_le_bytes w64 v ≡ low_bytes 8 v
word_bytes v =
    let whole : v / 256 ^ 0 ≡ v = omega arith in
    low_from 0 8 v ∙ ap (low_bytes 8) whole

-- what is written keeps the order
pub in_order_written : (M : List Region) (a : ℕ) (new : List ℕ) → AreInOrder M → AreInOrder (with_bytes M a new)
in_order_written M a new order = same_shape_in_order M (with_bytes M a new) (with_bytes_shape M a new) order

-- ---- the methods

pub store_refused : (M : List Region) (a n v : ℕ) → find (holds a n) M ≡ None → store M a n v ≡ None
store_refused M a n v none =
    stored_refused is_write M a (low_bytes n v) (ap (λ (k : ℕ). find (holds a k) M) (length-low_bytes n v) ∙ none)

pub store_of_other_kind : (M : List Region) (a n v : ℕ) (r : Region) → At M a n r → is_write r.kind ≡ false → store M a n v ≡ None
store_of_other_kind M a n v r at other =
    stored_none is_write M a (low_bytes n v) r (ap (λ (k : ℕ). find (holds a k) M) (length-low_bytes n v) ∙ at.found) other

pub store_done : (M : List Region) (a n v : ℕ) (r : Region) → At M a n r → is_write r.kind ≡ true → store M a n v ≡ Some (with_bytes M a (low_bytes n v))
store_done M a n v r at may =
    stored_is is_write M a (low_bytes n v) r (ap (λ (k : ℕ). find (holds a k) M) (length-low_bytes n v) ∙ at.found) may

pub shadow_load_refused : (M : List Region) (a : ℕ) → find (holds a 8) M ≡ None → shadow_load M a ≡ None
shadow_load_refused M a none = loaded_is is_shadow M a 8 None none

pub shadow_load_of_other_kind : (M : List Region) (a : ℕ) (r : Region) → At M a 8 r → is_shadow r.kind ≡ false → shadow_load M a ≡ None
shadow_load_of_other_kind M a r at other = loaded_none is_shadow M a 8 r at.found other

pub shadow_load_done : (M : List Region) (a : ℕ) (r : Region) → At M a 8 r → is_shadow r.kind ≡ true → shadow_load M a ≡ Some (little_endian (take 8 (bytes_from r a)))
shadow_load_done M a r at may = loaded_at is_shadow M a 8 r at.found may

pub shadow_store_refused : (M : List Region) (a v : ℕ) → find (holds a 8) M ≡ None → shadow_store M a v ≡ None
shadow_store_refused M a v none =
    stored_refused is_shadow M a (low_bytes 8 v) (ap (λ (k : ℕ). find (holds a k) M) (length-low_bytes 8 v) ∙ none)

pub shadow_store_of_other_kind : (M : List Region) (a v : ℕ) (r : Region) → At M a 8 r → is_shadow r.kind ≡ false → shadow_store M a v ≡ None
shadow_store_of_other_kind M a v r at other =
    stored_none is_shadow M a (low_bytes 8 v) r (ap (λ (k : ℕ). find (holds a k) M) (length-low_bytes 8 v) ∙ at.found) other

pub shadow_store_done : (M : List Region) (a v : ℕ) (r : Region) → At M a 8 r → is_shadow r.kind ≡ true → shadow_store M a v ≡ Some (with_bytes M a (low_bytes 8 v))
shadow_store_done M a v r at may =
    stored_is is_shadow M a (low_bytes 8 v) r (ap (λ (k : ℕ). find (holds a k) M) (length-low_bytes 8 v) ∙ at.found) may

pub fill_refused : (M : List Region) (a : ℕ) (new : List ℕ) → find (holds a (length new)) M ≡ None → fill M a new ≡ None
fill_refused M a new none = stored_refused is_any M a new none

pub fill_done : (M : List Region) (a : ℕ) (new : List ℕ) (r : Region) → find (holds a (length new)) M ≡ Some r → fill M a new ≡ Some (with_bytes M a new)
fill_done M a new r found = stored_is is_any M a new r found refl

-- what was found in L is found in M
pub found_there : (L M : List Region) (a m n i : ℕ) → L ≡ M → m ≡ n → (h : IsHolder L a m i) → find (holds a n) M ≡ Some h.region
found_there L M a m n i of_l width h =
    sym (ap (λ (l : List Region). find (holds a n) l) of_l) ∙ ap (λ (k : ℕ). find (holds a k) L) (sym width) ∙ h.found
