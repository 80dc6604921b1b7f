-- What a system call reads and writes of memory, by what holds it.
use Rattle.std.proofs.Common.{◌≡◌, ℕ, ◌+◌, ◌-◌, ◌%◌, ◌^◌, ◌≤◌, Bool, true, false, ◌&&◌, ◌==◌, nat_lt, nat_le, List, [], ◌∷◌, ◌++◌, take, drop, Option, Some, None, is_some, unwrap_or, refl, sym, ap, ◌∙◌, arith, append-nil, take-append-drop, add-zero, if◌then◌else◌}
use Rattle.std.specs.Prelude.{◌↔◌, IsTrue}
use Rattle.std.specs.Option.{option_and_then}
use Rattle.std.proofs.lemmas.Bool.{and_parts, eqb-true, leb-true}
use Rattle.cet_machine.specs.declared.memory.Kind.{Kind}
use Rattle.cet_machine.specs.declared.memory.Kind.TheVariants.{Code, Read, Write, Shadow}
use Rattle.cet_machine.specs.declared.memory.Region.{Region}
use Rattle.cet_machine.specs.Memory.{is_write, holds, held, region_holding, bytes_from, bytes_at, written, overwritten, with_bytes, stored, store, low_bytes, legal, gap, is_range_of_pages, is_free}
use Rattle.cet_machine.proofs.MemoryReads.{held_parts, held_is, bytes_is, held_where_stored, stored_where_held}

-- ---- where a Write region holds an interval

if_some : {X : Type 0} (b : Bool) (x : X) → is_some (if b then Some x else None) ≡ b
if_some true x = refl
if_some false x = refl

pub writable : (M : List Region) (a n : ℕ) (kind : Kind) → held M a n ≡ Some kind → is_some (bytes_at is_write M a n) ≡ is_write kind
writable M a n kind e =
    let h = held_parts M a n kind e in
    ap is_some (bytes_is is_write M a n (Some h.region) h.holder) ∙ if_some (is_write h.region.kind) (bytes_from h.region a) ∙ ap is_write h.of_kind

unheld_from : (M : List Region) (a n : ℕ) (o : Option Region) → region_holding M a n ≡ o → held M a n ≡ None → is_some (bytes_at is_write M a n) ≡ false
unheld_from M a n None e none = ap is_some (bytes_is is_write M a n None e)
unheld_from M a n (Some r) e none = let there = held_is M a n r e in absurd (cc)

pub unheld : (M : List Region) (a n : ℕ) → held M a n ≡ None → is_some (bytes_at is_write M a n) ≡ false
unheld M a n none = unheld_from M a n (region_holding M a n) refl none

writable_if : (b : Bool) (M : List Region) (a n : ℕ) (o : Option Kind) → (IsTrue b ↔ (held M a n ≡ Some Write)) → held M a n ≡ o → b ≡ is_some (bytes_at is_write M a n)
writable_if true M a n o iff e = sym (writable M a n Write (iff.0 refl))
writable_if false M a n None iff e = sym (unheld M a n e)
writable_if false M a n (Some Code) iff e = sym (writable M a n Code e)
writable_if false M a n (Some Read) iff e = sym (writable M a n Read e)
writable_if false M a n (Some Shadow) iff e = sym (writable M a n Shadow e)
writable_if false M a n (Some Write) iff e = let clash : false ≡ true = iff.1 e in absurd (cc)

pub writable_is : (b : Bool) (M : List Region) (a n : ℕ) → (IsTrue b ↔ (held M a n ≡ Some Write)) → b ≡ is_some (bytes_at is_write M a n)
writable_is b M a n iff = writable_if b M a n (held M a n) iff refl

-- a store of 8 bytes happens exactly there
pub stored_there : (M N : List Region) (a v : ℕ) → store M a 8 v ≡ Some N → is_some (bytes_at is_write M a 8) ≡ true
unfolding low_bytes
stored_there M N a v e =
    let h = held_where_stored is_write M N a (low_bytes 8 v) e in
    writable M a 8 h.0 h.1 ∙ h.2

stored_not_from : (M : List Region) (a v : ℕ) (o : Option Kind) → held M a 8 ≡ o → store M a 8 v ≡ None → is_some (bytes_at is_write M a 8) ≡ false
unfolding low_bytes
stored_not_from M a v None e none = unheld M a 8 e
stored_not_from M a v (Some Code) e none = writable M a 8 Code e
stored_not_from M a v (Some Read) e none = writable M a 8 Read e
stored_not_from M a v (Some Shadow) e none = writable M a 8 Shadow e
stored_not_from M a v (Some Write) e none =
    let s = stored_where_held is_write M a (low_bytes 8 v) Write e refl in
    let stores : store M a 8 v ≡ Some s.0 = s.1 in
    absurd (cc)

pub stored_not : (M : List Region) (a v : ℕ) → store M a 8 v ≡ None → is_some (bytes_at is_write M a 8) ≡ false
stored_not M a v none = stored_not_from M a v (held M a 8) refl none

-- ---- no bytes

overwritten_none : (bytes : List ℕ) (i : ℕ) → overwritten bytes i [] ≡ bytes
overwritten_none bytes i =
    ap (λ (l : List ℕ). l ++ drop (i + 0) bytes) (append-nil (take i bytes))
    ∙ ap (λ (k : ℕ). take i bytes ++ drop k bytes) (add-zero i)
    ∙ take-append-drop i bytes

pub written_none : (a : ℕ) (r : Region) → written a [] r ≡ r
written_none a r = ap (λ (b : List ℕ). record r { bytes = b }) (overwritten_none r.bytes (a - r.start))

either_none : (b : Bool) (r : Region) (M N : List Region) (a : ℕ) → N ≡ M → (if b then written a [] r ∷ M else r ∷ N) ≡ r ∷ M
either_none true r M N a e = ap (λ (q : Region). q ∷ M) (written_none a r)
either_none false r M N a e = ap (λ (K : List Region). r ∷ K) e

with_none : (M : List Region) (a : ℕ) → with_bytes M a [] ≡ M
with_none [] a = refl
with_none (r ∷ M) a = either_none (holds a 0 r) r M (with_bytes M a []) a (with_none M a)

pub nothing_stored : (M : List Region) (a : ℕ) → unwrap_or (stored is_write M a []) M ≡ M
unfolding stored
nothing_stored M a = of_holder (region_holding M a 0)
  where
    allowed_or : (b : Bool) → unwrap_or (if b then Some (with_bytes M a []) else None) M ≡ M
    allowed_or true = with_none M a
    allowed_or false = refl

    of_holder : (o : Option Region) → unwrap_or (option_and_then (λ (r : Region). if is_write r.kind then Some (with_bytes M a []) else None) o) M ≡ M
    of_holder None = refl
    of_holder (Some r) = allowed_or (is_write r.kind)

-- ---- what a system call may map

pub record IsLegal (at len : ℕ) : Type 0 where
  pub ends : at + len ≤ 2 ^ 47
  pub aligned : (at + len) % 8 ≡ 0

pub legal_parts : (M : List Region) (at len : ℕ) → legal M at len ≡ true → IsLegal at len
unfolding legal
legal_parts M at len e =
    let parts = and_parts (is_range_of_pages at len && nat_le (2 ^ 32) at) (is_free M (at - gap) (at + len + gap)) e in
    let pages = and_parts (is_range_of_pages at len) (nat_le (2 ^ 32) at) parts.0 in
    let whole = and_parts ((at % 4096 == 0) && (len % 4096 == 0) && nat_lt 0 len) (nat_le (at + len) (2 ^ 47)) pages.0 in
    let some = and_parts ((at % 4096 == 0) && (len % 4096 == 0)) (nat_lt 0 len) whole.0 in
    let both = and_parts (at % 4096 == 0) (len % 4096 == 0) some.0 in
    let start : at % 4096 ≡ 0 = eqb-true (at % 4096) 0 both.0 in
    let size : len % 4096 ≡ 0 = eqb-true (len % 4096) 0 both.1 in
    record { ends = leb-true (at + len) (2 ^ 47) whole.1; aligned = omega (arith, start, size) }
