-- Memory: a list of regions that do not meet, each with its addresses, its kind and one byte for each address. An access is
-- answered by the one region that holds the whole of it. Every end of an interval is an exact sum, so no access wraps.
-- Bytes of a number stand lowest first (SDM volume 1, 1.3.1).
use Rattle.std.specs.Prelude.{ℕ, zero, suc, ◌+◌, ◌-◌, ◌/◌, ◌%◌, ◌^◌, nat_lt, nat_le, ◌==◌, min, max, Bool, true, false, not, ◌&&◌, if◌then◌else◌, List, [], ◌∷◌, ◌++◌, length, take, drop, replicate, Option, Some, None}
use Rattle.std.specs.List.{find, insert, list_any, count_by}
use Rattle.std.specs.Option.{option_map, option_and_then, unwrap_or}
use Rattle.cet_base.specs.declared.spans.Span.{Span}
use Rattle.cet_base.specs.Span.{Meets}
use Rattle.cet_base.specs.Field.{little_endian}
use Rattle.cet_machine.specs.declared.memory.Region.{Region}
use Rattle.cet_machine.specs.declared.memory.Kind.{Kind}
use Rattle.cet_machine.specs.declared.memory.Kind.TheVariants.{Code, Read, Write, Shadow}

-- ---- regions

-- the addresses of a region: from its start on, one for each byte
abbrev pub span : Region → Span
span r = record { start = r.start; len = length r.bytes }

-- the n addresses from a on all lie in r
abbrev pub holds : ℕ → ℕ → Region → Bool
holds a n r = nat_le r.start a && nat_le (a + n) (r.start + length r.bytes)

-- the region that answers an access of n bytes at a. At most one holds them where regions do not meet and n is not 0.
abbrev pub region_holding : List Region → ℕ → ℕ → Option Region
region_holding M a n = find (holds a n) M

-- the bytes of r from address a on, to its end
abbrev pub bytes_from : Region → ℕ → List ℕ
bytes_from r a = drop (a - r.start) r.bytes

-- the kind of the region that holds the n bytes from a; none where no one region holds them
unfoldable pub held : List Region → ℕ → ℕ → Option Kind
held M a n = option_map (λ r. r.kind) (region_holding M a n)

-- no address lies in r and in a region of M
abbrev pub MeetsNone : Region → List Region → Type 0
MeetsNone r [] = Unit {0}
MeetsNone r (q ∷ M) = (¬ Meets (span r) (span q)) × MeetsNone r M

-- no address lies in two regions
abbrev pub AreDisjoint : List Region → Type 0
AreDisjoint [] = Unit {0}
AreDisjoint (r ∷ M) = MeetsNone r M × AreDisjoint M

-- ---- kinds

-- bytes are loaded from every kind of region
abbrev pub is_any : Kind → Bool
is_any kind = true

-- instructions are fetched from Code
abbrev pub is_code : Kind → Bool
is_code Code = true
is_code Read = false
is_code Write = false
is_code Shadow = false

-- data is stored to Write
abbrev pub is_write : Kind → Bool
is_write Code = false
is_write Read = false
is_write Write = true
is_write Shadow = false

-- the shadow stack's own loads and stores go to Shadow
abbrev pub is_shadow : Kind → Bool
is_shadow Code = false
is_shadow Read = false
is_shadow Write = false
is_shadow Shadow = true

-- ---- what is read

-- the bytes of r from a on, where its kind is allowed
abbrev pub allowed_from : (Kind → Bool) → ℕ → Region → Option (List ℕ)
allowed_from allowed a r = if allowed r.kind then Some (bytes_from r a) else None

-- from a to the end of the region that holds n bytes there, where its kind is allowed
unfoldable pub bytes_at : (Kind → Bool) → List Region → ℕ → ℕ → Option (List ℕ)
bytes_at allowed M a n = option_and_then (allowed_from allowed a) (region_holding M a n)

-- the number that the n bytes from a are, in a region of an allowed kind
unfoldable pub loaded : (Kind → Bool) → List Region → ℕ → ℕ → Option ℕ
loaded allowed M a n = option_map (λ bytes. little_endian (take n bytes)) (bytes_at allowed M a n)

-- a load of n bytes at a; none is a page fault at a
abbrev pub load : List Region → ℕ → ℕ → Option ℕ
load M a n = loaded is_any M a n

-- a load of 8 bytes at a by the shadow stack; none is a page fault at a
abbrev pub shadow_load : List Region → ℕ → Option ℕ
shadow_load M a = loaded is_shadow M a 8

-- the bytes that instructions are fetched from: from a to the end of the Code region that holds a, and no byte where none does
unfoldable pub code_at : List Region → ℕ → List ℕ
code_at M a = unwrap_or (bytes_at is_code M a 1) []

-- the most that one instruction has (SDM volume 2, 2.3.11)
abbrev pub fetched : List Region → ℕ → List ℕ
fetched M a = take 15 (code_at M a)

-- ---- what is written

-- the low n bytes of v, the lowest first
unfoldable pub low_bytes : ℕ → ℕ → List ℕ
low_bytes zero v = []
low_bytes (suc n) v = (v % 256) ∷ low_bytes n (v / 256)

-- bytes with `new` in place of those from place i on
abbrev pub overwritten : List ℕ → ℕ → List ℕ → List ℕ
overwritten bytes i new = take i bytes ++ new ++ drop (i + length new) bytes

-- r with `new` as its bytes from address a on
abbrev pub written : ℕ → List ℕ → Region → Region
written a new r = record r { bytes = overwritten r.bytes (a - r.start) new }

-- M with `new` at a, in the region that holds that interval
abbrev pub with_bytes : List Region → ℕ → List ℕ → List Region
with_bytes [] a new = []
with_bytes (r ∷ M) a new = if holds a (length new) r then written a new r ∷ M else r ∷ with_bytes M a new

-- M after `new` was written at a, where the region that holds that interval is of an allowed kind
unfoldable pub stored : (Kind → Bool) → List Region → ℕ → List ℕ → Option (List Region)
stored allowed M a new =
    option_and_then (λ r. if allowed r.kind then Some (with_bytes M a new) else None) (region_holding M a (length new))

-- a store of the low n bytes of v at a; none is a page fault at a
abbrev pub store : List Region → ℕ → ℕ → ℕ → Option (List Region)
store M a n v = stored is_write M a (low_bytes n v)

-- a store of 8 bytes at a by the shadow stack; none is a page fault at a
abbrev pub shadow_store : List Region → ℕ → ℕ → Option (List Region)
shadow_store M a v = stored is_shadow M a (low_bytes 8 v)

-- bytes put into a region of any kind, as a program is loaded
abbrev pub fill : List Region → ℕ → List ℕ → Option (List Region)
fill M a new = stored is_any M a new

-- ---- new regions. A page has 4,096 bytes. User addresses end at 2^47, the canonical lower half (SDM volume 1, 3.3.7.1).

-- at and len are whole pages, there is one at least, and they end within the user addresses
abbrev pub is_range_of_pages : ℕ → ℕ → Bool
is_range_of_pages at len = (at % 4096 == 0) && (len % 4096 == 0) && nat_lt 0 len && nat_le (at + len) (2 ^ 47)

-- some address lies in r and in the range from low up to high
abbrev pub meets_range : ℕ → ℕ → Region → Bool
meets_range low high r = nat_lt (max low r.start) (min high (r.start + length r.bytes))

-- no region has an address from low up to high
abbrev pub is_free : List Region → ℕ → ℕ → Bool
is_free M low high = not (list_any (meets_range low high) M)

-- the region of len bytes 0 from at on
abbrev pub zeros : ℕ → ℕ → Kind → Region
zeros at len kind = record { start = at; kind = kind; bytes = replicate len 0 }

-- M with r after as many regions as start no higher, so that a list in order of address stays so
abbrev pub with_region : List Region → Region → List Region
with_region M r = insert M (count_by (λ q. nat_le q.start r.start) M) r

-- M with a region of zeros added; none where the place is illegal
unfoldable pub place : List Region → ℕ → ℕ → Kind → Option (List Region)
place M at len kind =
    if is_range_of_pages at len && is_free M at (at + len) then Some (with_region M (zeros at len kind)) else None

-- the bytes that stay free on each side of a region that a system call maps: no store near a region's end reaches the next one
abbrev pub gap : ℕ
gap = 65536

-- a system call may map the len bytes from at: they are pages, from 2^32 on, and no region is met by them and a gap on each side
unfoldable pub legal : List Region → ℕ → ℕ → Bool
legal M at len = is_range_of_pages at len && nat_le (2 ^ 32) at && is_free M (at - gap) (at + len + gap)
