-- Laws of memory, stated over the intervals of addresses that are read and written. An interval is a first address and a length.
use Rattle.std.specs.Prelude.{◌≡◌, ℕ, ◌+◌, ◌-◌, ◌%◌, ◌^◌, ◌<◌, ◌≤◌, ◌⊎◌, Bool, true, false, not, List, [], ◌∷◌, map, length, take, drop, Some, slice_get}
use Rattle.std.specs.List.{filter}
use Rattle.cet_base.specs.Field.{little_endian}
use Rattle.cet_machine.specs.declared.memory.Region.{Region}
use Rattle.cet_machine.specs.declared.memory.Kind.{Kind}
use Rattle.cet_machine.specs.declared.memory.Kind.TheVariants.{Code, Write, Shadow}
use Rattle.cet_machine.specs.Memory.{AreDisjoint, region_holding, holds, held, bytes_at, loaded, load, shadow_load, code_at, stored, store, shadow_store, MeetsNone, is_range_of_pages, zeros, with_region, place, gap, legal}

-- ---- shapes: what a region is but for its bytes

abbrev pub shape : Region → ℕ × ℕ × Kind
shape r = (r.start, length r.bytes, r.kind)

-- the regions of N have the addresses and kinds of those of M, in the same order
abbrev pub SameShape : List Region → List Region → Type 0
SameShape M N = map shape N ≡ map shape M

-- nothing that is written changes the addresses or the kind of a region
abbrev pub StoredKeepsShape : Type 0
StoredKeepsShape = (allowed : Kind → Bool) (M N : List Region) (a : ℕ) (new : List ℕ) → stored allowed M a new ≡ Some N → SameShape M N

-- where the shapes are the same, so is what holds an interval
abbrev pub SameShapeHeld : Type 0
SameShapeHeld = (M N : List Region) (a n : ℕ) → SameShape M N → held N a n ≡ held M a n

-- where the shapes are the same, the regions of both are disjoint or those of neither
abbrev pub SameShapeDisjoint : Type 0
SameShapeDisjoint = (M N : List Region) → SameShape M N → AreDisjoint M → AreDisjoint N

-- ---- accesses and what holds them

-- bytes are read where their interval is held by an allowed kind, and nowhere else
abbrev pub ReadWhereHeld : Type 0
ReadWhereHeld = (allowed : Kind → Bool) (M : List Region) (a n : ℕ) (kind : Kind) → held M a n ≡ Some kind → allowed kind ≡ true → (v : ℕ) × (loaded allowed M a n ≡ Some v)

abbrev pub HeldWhereRead : Type 0
HeldWhereRead = (allowed : Kind → Bool) (M : List Region) (a n v : ℕ) → loaded allowed M a n ≡ Some v → (kind : Kind) × (held M a n ≡ Some kind) × (allowed kind ≡ true)

-- bytes are written where their interval is held by an allowed kind, and nowhere else
abbrev pub StoredWhereHeld : Type 0
StoredWhereHeld = (allowed : Kind → Bool) (M : List Region) (a : ℕ) (new : List ℕ) (kind : Kind) → held M a (length new) ≡ Some kind → allowed kind ≡ true → (N : List Region) × (stored allowed M a new ≡ Some N)

abbrev pub HeldWhereStored : Type 0
HeldWhereStored = (allowed : Kind → Bool) (M N : List Region) (a : ℕ) (new : List ℕ) → stored allowed M a new ≡ Some N → (kind : Kind) × (held M a (length new) ≡ Some kind) × (allowed kind ≡ true)

-- ---- what is read after a write

-- the n addresses from a and the k addresses from b are apart
abbrev pub IsApart : ℕ → ℕ → ℕ → ℕ → Type 0
IsApart a n b k = (a + n ≤ b) ⊎ (b + k ≤ a)

-- no region of another kind is changed
abbrev pub StoredKeepsOtherKinds : Type 0
StoredKeepsOtherKinds = (allowed : Kind → Bool) (M N : List Region) (a : ℕ) (new : List ℕ) → stored allowed M a new ≡ Some N
    → filter (λ r. not (allowed r.kind)) N ≡ filter (λ r. not (allowed r.kind)) M

-- what is read of another kind is as before
abbrev pub StoredKeepsReadsOfOtherKinds : Type 0
StoredKeepsReadsOfOtherKinds = (allowed other : Kind → Bool) (M N : List Region) (a : ℕ) (new : List ℕ) → stored allowed M a new ≡ Some N
    → ((kind : Kind) → allowed kind ≡ true → other kind ≡ false) → (b k : ℕ) → bytes_at other N b k ≡ bytes_at other M b k

-- a region that does not hold the interval that is written answers as before
abbrev pub StoredKeepsOtherRegions : Type 0
StoredKeepsOtherRegions = (allowed : Kind → Bool) (M N : List Region) (a : ℕ) (new : List ℕ) → stored allowed M a new ≡ Some N
    → (b k : ℕ) (r : Region) → region_holding M b k ≡ Some r → holds a (length new) r ≡ false → region_holding N b k ≡ Some r

-- what is read elsewhere is as before
abbrev pub StoredKeepsReadsElsewhere : Type 0
StoredKeepsReadsElsewhere = (allowed other : Kind → Bool) (M N : List Region) (a : ℕ) (new : List ℕ) → stored allowed M a new ≡ Some N
    → (b k : ℕ) → IsApart a (length new) b k → loaded other N b k ≡ loaded other M b k

-- what was written is read
abbrev pub StoredIsRead : Type 0
StoredIsRead = (allowed other : Kind → Bool) (M N : List Region) (a : ℕ) (new : List ℕ) → stored allowed M a new ≡ Some N
    → ((kind : Kind) → allowed kind ≡ true → other kind ≡ true) → loaded other N a (length new) ≡ Some (little_endian new)

-- and so is each part of it
abbrev pub StoredIsReadWithin : Type 0
StoredIsReadWithin = (allowed other : Kind → Bool) (M N : List Region) (a : ℕ) (new : List ℕ) → AreDisjoint M → stored allowed M a new ≡ Some N
    → ((kind : Kind) → allowed kind ≡ true → other kind ≡ true) → (i k : ℕ) → 0 < k → i + k ≤ length new
    → loaded other N (a + i) k ≡ Some (little_endian (take k (drop i new)))

-- what was written into code is fetched
abbrev pub StoredIsFetched : Type 0
StoredIsFetched = (allowed : Kind → Bool) (M N : List Region) (a : ℕ) (new : List ℕ) → AreDisjoint M → stored allowed M a new ≡ Some N
    → held M a (length new) ≡ Some Code → (i : ℕ) → i < length new → take (length new - i) (code_at N (a + i)) ≡ drop i new

-- ---- the same, of stores and of stores by the shadow stack

-- a store of n bytes is read as the low n bytes of its number
abbrev pub LoadAfterStore : Type 0
LoadAfterStore = (M N : List Region) (a n v : ℕ) → store M a n v ≡ Some N → load N a n ≡ Some (v % 256 ^ n)

abbrev pub LoadElsewhereAfterStore : Type 0
LoadElsewhereAfterStore = (M N : List Region) (a n v b k : ℕ) → store M a n v ≡ Some N → IsApart a n b k → load N b k ≡ load M b k

abbrev pub ShadowLoadAfterStore : Type 0
ShadowLoadAfterStore = (M N : List Region) (a n v b : ℕ) → store M a n v ≡ Some N → shadow_load N b ≡ shadow_load M b

abbrev pub CodeAfterStore : Type 0
CodeAfterStore = (M N : List Region) (a n v b : ℕ) → store M a n v ≡ Some N → code_at N b ≡ code_at M b

abbrev pub ShadowLoadAfterShadowStore : Type 0
ShadowLoadAfterShadowStore = (M N : List Region) (a v : ℕ) → shadow_store M a v ≡ Some N → shadow_load N a ≡ Some (v % 256 ^ 8)

abbrev pub ShadowLoadElsewhereAfterShadowStore : Type 0
ShadowLoadElsewhereAfterShadowStore = (M N : List Region) (a v b : ℕ) → shadow_store M a v ≡ Some N → IsApart a 8 b 8 → shadow_load N b ≡ shadow_load M b

abbrev pub LoadElsewhereAfterShadowStore : Type 0
LoadElsewhereAfterShadowStore = (M N : List Region) (a v b k : ℕ) → shadow_store M a v ≡ Some N → IsApart a 8 b k → load N b k ≡ load M b k

abbrev pub CodeAfterShadowStore : Type 0
CodeAfterShadowStore = (M N : List Region) (a v b : ℕ) → shadow_store M a v ≡ Some N → code_at N b ≡ code_at M b

-- a store changes no load from what a region of another kind holds
abbrev pub LoadOfOtherKindAfterStore : Type 0
LoadOfOtherKindAfterStore = (M N : List Region) (a n v b k : ℕ) (kind : Kind) → store M a n v ≡ Some N → held M b k ≡ Some kind → (kind ≡ Write → ⊥) → load N b k ≡ load M b k

abbrev pub LoadOfOtherKindAfterShadowStore : Type 0
LoadOfOtherKindAfterShadowStore = (M N : List Region) (a v b k : ℕ) (kind : Kind) → shadow_store M a v ≡ Some N → held M b k ≡ Some kind → (kind ≡ Shadow → ⊥) → load N b k ≡ load M b k

-- ---- disjoint regions

-- one region alone holds an interval with an address in it, wherever in the list it stands
abbrev pub OneHolder : Type 0
OneHolder = (M : List Region) (i a n : ℕ) (r : Region) → AreDisjoint M → 0 < n → slice_get M i ≡ Some r → holds a n r ≡ true → region_holding M a n ≡ Some r

-- what holds an interval holds each part of it
abbrev pub HeldWithin : Type 0
HeldWithin = (M : List Region) (a n b k : ℕ) (kind : Kind) → AreDisjoint M → 0 < k → a ≤ b → b + k ≤ a + n → held M a n ≡ Some kind → held M b k ≡ Some kind

-- ---- new regions

-- a region is placed on each range of pages whose addresses no region has, and nowhere else
abbrev pub PlacedWhereFree : Type 0
PlacedWhereFree = (M : List Region) (at len : ℕ) (kind : Kind) → is_range_of_pages at len ≡ true → MeetsNone (zeros at len kind) M
    → place M at len kind ≡ Some (with_region M (zeros at len kind))

abbrev pub FreeWherePlaced : Type 0
FreeWherePlaced = (M N : List Region) (at len : ℕ) (kind : Kind) → place M at len kind ≡ Some N
    → (is_range_of_pages at len ≡ true) × MeetsNone (zeros at len kind) M × (N ≡ with_region M (zeros at len kind))

-- what a system call may map can be placed
abbrev pub LegalIsPlaced : Type 0
LegalIsPlaced = (M : List Region) (at len : ℕ) (kind : Kind) → legal M at len ≡ true → (N : List Region) × (place M at len kind ≡ Some N)

-- and a gap stays free between it and each region that is not empty
abbrev pub LegalIsApart : Type 0
LegalIsApart = (M : List Region) (at len i : ℕ) (r : Region) → legal M at len ≡ true → slice_get M i ≡ Some r → 0 < length r.bytes
    → (r.start + length r.bytes + gap ≤ at) ⊎ (at + len + gap ≤ r.start)

-- regions stay disjoint
abbrev pub PlaceKeepsDisjoint : Type 0
PlaceKeepsDisjoint = (M N : List Region) (at len : ℕ) (kind : Kind) → place M at len kind ≡ Some N → AreDisjoint M → AreDisjoint N

-- whatever does not lie in the new region is held by what held it
abbrev pub PlaceKeepsOthers : Type 0
PlaceKeepsOthers = (M N : List Region) (at len : ℕ) (kind : Kind) → place M at len kind ≡ Some N
    → (b k : ℕ) → (b < at) ⊎ (at + len < b + k) → region_holding N b k ≡ region_holding M b k

-- each access to a region that was there is as before
abbrev pub PlaceKeepsHeld : Type 0
PlaceKeepsHeld = (M N : List Region) (at len : ℕ) (kind : Kind) → place M at len kind ≡ Some N
    → (b k : ℕ) (r : Region) → 0 < k → region_holding M b k ≡ Some r → region_holding N b k ≡ Some r

-- the new region is of its kind and has bytes 0
abbrev pub PlacedIsZero : Type 0
PlacedIsZero = (M N : List Region) (at len : ℕ) (kind : Kind) → place M at len kind ≡ Some N
    → (b k : ℕ) → 0 < k → at ≤ b → b + k ≤ at + len → (held N b k ≡ Some kind) × (load N b k ≡ Some 0)

-- ---- bytes are below 256

abbrev pub IsByteList : List ℕ → Type 0
IsByteList [] = Unit {0}
IsByteList (byte ∷ bytes) = (byte < 256) × IsByteList bytes

abbrev pub HaveBytes : List Region → Type 0
HaveBytes [] = Unit {0}
HaveBytes (r ∷ M) = IsByteList r.bytes × HaveBytes M

abbrev pub LoadFits : Type 0
LoadFits = (allowed : Kind → Bool) (M : List Region) (a n v : ℕ) → HaveBytes M → loaded allowed M a n ≡ Some v → v < 256 ^ n

abbrev pub StoredKeepsBytes : Type 0
StoredKeepsBytes = (allowed : Kind → Bool) (M N : List Region) (a : ℕ) (new : List ℕ) → stored allowed M a new ≡ Some N → IsByteList new → HaveBytes M → HaveBytes N

abbrev pub PlaceKeepsBytes : Type 0
PlaceKeepsBytes = (M N : List Region) (at len : ℕ) (kind : Kind) → place M at len kind ≡ Some N → HaveBytes M → HaveBytes N
