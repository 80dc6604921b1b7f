-- What every object keeps that a file gives: what this project's link editor asks of its inputs.
use Rattle.std.specs.Prelude.{◌≡◌, ℕ, ◌^◌, ◌<◌, ◌≤◌, IsTrue, List, [], length, All, Contains, sum_by}
use Rattle.cet_elf.specs.declared.object.Object.{Object}
use Rattle.cet_elf.specs.declared.object.Section.{Section}
use Rattle.cet_elf.specs.declared.object.Class.{Class}
use Rattle.cet_elf.specs.declared.object.Class.TheVariants as classes
use Rattle.cet_elf.specs.declared.object.Symbol.{Symbol}
use Rattle.cet_elf.specs.declared.object.SymbolPlace.{SymbolPlace}
use Rattle.cet_elf.specs.declared.object.SymbolPlace.TheVariants as places
use Rattle.cet_elf.specs.declared.object.Rela.{Rela}
use Rattle.cet_elf.specs.ObjectRelocations.{is_rela_type, is_field_inside}

-- the limits of an object
pub record KeepsLimits (o : Object) : Type 0 where
  pub sections : length o.sections ≤ 4096
  pub symbols : length o.symbols ≤ 65536
  pub relocations : sum_by (λ s. length s.relocations) o.sections ≤ 1000000

abbrev pub IsAlignment : ℕ → Type 0
IsAlignment align = (k : ℕ) × (k ≤ 12) × (align ≡ 2 ^ k)

-- a text holds no zero byte
abbrev pub HasNoZero : List ℕ → Type 0
HasNoZero text = Contains text 0 → ⊥

-- a section of zeros has no bytes, and every other one as many as its size
abbrev pub HasItsBytes : Class → ℕ → List ℕ → Type 0
HasItsBytes classes.Zero size bytes = bytes ≡ []
HasItsBytes _ size bytes = length bytes ≡ size

-- a relocation of a section of `size` bytes in an object of so many symbols: it has one of the seven types, its symbol is
-- there, and its field lies in the bytes
pub record IsConsistentRela (symbols size : ℕ) (r : Rela) : Type 0 where
  pub kind : IsTrue (is_rela_type r.kind)
  pub symbol : r.symbol < symbols
  pub field : IsTrue (is_field_inside r.kind r.offset size)

pub record IsConsistentSection (symbols : ℕ) (s : Section) : Type 0 where
  pub align : IsAlignment s.align
  pub bytes : HasItsBytes s.class s.size s.bytes
  pub relocations : All (IsConsistentRela symbols (length s.bytes)) s.relocations

-- a place names a section that is there
abbrev pub IsPlaceAmong : ℕ → SymbolPlace → Type 0
IsPlaceAmong sections (places.In n) = n < sections
IsPlaceAmong sections _ = Unit {0}

pub record IsConsistentSymbol (sections : ℕ) (s : Symbol) : Type 0 where
  pub name : HasNoZero s.name
  pub place : IsPlaceAmong sections s.place

pub record IsConsistent (o : Object) : Type 0 where
  pub limits : KeepsLimits o
  pub sections : All (IsConsistentSection (length o.symbols)) o.sections
  pub symbols : All (IsConsistentSymbol (length o.sections)) o.symbols
