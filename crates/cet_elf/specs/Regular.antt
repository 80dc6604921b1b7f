-- Which objects can be written: those that a file can hold, and that are read back as they were. The rules are this project's own.
use Rattle.std.specs.Prelude.{◌≡◌, ◌≢◌, ◌+◌, ◌^◌, ◌<◌, ◌≤◌, [], length, count_by, sum_by, Some, All, slice_get, FitsSigned}
use Rattle.std.specs.Int.{w64}
use Rattle.cet_elf.specs.declared.object.Class.TheVariants as classes
use Rattle.cet_elf.specs.declared.object.Object.{Object}
use Rattle.cet_elf.specs.declared.object.Rela.{Rela}
use Rattle.cet_elf.specs.declared.object.Symbol.{Symbol}
use Rattle.cet_elf.specs.Consistent.{HasNoZero, IsConsistent}
use Rattle.cet_elf.specs.ObjectSymbols.{null_symbol}
use Rattle.cet_elf.specs.Written.{has_relocations}

-- An object that can be written: it keeps what every object keeps that a file gives, and
-- - in its file stand, besides its sections and the relocation section of each that has relocations, at most five: the null
--   section, the note, the symbol table and two string tables;
-- - the names of its sections and symbols have fewer than 2^30 bytes together, and those of its sections hold no zero byte;
-- - no section is a group, and one of zeros has no relocations;
-- - its first symbol is the value that stands for entry 0 of a symbol table, which is not looked at.
pub record IsRegular (o : Object) : Type 0 where
  pub consistent : IsConsistent o
  pub few_sections : length o.sections + count_by has_relocations o.sections + 5 ≤ 4096
  pub section_names : All (λ s. HasNoZero s.name) o.sections
  pub few_name_bytes : sum_by (λ s. length s.name) o.sections + sum_by (λ s. length s.name) o.symbols < 2 ^ 30
  pub no_group : All (λ s. s.class ≢ classes.Group) o.sections
  pub zeros : All (λ s. s.class ≡ classes.Zero → s.relocations ≡ []) o.sections
  pub null_first : slice_get o.symbols 0 ≡ Some null_symbol

-- the numbers of a relocation and of a symbol fit their types
abbrev pub RelaFits : Rela → Type 0
RelaFits r = (r.offset < 2 ^ 64) × FitsSigned w64 r.addend

abbrev pub SymbolFits : Symbol → Type 0
SymbolFits s = (s.value < 2 ^ 64) × (s.size < 2 ^ 64)

-- The numbers of an object fit their types, as those of every value of the program do.
pub record FitsTypes (o : Object) : Type 0 where
  pub sections : All (λ s. s.size < 2 ^ 64) o.sections
  pub relocations : All (λ s. All RelaFits s.relocations) o.sections
  pub symbols : All SymbolFits o.symbols
