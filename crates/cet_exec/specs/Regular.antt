-- Which executables can be written: those that a file can hold, and that are read back as they were. What each part of a file can say is the
-- gABI's ("Program Header", "Symbol Table"); how many segments an executable may have is this project's own.
use Rattle.std.specs.Prelude.{◌≢◌, ◌<◌, ◌≤◌, ◌^◌, [], length, sum_by, Some, All}
use Rattle.cet_elf.specs.declared.object.SymbolKind.TheVariants.{Section}
use Rattle.cet_elf.specs.declared.exec.Exec.{Exec}
use Rattle.cet_elf.specs.declared.exec.ExecSegment.{ExecSegment}
use Rattle.cet_elf.specs.declared.exec.ExecSymbol.{ExecSymbol}
use Rattle.cet_elf.specs.Consistent.{HasNoZero}

-- it takes memory, stores no more bytes than that, and has no flags but PF_X, PF_W and PF_R
pub record IsRegularSegment (s : ExecSegment) : Type 0 where
  pub has_size : 0 < s.size
  pub stored : length s.bytes ≤ s.size
  pub flags : s.flags < 8

-- it has a name, and is no STT_SECTION
pub record IsRegularSymbol (s : ExecSymbol) : Type 0 where
  pub named : s.name ≢ []
  pub name : HasNoZero s.name
  pub kind : s.kind ≢ Section

-- An executable that can be written: it has at most 16 segments, the names of its symbols have fewer than 2^31 bytes together, and a note that it has
-- is not empty.
pub record IsRegularExec (e : Exec) : Type 0 where
  pub few_segments : length e.segments ≤ 16
  pub segments : All IsRegularSegment e.segments
  pub symbols : All IsRegularSymbol e.symbols
  pub few_name_bytes : sum_by (λ s. length s.name) e.symbols < 2 ^ 31
  pub note : e.notes ≢ Some []

-- the numbers of a segment and of a symbol fit their types
abbrev pub SegmentFits : ExecSegment → Type 0
SegmentFits s = (s.start < 2 ^ 64) × (s.size < 2 ^ 64)

abbrev pub SymbolFits : ExecSymbol → Type 0
SymbolFits s = (s.value < 2 ^ 64) × (s.size < 2 ^ 64)

-- The numbers of an executable fit their types, as those of every value of the program do.
pub record FitsTypes (e : Exec) : Type 0 where
  pub entry : e.entry < 2 ^ 64
  pub segments : All SegmentFits e.segments
  pub symbols : All SymbolFits e.symbols
