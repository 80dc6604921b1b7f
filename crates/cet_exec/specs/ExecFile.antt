-- Static executables: which bytes are which executable, and the faults of bytes that are none (gABI, "Object Files",
-- "Program Header"). That these faults are told, and their order, is this project's.
use Rattle.std.specs.Prelude.{◌≡◌, ℕ, List, [], ◌++◌, Option}
use Rattle.cet_elf.specs.declared.error.ElfError.{ElfError}
use Rattle.cet_elf.specs.declared.exec.Exec.{Exec}
use Rattle.cet_elf.specs.Faults.{first}
use Rattle.cet_elf.specs.Fields.{xword}
use Rattle.cet_elf.specs.Header.{header_faults}
use Rattle.cet_elf.specs.Sections.{sections_faults}
use Rattle.cet_exec.specs.Programs.{programs_faults, segments_of, notes_of}
use Rattle.cet_exec.specs.ExecSymbols.{symbols_faults, symbols_of}

-- The faults in the order in which they are looked for: the header; the places, then the names of all sections; the program
-- headers; the names of the symbols. Each is looked for where none stands before it, so only the first says something of the
-- file.
unfoldable pub exec_faults : List ℕ → List ElfError
exec_faults b = header_faults 2 b ++ sections_faults b ++ programs_faults b ++ symbols_faults b

unfoldable pub exec_fault : List ℕ → Option ElfError
exec_fault b = first (exec_faults b)

-- e_entry
abbrev pub entry_of : List ℕ → ℕ
entry_of b = xword b 24

-- the executable that bytes without a fault are
unfoldable pub exec_of : List ℕ → Exec
exec_of b = record { entry = entry_of b; segments = segments_of b; symbols = symbols_of b; notes = notes_of b }

-- the bytes are the executable
pub record IsExecFile (b : List ℕ) (e : Exec) : Type 0 where
  pub no_fault : exec_faults b ≡ []
  pub is_exec : e ≡ exec_of b
