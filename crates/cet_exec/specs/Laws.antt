-- What holds of executables and their files, whatever the code.
use Rattle.std.specs.Prelude.{◌<◌, ◌^◌, length}
use Rattle.cet_elf.specs.declared.exec.Exec.{Exec}
use Rattle.cet_exec.specs.ExecFile.{IsExecFile}
use Rattle.cet_exec.specs.Regular.{IsRegularExec, FitsTypes}
use Rattle.cet_exec.specs.Written.{written}

-- The file of a regular executable is that executable. Its length fits the fields that hold places in it.
abbrev pub WrittenReadsBack : Type 0
WrittenReadsBack = (e : Exec) → IsRegularExec e → FitsTypes e → length (written e) < 2 ^ 64 → IsExecFile (written e) e
