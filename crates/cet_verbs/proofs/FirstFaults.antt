-- What a reader refuses is the fault of the bytes, unless memory ran out.
use Rattle.std.proofs.Common.{◌≡◌, ℕ, List, Some}
use Rattle.std.specs.Prelude.{◌≢◌}
use Rattle.cet_elf.specs.declared.error.ElfError.{ElfError}
use Rattle.cet_elf.specs.declared.error.ElfError.TheVariants.{NoMemory}
use Rattle.cet_elf.specs.Faults.{IsFirst}
use Rattle.cet_elf.specs.ObjectFile.{object_faults, object_fault}
use Rattle.cet_exec.specs.ExecFile.{exec_faults, exec_fault}

pub object_refused : (bytes : List ℕ) (fault : ElfError) → IsFirst fault (object_faults bytes) → fault ≢ NoMemory → object_fault bytes ≡ Some fault
unfolding object_fault
object_refused bytes fault is known = is.first known

pub exec_refused : (bytes : List ℕ) (fault : ElfError) → IsFirst fault (exec_faults bytes) → fault ≢ NoMemory → exec_fault bytes ≡ Some fault
unfolding exec_fault
exec_refused bytes fault is known = is.first known
