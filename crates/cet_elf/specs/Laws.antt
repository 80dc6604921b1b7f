-- What holds of objects and their files, whatever the code.
use Rattle.std.specs.Prelude.{◌<◌, ◌^◌, length}
use Rattle.cet_elf.specs.declared.object.Object.{Object}
use Rattle.cet_elf.specs.ObjectFile.{IsObjectFile}
use Rattle.cet_elf.specs.Regular.{IsRegular, FitsTypes}
use Rattle.cet_elf.specs.Written.{written}

-- The file of a regular object is that object. Its length fits the fields that hold places in it.
abbrev pub WrittenReadsBack : Type 0
WrittenReadsBack = (o : Object) → IsRegular o → FitsTypes o → length (written o) < 2 ^ 64 → IsObjectFile (written o) o
