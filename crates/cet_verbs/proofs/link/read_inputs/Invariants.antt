use Rattle.std.proofs.Common.{All, take}
use Rattle.cet_elf.specs.Consistent.{IsConsistent}
use Rattle.cet_elf.specs.ObjectFile.{IsObjectFile}
use Rattle.cet_verbs.specs.Notes.{AllBoth, items_of}
use Rattle.cet_verbs.proofs.link.read_inputs.Given as goal

-- the bytes so far are the objects so far
abbrev pub invariant-loop-i : goal.invariant-loop-i
invariant-loop-i l = record {
  read : AllBoth IsObjectFile (take l.i (items_of l.held)) l.objects.items;
  consistent : All IsConsistent l.objects.items;
}
