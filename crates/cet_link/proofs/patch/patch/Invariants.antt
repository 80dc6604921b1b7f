use Rattle.std.proofs.Common.{◌≡◌, ℕ, List, get_or, take}
use Rattle.cet_elf.specs.declared.object.Object.{Object}
use Rattle.cet_elf.specs.declared.object.Section.{Section}
use Rattle.cet_link.specs.Laid.{AreTables, patched_by}
use Rattle.cet_link.proofs.patch.patch.Given as goal

abbrev pub invariant-loop-rela : goal.invariant-loop-rela
invariant-loop-rela l =
    (inputs : List Object) → (note : List ℕ) → AreTables inputs note l.tables → (section : Section) → (at : ℕ)
    → get_or l.bytes at 0 ≡ patched_by inputs note (record { input = l.input; number = l.number; section = section }) (take l.rela-index l.relocations) at (get_or l.fn.bytes at 0)
