use Rattle.std.proofs.Common.{◌≡◌, ◌++◌, ◌∷◌, []}
use Rattle.cet_elf.specs.Below.{each_below}
use Rattle.cet_elf.specs.ObjectRelocations.{entry_faults, rela_of, rela_at}
use Rattle.cet_elf.proofs.relocations.read_entries.Given as goal

abbrev pub invariant-loop-k : goal.invariant-loop-k
invariant-loop-k l =
    (each_below l.k (entry_faults l.bytes l.index) ≡ []) × (l.list ≡ l.initial.list ++ each_below l.k (λ k. rela_of l.bytes (rela_at l.bytes l.index k) ∷ []))
