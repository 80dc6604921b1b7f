use Rattle.std.proofs.Common.{◌≡◌, ℕ, length, get_or, []}
use Rattle.cet_elf.proofs.relocations.no_relocations.Given as goal

abbrev pub invariant-loop-i : goal.invariant-loop-i
invariant-loop-i l = (length l.lists.items ≡ l.i) × ((i : ℕ) → get_or l.lists.items i [] ≡ [])
