use Rattle.std.proofs.Common.{◌≡◌, ◌||◌, ℕ, List, drop, is_some}
use Rattle.cet_asm.specs.Assembled.{global_names, is_among}
use Rattle.cet_asm.specs.Tables.{number_at}
use Rattle.cet_asm.proofs.names_used.globals.Given as goal

abbrev pub invariant-loop-p : goal.invariant-loop-p
invariant-loop-p l = (name : List ℕ) → (is_some (number_at l.table name) || is_among name (global_names (drop l.p-index l.placed))) ≡ is_among name (global_names l.placed)
