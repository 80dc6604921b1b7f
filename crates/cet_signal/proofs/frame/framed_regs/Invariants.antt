use Rattle.std.proofs.Common.{◌≡◌, ℕ, ◌+◌, ◌*◌, ◌<◌, length, take, drop, get_or}
use Rattle.cet_base.specs.Field.{little_endian}
use Rattle.cet_signal.proofs.frame.framed_regs.Given as goal

abbrev pub invariant-loop-i : goal.invariant-loop-i
invariant-loop-i l = (length l.r ≡ 16) × ((k : ℕ) → k < l.i → get_or l.r k 0 ≡ little_endian (take 8 (drop (8 * (k + 1)) l.fn.bytes)))
