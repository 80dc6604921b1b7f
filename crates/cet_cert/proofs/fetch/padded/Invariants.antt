use Rattle.std.proofs.Common.{◌≡◌, ℕ, ◌+◌, ◌<◌, length, get_or}
use Rattle.cet_cert.proofs.fetch.padded.Given as goal

abbrev pub invariant-loop-k : goal.invariant-loop-k
invariant-loop-k l = record {
  long : length l.bytes ≡ 15;
  filled : (k : ℕ) → k < l.k → get_or l.bytes k 0 ≡ get_or l.stored (l.offset + k) 0;
}
