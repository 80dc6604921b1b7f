use Rattle.std.proofs.Common.{◌≡◌, ◌+◌, ◌^◌, ◌<◌, ◌≤◌, length, drop, false}
use Rattle.std.specs.Fmt.{digits_onto, digits}
use Rattle.cet_base.proofs.line.put_digits.Given as goal

-- the glyphs from `start` on are the last digits, and `rest` has the ones before them
abbrev pub invariant-loop-rest : goal.invariant-loop-rest
invariant-loop-rest l = record {
  size : length l.glyphs ≡ 16;
  some : 0 < l.start;
  most : l.start ≤ 16;
  small : l.rest < 16 ^ l.start;
  text : digits_onto (48 + l.start) 16 false l.rest (drop l.start l.glyphs) ≡ digits 16 false l.number;
}

abbrev pub decreases-loop-rest : goal.decreases-loop-rest
decreases-loop-rest l = l.rest
