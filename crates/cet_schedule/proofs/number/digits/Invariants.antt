use Rattle.std.proofs.Common.{◌≡◌, true, take, nat_lt}
use Rattle.std.specs.Char.{digit_value}
use Rattle.std.specs.List.{list_all}
use Rattle.std.specs.Str.Parse.{digits_value}
use Rattle.cet_schedule.specs.Narrowed.{narrowed}
use Rattle.cet_schedule.proofs.number.digits.Given as goal

-- what was read are digits, and this is their value
abbrev pub invariant-loop-byte : goal.invariant-loop-byte
invariant-loop-byte l = record {
  digits : list_all (λ d. nat_lt (digit_value d) l.base) (take l.byte-index l.bytes) ≡ true;
  value : l.value ≡ narrowed (digits_value l.base (take l.byte-index l.bytes));
}
