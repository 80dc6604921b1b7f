use Rattle.std.proofs.Common.{◌≡◌, true, take, nat_lt}
use Rattle.std.specs.Char.{digit_value}
use Rattle.std.specs.List.{list_all}
use Rattle.std.specs.Str.Parse.{digits_value}
use Rattle.cet_syntax.specs.Number.{narrowed}
use Rattle.cet_syntax.proofs.number.digits.Given as goal

abbrev pub invariant-loop-byte : goal.invariant-loop-byte
invariant-loop-byte l =
    (list_all (λ d. nat_lt (digit_value d) l.base) (take l.byte-index l.bytes) ≡ true) × (l.magnitude ≡ narrowed (digits_value l.base (take l.byte-index l.bytes)))
