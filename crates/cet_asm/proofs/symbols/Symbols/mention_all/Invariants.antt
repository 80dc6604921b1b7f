use Rattle.std.proofs.Common.{◌≡◌, ◌++◌, drop}
use Rattle.cet_asm.specs.Whole.{IsNumbered, first_uses}
use Rattle.cet_asm.proofs.symbols.Symbols.mention_all.Given as goal

abbrev pub invariant-loop-name : goal.invariant-loop-name
invariant-loop-name l = record {
  list : IsNumbered l.initial.self → l.self.list ++ first_uses l.self.list (drop l.name-index l.names) ≡ l.initial.self.list ++ first_uses l.initial.self.list l.names;
  numbers : IsNumbered l.initial.self → IsNumbered l.self;
}
