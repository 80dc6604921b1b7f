use Rattle.std.proofs.Common.{◌≡◌, ◌++◌, drop}
use Rattle.cet_asm.specs.Tables.{number_at}
use Rattle.cet_asm.specs.Whole.{IsNumbered, bound_symbols}
use Rattle.cet_asm.proofs.symbols.Symbols.define_all.Given as goal

abbrev pub invariant-loop-d : goal.invariant-loop-d
invariant-loop-d l = record {
  list : l.self.list ++ bound_symbols l.bind (number_at l.globals) l.kept (drop l.d-index l.defined) ≡ l.initial.self.list ++ bound_symbols l.bind (number_at l.globals) l.kept l.defined;
  numbers : IsNumbered l.initial.self → IsNumbered l.self;
}
