use Rattle.std.proofs.Common.{◌≤◌, ◌++◌, List, length, refl, arith}
use Rattle.cet_elf.specs.declared.object.Symbol.{Symbol}
use Rattle.cet_asm.specs.declared.definition.Definition.{Definition}
use Rattle.cet_asm.specs.Tables.{number_at}
use Rattle.cet_asm.specs.Whole.{bound_symbols, numbered_symbol, kept_number, is_bound}
use Rattle.cet_asm.proofs.Growing.{grown, ended, map_split}
use Rattle.cet_asm.proofs.symbols.Symbols.define_all.Goals as goal

pub loop-d-preserved : goal.loop-d-preserved
loop-d-preserved c =
    let G : List Definition → List Symbol = bound_symbols c.args.bind (number_at c.args.globals.now) c.args.kept in
    record {
      list = grown G (map_split (λ d. numbered_symbol c.args.bind (kept_number c.args.kept d.section) d) (λ d. is_bound c.args.bind (number_at c.args.globals.now d.name))) c.args.defined.now c.loop-d.d-index c.d-item.result c.loop-d.self.list c.define_bound.new.self.list (c.args.self.now.list ++ G c.args.defined.now) c.loop-d-test.true c.d-item.is c.in_ok-define_bound.ensures.list c.loop-d.invariant.list;
      numbers = λ n. c.in_ok-define_bound.ensures.numbers (c.loop-d.invariant.numbers n);
    }

pub returns : goal.returns
returns c =
    let G : List Definition → List Symbol = bound_symbols c.args.bind (number_at c.args.globals.now) c.args.kept in
    let all : length c.args.defined.now ≤ c.loop-d.d-index = omega arith in
    record {
      list = ended G c.args.defined.now c.loop-d.d-index c.loop-d.self.list (c.args.self.now.list ++ G c.args.defined.now) refl all c.loop-d.invariant.list;
      numbers = c.loop-d.invariant.numbers;
    }
