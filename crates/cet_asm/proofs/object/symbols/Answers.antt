use Rattle.std.proofs.Common.{◌≡◌, ◌∙◌}
use Rattle.std.specs.List.{flat_map}
use Rattle.cet_asm.specs.Tables.{number_at}
use Rattle.cet_asm.specs.Assembled.{symbols, used_names}
use Rattle.cet_asm.specs.Whole.{IsNumbered}
use Rattle.cet_asm.proofs.Made.{symbols_from, numbers_from}
use Rattle.cet_asm.proofs.object.symbols.Goals as goal

pub returns : goal.returns
returns c =
    let placed = c.args.placed.now in
    let first = c.in_ok-symbols.symbols in
    let locals = c.define_all.new.self in
    let both = c.define_all-2.new.self in
    let all = c.mention_all.new.self in
    let numbered : IsNumbered both = c.in_ok-define_all-2.ensures.numbers (c.in_ok-define_all.ensures.numbers c.in_ok-symbols.ensures.numbers) in
    let uses : c.as_slice.result.now ≡ flat_map used_names placed = c.as_slice.ensures.value ∙ c.in_ok-used.ensures in
    let list : all.list ≡ symbols placed =
    symbols_from placed (number_at c.in_ok-globals.globals) c.args.kept c.args.defined.now c.as_slice.result.now first.list locals.list both.list all.list c.in_ok-globals.ensures c.requires.kept c.requires.defined uses c.in_ok-symbols.ensures.list c.in_ok-define_all.ensures.list c.in_ok-define_all-2.ensures.list (c.in_ok-mention_all.ensures.list numbered) in
    record {
      list = list;
      numbers = numbers_from placed (number_at all.numbers) all.list list (c.in_ok-mention_all.ensures.numbers numbered);
    }
