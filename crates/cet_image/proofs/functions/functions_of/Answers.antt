use Rattle.std.proofs.Common.{rules}
use Rattle.std.proofs.lemmas.List.Filters.{dedup_is}
use Rattle.std.proofs.lemmas.List.Sorted.{answers_always}
use Rattle.cet_rules.specs.declared.function.Function.{Function}
use Rattle.cet_image.proofs.Named.{sorted_are_functions, copied, same}
use Rattle.cet_image.proofs.functions.functions_of.Goals as goal

pub returns : goal.returns
returns c =
    let sorted = c.sort_unstable_by_key.ensures.sorted (λ (f : Function). (f.start, f.size)) (answers_always _ _ _ (λ f a r g h. search rules)) in
    let once = dedup_is same _ _ c.dedup.ensures.filtered in
    let are = sorted_are_functions c.args.symbols.now _ _ _ c.in_ok-functions.ensures c.sort_unstable_by_key.ensures.permutation sorted once in
    copied c.args.symbols.now _ _ _ c.from_slice.ensures c.deref.ensures.value are
