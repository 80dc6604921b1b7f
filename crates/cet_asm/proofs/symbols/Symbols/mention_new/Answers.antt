use Rattle.std.proofs.Common.{◌≡◌, ℕ, List, [], ◌∷◌, ◌++◌, Some, None, Result, Ok, Err, ap, sym, ◌∙◌}
use Rattle.std.specs.Prelude.{OnOk}
use Rattle.cet_elf.specs.declared.object.Symbol.{Symbol}
use Rattle.cet_asm.specs.Tables.{number_at}
use Rattle.cet_asm.specs.Assembled.{undefined_symbol}
use Rattle.cet_asm.specs.Whole.{IsNumbered, first_uses}
use Rattle.cet_asm.proofs.SymbolNames.{first_use, later_use}
use Rattle.cet_asm.proofs.symbols.Symbols.mention_new.Goals as goal

on_ok : {A E : Type 0} (P Q : Type 0) (r : Result A E) → (P → Q) → OnOk r P → OnOk r Q
on_ok P Q (Ok x) f p = f p
on_ok P Q (Err e) f p = tt

pub returns-in-Some-clause-list : goal.returns-in-Some-clause-list
returns-in-Some-clause-list c = λ agree names.
    let list = c.args.self.now.list in
    let numbers = number_at c.args.self.now.numbers in
    let found : numbers c.args.name.now ≡ Some c.in-Some.field-0 = sym (c.in-Some.ensures ∙ ap numbers c.as_bytes.ensures) in
    ap (λ (t : List Symbol). list ++ t) (sym (later_use numbers list c.args.name.now names c.in-Some.field-0 agree found))

pub returns-in-None-clause-list : goal.returns-in-None-clause-list
returns-in-None-clause-list c =
    let list = c.args.self.now.list in
    let numbers = number_at c.args.self.now.numbers in
    let none : numbers c.args.name.now ≡ None = sym (c.in-None.ensures ∙ ap numbers c.as_bytes.ensures) in
    let Told : Type 0 = c.mention.new.self.list ≡ list ++ undefined_symbol c.args.name.now ∷ [] in
    let Wanted : Type 0 = IsNumbered c.args.self.now → (names : List (List ℕ)) → c.mention.new.self.list ++ first_uses c.mention.new.self.list names ≡ list ++ first_uses list (c.args.name.now ∷ names) in
    on_ok Told Wanted c.mention.result
    (λ told agree names. ap (λ (t : List Symbol). t ++ first_uses t names) told ∙ sym (first_use numbers list c.args.name.now names agree none)) c.mention.ensures.list
