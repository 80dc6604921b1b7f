use Rattle.std.proofs.Common.{◌≡◌, ℕ, cond, List, Some, None, sym, subst}
use Rattle.std.specs.Option.{option_or}
use Rattle.std.specs.Str.{bytes_eq}
use Rattle.cet_elf.specs.declared.object.Symbol.{Symbol}
use Rattle.cet_asm.specs.Tables.{number_at}
use Rattle.cet_asm.specs.Whole.{numbers_agree}
use Rattle.cet_asm.proofs.SymbolNames.{numbered-push}
use Rattle.cet_asm.proofs.symbols.Symbols.push.Goals as goal

pub returns : goal.returns
returns c =
    let old = number_at c.args.self.now.numbers in
    let new = number_at c.give.new.self in
    let given : (name : List ℕ) → new name ≡ option_or (old name) (cond (bytes_eq c.args.symbol.name name) (Some c.len-number.result) None) =
    λ name. rw (c.requires, ← c.as_bytes.ensures) (c.in_ok-give.ensures name) in
    record {
      list = c.in_ok-push.ensures.ok;
      numbers = λ agree. subst (λ (l : List Symbol). numbers_agree new l) (sym c.in_ok-push.ensures.ok) (numbered-push old new c.args.self.now.list c.args.symbol c.len-number.result c.len-number.ensures given agree);
    }
