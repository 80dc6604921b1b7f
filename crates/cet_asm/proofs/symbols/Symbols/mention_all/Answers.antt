use Rattle.std.proofs.Common.{◌≡◌, ◌+◌, ◌≤◌, ◌++◌, ◌∷◌, [], ℕ, List, length, drop, get_or, ap, sym, ◌∙◌, arith}
use Rattle.std.proofs.lemmas.List.{at_drop_more, at_drop_all, append-nil}
use Rattle.cet_elf.specs.declared.object.Symbol.{Symbol}
use Rattle.cet_asm.specs.Whole.{first_uses}
use Rattle.cet_asm.proofs.symbols.Symbols.mention_all.Goals as goal

pub loop-name-preserved : goal.loop-name-preserved
loop-name-preserved c =
    let names = c.args.names.now in
    let i = c.loop-name.name-index in
    let list = c.loop-name.self.list in
    let rest = drop (i + 1) names in
    let F : List (List ℕ) → List Symbol = λ ns. list ++ first_uses list ns in
    let split : F (drop i names) ≡ F (get_or names i c.name-item.result ∷ rest) = at_drop_more F names i c.name-item.result c.loop-name-test.true in
    let here : F (get_or names i c.name-item.result ∷ rest) ≡ F (c.name-item.result ∷ rest) = ap (λ n. F (n ∷ rest)) (sym c.name-item.is) in
    record {
      list = λ n. c.in_ok-mention_new.ensures.list (c.loop-name.invariant.numbers n) rest ∙ (sym here ∙ (sym split ∙ c.loop-name.invariant.list n));
      numbers = λ n. c.in_ok-mention_new.ensures.numbers (c.loop-name.invariant.numbers n);
    }

pub returns : goal.returns
returns c =
    let names = c.args.names.now in
    let i = c.loop-name.name-index in
    let list = c.loop-name.self.list in
    let all : length names ≤ i = omega arith in
    let none : first_uses list (drop i names) ≡ [] = at_drop_all (λ (ns : List (List ℕ)). first_uses list ns) names i all in
    record {
      list = λ n. sym (append-nil list) ∙ (ap (λ (t : List Symbol). list ++ t) (sym none) ∙ c.loop-name.invariant.list n);
      numbers = c.loop-name.invariant.numbers;
    }
