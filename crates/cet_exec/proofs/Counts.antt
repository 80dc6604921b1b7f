-- How many symbols an executable with names of few bytes has.
use Rattle.std.proofs.Common.{◌≢◌, ℕ, ◌≤◌, List, [], ◌∷◌, length, All, arith, refl}
use Rattle.std.specs.List.{sum_by}
use Rattle.std.proofs.lemmas.List.Elements.{All-head, All-tail}
use Rattle.std.proofs.lemmas.List.Sums.{sum_by-cons}
use Rattle.cet_elf.specs.declared.exec.ExecSymbol.{ExecSymbol}
use Rattle.cet_exec.specs.Regular.{IsRegularSymbol}

some : (name : List ℕ) → name ≢ [] → 1 ≤ length name
some [] h = absurd (h refl)
some (c ∷ name) h = omega arith

pub few-symbols : (xs : List ExecSymbol) → All IsRegularSymbol xs → length xs ≤ sum_by (λ s. length s.name) xs
few-symbols [] h = omega arith
few-symbols (x ∷ xs) h =
    let first = All-head IsRegularSymbol x xs h in
    omega (arith, some x.name first.named, few-symbols xs (All-tail IsRegularSymbol x xs h), sum_by-cons (λ (s : ExecSymbol). length s.name) x xs)
