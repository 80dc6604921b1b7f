-- The symbols of a file, and where the local ones end, one symbol on.
use Rattle.std.proofs.Common.{◌≡◌, ℕ, ◌+◌, ◌<◌, Bool, true, false, cond, List, [], ◌∷◌, ◌++◌, length, map, get_or, take, sym, ap, ◌∙◌, arith}
use Rattle.std.proofs.lemmas.List.{take_more, length-take-le, length-map, map-append}
use Rattle.cet_elf.specs.declared.exec.ExecSegment.{ExecSegment}
use Rattle.cet_elf.specs.declared.exec.ExecSymbol.{ExecSymbol}
use Rattle.cet_elf.specs.declared.object.Symbol.{Symbol}
use Rattle.cet_elf.specs.ObjectSymbols.{null_symbol}
use Rattle.cet_elf.specs.Written.{locals_end, is_local}
use Rattle.cet_elf.proofs.Locals.{locals_end-push}
use Rattle.cet_exec.specs.Written.{file_symbol}

pub symbols-more : (segments : List ExecSegment) (xs : List ExecSymbol) (i : ℕ) (s : ExecSymbol) → i < length xs → s ≡ get_or xs i s
    → map (file_symbol segments) (take (i + 1) xs) ≡ map (file_symbol segments) (take i xs) ++ file_symbol segments s ∷ []
symbols-more segments xs i s lt is =
    ap (map (file_symbol segments)) (take_more xs i s lt ∙ ap (λ (x : ExecSymbol). take i xs ++ x ∷ []) (sym is)) ∙ map-append (file_symbol segments) (take i xs) (s ∷ [])

-- the symbols of a file, the null one first
abbrev pub all_of : List ExecSegment → List ExecSymbol → List Symbol
all_of segments xs = null_symbol ∷ map (file_symbol segments) xs

locals-more : (segments : List ExecSegment) (xs : List ExecSymbol) (i : ℕ) (s : ExecSymbol) → i < length xs → s ≡ get_or xs i s
    → locals_end (all_of segments (take (i + 1) xs)) ≡ cond (is_local s.bind) (i + 2) (locals_end (all_of segments (take i xs)))
locals-more segments xs i s lt is =
    let front = all_of segments (take i xs) in
    let count : length front + 1 ≡ i + 2 = omega (arith, length-map (take i xs) (file_symbol segments), length-take-le i xs) in
    ap (λ (r : List Symbol). locals_end (null_symbol ∷ r)) (symbols-more segments xs i s lt is)
    ∙ locals_end-push front (file_symbol segments s)
    ∙ ap (λ (n : ℕ). cond (is_local s.bind) n (locals_end front)) count

pub locals-local : (segments : List ExecSegment) (xs : List ExecSymbol) (i : ℕ) (s : ExecSymbol) → i < length xs → s ≡ get_or xs i s → is_local s.bind ≡ true
    → i + 2 ≡ locals_end (all_of segments (take (i + 1) xs))
locals-local segments xs i s lt is local = sym (locals-more segments xs i s lt is ∙ ap (λ (b : Bool). cond b (i + 2) (locals_end (all_of segments (take i xs)))) local)

pub locals-other : (segments : List ExecSegment) (xs : List ExecSymbol) (i : ℕ) (s : ExecSymbol) → i < length xs → s ≡ get_or xs i s → is_local s.bind ≡ false
    → locals_end (all_of segments (take i xs)) ≡ locals_end (all_of segments (take (i + 1) xs))
locals-other segments xs i s lt is other = sym (locals-more segments xs i s lt is ∙ ap (λ (b : Bool). cond b (i + 2) (locals_end (all_of segments (take i xs)))) other)
