-- Where the local symbols end, one symbol on.
use Rattle.std.proofs.Common.{◌≡◌, ℕ, ◌+◌, ◌<◌, Bool, true, false, List, [], ◌∷◌, ◌++◌, length, get_or, take, refl, sym, ap, ◌∙◌, arith}
use Rattle.std.specs.Prelude.{if◌then◌else◌, nat_lt}
use Rattle.std.proofs.lemmas.List.{take_more, length-take-le}
use Rattle.cet_elf.specs.declared.object.Symbol.{Symbol}
use Rattle.cet_elf.specs.Written.{locals_end, is_local}

with_front : (b : Bool) (n m x d : ℕ) → n ≡ (if b then m + 1 else x) → (if nat_lt 0 n then n + 1 else d) ≡ (if b then m + 1 + 1 else (if nat_lt 0 x then x + 1 else d))
with_front true n m x d e = grind (arith, e)
with_front false n m x d e = grind (arith, e)

same_step : (b : Bool) (n x : ℕ) → (if b then n + 1 else x) ≡ (if b then n + 1 else x)
same_step b n x = refl

pub locals_end-push : (xs : List Symbol) (s : Symbol) → locals_end (xs ++ s ∷ []) ≡ (if is_local s.bind then length xs + 1 else locals_end xs)
locals_end-push [] s = refl
locals_end-push (x ∷ xs) s =
    with_front (is_local s.bind) (locals_end (xs ++ s ∷ [])) (length xs) (locals_end xs) (if is_local x.bind then 1 else 0) (locals_end-push xs s)
    ∙ ap (λ (n : ℕ). if is_local s.bind then n + 1 else locals_end (x ∷ xs)) (omega arith)

pub locals_end-more : (xs : List Symbol) (i : ℕ) (d : Symbol) → i < length xs → locals_end (take (i + 1) xs) ≡ (if is_local (get_or xs i d).bind then i + 1 else locals_end (take i xs))
locals_end-more xs i d lt =
    let step = locals_end-push (take i xs) (get_or xs i d) in
    let len : length (take i xs) ≡ i = omega (arith, length-take-le i xs) in
    ap locals_end (take_more xs i d lt) ∙ step ∙ ap (λ (n : ℕ). if is_local (get_or xs i d).bind then n + 1 else locals_end (take i xs)) len

at_local : (b : Bool) (n x y : ℕ) → b ≡ true → x ≡ (if b then n else y) → x ≡ n
at_local true n x y e h = h
at_local false n x y e h = absurd cc

at_other : (b : Bool) (n x y : ℕ) → b ≡ false → x ≡ (if b then n else y) → x ≡ y
at_other false n x y e h = h
at_other true n x y e h = absurd cc

pub locals_end-local : (xs : List Symbol) (i : ℕ) (s : Symbol) → i < length xs → s ≡ get_or xs i s → is_local s.bind ≡ true → locals_end (take (i + 1) xs) ≡ i + 1
locals_end-local xs i s lt is local =
    at_local (is_local (get_or xs i s).bind) (i + 1) (locals_end (take (i + 1) xs)) (locals_end (take i xs)) (sym (ap (λ (x : Symbol). is_local x.bind) is) ∙ local) (locals_end-more xs i s lt)

pub locals_end-other : (xs : List Symbol) (i : ℕ) (s : Symbol) → i < length xs → s ≡ get_or xs i s → is_local s.bind ≡ false → locals_end (take (i + 1) xs) ≡ locals_end (take i xs)
locals_end-other xs i s lt is other =
    at_other (is_local (get_or xs i s).bind) (i + 1) (locals_end (take (i + 1) xs)) (locals_end (take i xs)) (sym (ap (λ (x : Symbol). is_local x.bind) is) ∙ other) (locals_end-more xs i s lt)
