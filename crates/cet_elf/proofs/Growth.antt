-- The tables of the writer, one entry on.
use Rattle.std.proofs.Common.{◌≡◌, ℕ, ◌+◌, ◌<◌, List, [], ◌∷◌, ◌++◌, length, map, get_or, take, sym, ap, ◌∙◌, arith}
use Rattle.std.specs.List.{flat_map}
use Rattle.std.proofs.lemmas.List.{take_more, append_assoc, append-nil, length-append, map-append}
use Rattle.std.proofs.lemmas.List.Concat.{flat_map-append}
use Rattle.cet_elf.specs.declared.object.Symbol.{Symbol}
use Rattle.cet_elf.specs.Written.{symbol_bytes, symbol_entries, ended}

-- the names of symbols as they stand in a string table
abbrev pub names_of : List Symbol → List ℕ
names_of symbols = flat_map ended (map (λ s. s.name) symbols)

pub names_of-push : (xs : List Symbol) (s : Symbol) → names_of (xs ++ s ∷ []) ≡ names_of xs ++ ended s.name
names_of-push xs s =
    ap (flat_map ended) (map-append (λ (x : Symbol). x.name) xs (s ∷ []))
    ∙ flat_map-append ended (map (λ x. x.name) xs) (s.name ∷ [])
    ∙ ap (λ (r : List ℕ). names_of xs ++ r) (append-nil (ended s.name))

pub symbol_entries-push : (at : ℕ) (xs : List Symbol) (s : Symbol) → symbol_entries at (xs ++ s ∷ []) ≡ symbol_entries at xs ++ symbol_bytes (at + length (names_of xs)) s
symbol_entries-push at [] s = append-nil (symbol_bytes at s) ∙ ap (λ (n : ℕ). symbol_bytes n s) (omega arith)
symbol_entries-push at (x ∷ xs) s =
    let next = at + length (ended x.name) in
    let place : next + length (names_of xs) ≡ at + length (names_of (x ∷ xs)) = omega (arith, length-append (ended x.name) (names_of xs)) in
    ap (λ (r : List ℕ). symbol_bytes at x ++ r) (symbol_entries-push next xs s ∙ ap (λ (n : ℕ). symbol_entries next xs ++ symbol_bytes n s) place)
    ∙ sym (append_assoc (symbol_bytes at x) (symbol_entries next xs) (symbol_bytes (at + length (names_of (x ∷ xs))) s))

-- a list that has grown by what a function gives of the first i items grows by what it gives of item i
pub grows : {X : Type 0} (f : List X → List ℕ) (g : X → List ℕ) (old out new : List ℕ) (xs : List X) (i : ℕ) (x : X)
    → ((x : X) → f (take i xs ++ x ∷ []) ≡ f (take i xs) ++ g x)
    → i < length xs → x ≡ get_or xs i x → out ≡ old ++ f (take i xs) → new ≡ out ++ g x → new ≡ old ++ f (take (i + 1) xs)
grows {X = X} f g old out new xs i x push lt is so_far added =
    let more : take (i + 1) xs ≡ take i xs ++ x ∷ [] = take_more xs i x lt ∙ ap (λ (y : X). take i xs ++ y ∷ []) (sym is) in
    added ∙ ap (λ (o : List ℕ). o ++ g x) so_far ∙ append_assoc old (f (take i xs)) (g x)
    ∙ ap (λ (r : List ℕ). old ++ r) (sym (push x) ∙ sym (ap f more))
