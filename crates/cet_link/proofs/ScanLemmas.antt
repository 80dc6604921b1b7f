-- Symbols that are gone through one after another, behind those before.
use Rattle.std.proofs.Common.{◌≡◌, ℕ, ◌+◌, ◌<◌, List, [], ◌∷◌, ◌++◌, length, get_or, take, drop, refl, sym, ap, subst, ◌∙◌, append_assoc, add-zero, arith}
use Rattle.std.proofs.lemmas.List.{append-nil, map-append, take_more, take-append-drop, length-take-le}
use Rattle.std.specs.List.{flat_map, enumerate_from}
use Rattle.cet_elf.specs.declared.object.Object.{Object}
use Rattle.cet_elf.specs.declared.object.Symbol.{Symbol}
use Rattle.cet_link.specs.declared.error.LinkError.{LinkError}
use Rattle.cet_link.specs.declared.names.Names.{Names}
use Rattle.cet_link.specs.First.{IsFirst}
use Rattle.cet_link.specs.Inputs.{Met, met_in, symbols_of, symbols}
use Rattle.cet_link.specs.Faults.{group_faults, common_faults, duplicate_faults, symbol_faults, input_faults}
use Rattle.cet_link.specs.Known.{AreNames}
use Rattle.cet_link.proofs.LoopLemmas.{each_more}
use Rattle.cet_link.proofs.FaultLemmas.{IsFirst-front, IsFirst-back, none-append}

pub symbol_faults-append : (before xs ys : List Met) → symbol_faults before (xs ++ ys) ≡ symbol_faults before xs ++ symbol_faults (before ++ xs) ys
symbol_faults-append before [] ys = rw append-nil refl
symbol_faults-append before (x ∷ xs) ys =
    let after = before ++ x ∷ [] in
    let moved : after ++ xs ≡ before ++ (x ∷ xs) = append_assoc before (x ∷ []) xs in
    let later = symbol_faults-append after xs ys in
    let more : symbol_faults after (xs ++ ys) ≡ symbol_faults after xs ++ symbol_faults (before ++ (x ∷ xs)) ys = rw moved at later in
    ap (λ zs. (common_faults x ++ duplicate_faults before x) ++ zs) more ∙ sym (append_assoc (common_faults x ++ duplicate_faults before x) (symbol_faults after xs) _)

-- the symbols of an input up to one, and it
pub met_in-more : (input : ℕ) (ss : List Symbol) (i : ℕ) (s : Symbol) → i < length ss → s ≡ get_or ss i s → met_in input (take (i + 1) ss) ≡ met_in input (take i ss) ++ record { input = input; symbol = s } ∷ []
met_in-more input ss i s lt is =
    let more : take (i + 1) ss ≡ take i ss ++ s ∷ [] = take_more ss i s lt ∙ ap (λ x. take i ss ++ x ∷ []) (sym is) in
    ap (met_in input) more ∙ map-append (λ x. record { input = input; symbol = x }) (take i ss) (s ∷ [])

-- a symbol without a fault, behind symbols without one
pub scanned_more : (before : List Met) (input : ℕ) (ss : List Symbol) (i : ℕ) (s : Symbol) (new : Names) → i < length ss → s ≡ get_or ss i s
    → symbol_faults before (met_in input (take i ss)) ≡ []
    → (symbol_faults (before ++ met_in input (take i ss)) (record { input = input; symbol = s } ∷ []) ≡ []) × AreNames ((before ++ met_in input (take i ss)) ++ record { input = input; symbol = s } ∷ []) new
    → (symbol_faults before (met_in input (take (i + 1) ss)) ≡ []) × AreNames (before ++ met_in input (take (i + 1) ss)) new
scanned_more before input ss i s new lt is none one =
    let here : List Met = record { input = input; symbol = s } ∷ [] in
    let there = met_in input (take i ss) in
    let more = met_in-more input ss i s lt is in (
      ap (symbol_faults before) more ∙ symbol_faults-append before there here ∙ none-append _ _ none one.0,
      subst (λ m. AreNames m new) (append_assoc before there here ∙ ap (λ m. before ++ m) (sym more)) one.1,
    )

-- the fault of a symbol behind symbols without one is the first
pub scanned_first : (e : LinkError) (before : List Met) (input : ℕ) (ss : List Symbol) (i : ℕ) (s : Symbol) → i < length ss → s ≡ get_or ss i s
    → symbol_faults before (met_in input (take i ss)) ≡ []
    → IsFirst e (symbol_faults (before ++ met_in input (take i ss)) (record { input = input; symbol = s } ∷ []))
    → IsFirst e (symbol_faults before (met_in input ss))
scanned_first e before input ss i s lt is none one =
    let here : List Met = record { input = input; symbol = s } ∷ [] in
    let there = met_in input (take i ss) in
    let rest = met_in input (drop (i + 1) ss) in
    let more = met_in-more input ss i s lt is in
    let whole : met_in input ss ≡ (there ++ here) ++ rest =
    ap (met_in input) (sym (take-append-drop (i + 1) ss)) ∙ map-append (λ x. record { input = input; symbol = x }) (take (i + 1) ss) (drop (i + 1) ss) ∙ ap (λ m. m ++ rest) more in
    let first = IsFirst-front e (symbol_faults before (there ++ here)) (symbol_faults (before ++ (there ++ here)) rest)
    (subst (IsFirst e) (sym (symbol_faults-append before there here)) (IsFirst-back e _ _ none one)) in
    subst (IsFirst e) (sym (ap (symbol_faults before) whole ∙ symbol_faults-append before (there ++ here) rest)) first

-- ---- inputs

abbrev symbols_from : ℕ → List Object → List Met
symbols_from n os = flat_map (λ i. symbols_of i.0 i.1) (enumerate_from n os)

pub symbols-more : (inputs : List Object) (i : ℕ) (o : Object) → i < length inputs → o ≡ get_or inputs i o → symbols (take (i + 1) inputs) ≡ symbols (take i inputs) ++ symbols_of i o
unfolding symbols
symbols-more inputs i o lt is = each_more (λ k. symbols_of k.0 k.1) inputs i o lt is

input_faults-append : (before : List Met) (n : ℕ) (xs ys : List Object) → input_faults before n (xs ++ ys) ≡ input_faults before n xs ++ input_faults (before ++ symbols_from n xs) (n + length xs) ys
input_faults-append before n [] ys = rw (append-nil, add-zero) refl
input_faults-append before n (x ∷ xs) ys =
    let here = group_faults n x ++ symbol_faults before (symbols_of n x) in
    let after = before ++ symbols_of n x in
    let moved : after ++ symbols_from (n + 1) xs ≡ before ++ symbols_from n (x ∷ xs) = append_assoc before (symbols_of n x) (symbols_from (n + 1) xs) in
    let count : (n + 1) + length xs ≡ n + length (x ∷ xs) = omega arith in
    ap (λ zs. here ++ zs) (input_faults-append after (n + 1) xs ys ∙ ap (λ b. input_faults after (n + 1) xs ++ input_faults b ((n + 1) + length xs) ys) moved
    ∙ ap (λ k. input_faults after (n + 1) xs ++ input_faults (before ++ symbols_from n (x ∷ xs)) k ys) count)
    ∙ sym (append_assoc here (input_faults after (n + 1) xs) _)

-- the faults of an input behind those before
abbrev pub faults_at : List Object → ℕ → Object → List LinkError
faults_at inputs i o = group_faults i o ++ symbol_faults (symbols (take i inputs)) (symbols_of i o)

input_faults-more : (inputs : List Object) (i : ℕ) (o : Object) → i < length inputs → o ≡ get_or inputs i o → input_faults [] 0 (take (i + 1) inputs) ≡ input_faults [] 0 (take i inputs) ++ faults_at inputs i o
unfolding symbols
input_faults-more inputs i o lt is =
    let more : take (i + 1) inputs ≡ take i inputs ++ o ∷ [] = take_more inputs i o lt ∙ ap (λ y. take i inputs ++ y ∷ []) (sym is) in
    let long : length (take i inputs) ≡ i = length-take-le i inputs (omega arith) in
    ap (input_faults [] 0) more ∙ input_faults-append [] 0 (take i inputs) (o ∷ [])
    ∙ ap (λ zs. input_faults [] 0 (take i inputs) ++ zs) (ap (λ k. input_faults (symbols_from 0 (take i inputs)) k (o ∷ [])) (omega (arith, long)) ∙ append-nil _)

-- an input without a fault, behind inputs without one
pub inputs_more : (inputs : List Object) (i : ℕ) (o : Object) (new : Names) → i < length inputs → o ≡ get_or inputs i o → input_faults [] 0 (take i inputs) ≡ [] → group_faults i o ≡ []
    → (symbol_faults (symbols (take i inputs)) (symbols_of i o) ≡ []) × AreNames (symbols (take i inputs) ++ symbols_of i o) new
    → (input_faults [] 0 (take (i + 1) inputs) ≡ []) × AreNames (symbols (take (i + 1) inputs)) new
inputs_more inputs i o new lt is none group one =
    (input_faults-more inputs i o lt is ∙ none-append _ _ none (none-append _ _ group one.0), subst (λ m. AreNames m new) (sym (symbols-more inputs i o lt is)) one.1)

-- the fault of an input behind inputs without one is the first
pub inputs_first : (e : LinkError) (inputs : List Object) (i : ℕ) (o : Object) → i < length inputs → o ≡ get_or inputs i o → input_faults [] 0 (take i inputs) ≡ []
    → IsFirst e (faults_at inputs i o) → IsFirst e (input_faults [] 0 inputs)
inputs_first e inputs i o lt is none one =
    let whole : input_faults [] 0 inputs ≡ input_faults [] 0 (take (i + 1) inputs) ++ input_faults (symbols_from 0 (take (i + 1) inputs)) (0 + length (take (i + 1) inputs)) (drop (i + 1) inputs) =
    ap (input_faults [] 0) (sym (take-append-drop (i + 1) inputs)) ∙ input_faults-append [] 0 (take (i + 1) inputs) (drop (i + 1) inputs) in
    subst (IsFirst e) (sym whole) (IsFirst-front e _ _ (subst (IsFirst e) (sym (input_faults-more inputs i o lt is)) (IsFirst-back e _ _ none one)))

pub symbols-none : symbols [] ≡ []
unfolding symbols
symbols-none = refl
