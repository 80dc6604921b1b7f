-- Names with symbols, and the numbers of symbols.
use Rattle.std.proofs.Common.{◌≡◌, ℕ, ◌+◌, Bool, true, false, cond, ◌||◌, List, [], ◌∷◌, ◌++◌, length, map, Option, Some, None, is_some, refl, ap, sym, ◌∙◌, arith, append_assoc}
use Rattle.std.specs.Option.{option_or}
use Rattle.std.specs.List.{position_from}
use Rattle.std.specs.Str.{bytes_eq}
use Rattle.std.proofs.lemmas.List.{map-append, length-map}
use Rattle.std.proofs.lemmas.List.Folds.{list_any-append}
use Rattle.cet_elf.specs.declared.object.Symbol.{Symbol}
use Rattle.cet_asm.specs.Assembled.{is_among, each_once, undefined_symbol}
use Rattle.cet_asm.specs.Whole.{names_behind, numbers_agree, first_uses}
use Rattle.cet_asm.proofs.Lists.{bytes_eq-comm, position_from-push, found-any, any-same}

-- what is there once does not matter beyond which names were seen
pub each_once-same : (a b names : List (List ℕ)) → ((name : List ℕ) → is_among name a ≡ is_among name b) → each_once a names ≡ each_once b names
each_once-same a b [] same = refl
each_once-same a b (n ∷ names) same =
    let more : each_once (n ∷ a) names ≡ each_once (n ∷ b) names = each_once-same (n ∷ a) (n ∷ b) names (λ name. ap (λ (x : Bool). bytes_eq n name || x) (same name)) in
    let less : each_once a names ≡ each_once b names = each_once-same a b names same in
    let seen : is_among n a ≡ is_among n b = same n in
    rw (seen, more, less) refl

or_none : (a : Bool) → (a || false) ≡ a
or_none true = refl
or_none false = refl

or_turn : (a b : Bool) → (a || b) ≡ (b || a)
or_turn true true = refl
or_turn true false = refl
or_turn false true = refl
or_turn false false = refl

among-push : (n name : List ℕ) (seen : List (List ℕ)) → is_among name (n ∷ seen) ≡ is_among name (seen ++ n ∷ [])
among-push n name seen =
    let whole : is_among name (seen ++ n ∷ []) ≡ (is_among name seen || (bytes_eq n name || false)) = list_any-append (λ other. bytes_eq other name) seen (n ∷ []) in
    or_turn (bytes_eq n name) (is_among name seen) ∙ (ap (λ (x : Bool). is_among name seen || x) (sym (or_none (bytes_eq n name))) ∙ sym whole)

-- a name has a number just where it is among the names behind entry 0
pub numbered-among : (numbers : List ℕ → Option ℕ) (list : List Symbol) (name : List ℕ) → numbers_agree numbers list → is_some (numbers name) ≡ is_among name (names_behind list)
numbered-among numbers [] name agree = absurd agree
numbered-among numbers (s ∷ ss) name agree =
    ap (λ (o : Option ℕ). is_some o) (agree name) ∙ (found-any (bytes_eq name) 1 (map (λ t. t.name) ss) ∙ any-same (bytes_eq name) (λ other. bytes_eq other name) (map (λ t. t.name) ss) (bytes_eq-comm name))

names_behind-push : (s x : Symbol) (ss : List Symbol) → names_behind ((s ∷ ss) ++ x ∷ []) ≡ names_behind (s ∷ ss) ++ x.name ∷ []
names_behind-push s x ss = map-append (λ t. t.name) ss (x ∷ [])

-- a symbol more
pub numbered-push : (old new : List ℕ → Option ℕ) (list : List Symbol) (x : Symbol) (n : ℕ) → n ≡ length list
    → ((name : List ℕ) → new name ≡ option_or (old name) (cond (bytes_eq x.name name) (Some n) None)) → numbers_agree old list → numbers_agree new (list ++ x ∷ [])
numbered-push old new [] x n is given agree = absurd agree
numbered-push old new (s ∷ ss) x n is given agree = λ name.
    let names = map (λ t. t.name) ss in
    let grown : map (λ t. t.name) (ss ++ x ∷ []) ≡ names ++ x.name ∷ [] = map-append (λ t. t.name) ss (x ∷ []) in
    let count : n ≡ 1 + length names = omega (arith, length-map ss (λ t. t.name)) in
    let found : position_from (bytes_eq name) 1 (names ++ x.name ∷ []) ≡ option_or (position_from (bytes_eq name) 1 names) (cond (bytes_eq name x.name) (Some n) None) =
    position_from-push (bytes_eq name) 1 n x.name names count in
    let turned : bytes_eq x.name name ≡ bytes_eq name x.name = bytes_eq-comm x.name name in
    given name ∙ (rw (agree name, turned, grown, found) refl)

-- a name without a symbol
pub first_use : (numbers : List ℕ → Option ℕ) (list : List Symbol) (name : List ℕ) (names : List (List ℕ)) → numbers_agree numbers list → numbers name ≡ None
    → list ++ first_uses list (name ∷ names) ≡ (list ++ undefined_symbol name ∷ []) ++ first_uses (list ++ undefined_symbol name ∷ []) names
first_use numbers [] name names agree none = absurd agree
first_use numbers (s ∷ ss) name names agree none =
    let seen = names_behind (s ∷ ss) in
    let out : is_among name seen ≡ false = sym (numbered-among numbers (s ∷ ss) name agree) ∙ ap (λ (o : Option ℕ). is_some o) none in
    let same : each_once (name ∷ seen) names ≡ each_once (seen ++ name ∷ []) names = each_once-same (name ∷ seen) (seen ++ name ∷ []) names (λ other. among-push name other seen) in
    let grown : names_behind ((s ∷ ss) ++ undefined_symbol name ∷ []) ≡ seen ++ name ∷ [] = names_behind-push s (undefined_symbol name) ss in
    let u = undefined_symbol name in
    let rest = first_uses ((s ∷ ss) ++ u ∷ []) names in
    let here : first_uses (s ∷ ss) (name ∷ names) ≡ u ∷ map undefined_symbol (each_once (name ∷ seen) names) = rw out refl in
    let there : rest ≡ map undefined_symbol (each_once (seen ++ name ∷ []) names) = ap (λ (n : List (List ℕ)). map undefined_symbol (each_once n names)) grown in
    let joined : first_uses (s ∷ ss) (name ∷ names) ≡ u ∷ rest =
    here ∙ ap (λ (n : List (List ℕ)). u ∷ map undefined_symbol n) same ∙ ap (λ (t : List Symbol). u ∷ t) (sym there) in
    ap (λ (t : List Symbol). (s ∷ ss) ++ t) joined ∙ sym (append_assoc (s ∷ ss) (u ∷ []) rest)

-- a name that has one
pub later_use : (numbers : List ℕ → Option ℕ) (list : List Symbol) (name : List ℕ) (names : List (List ℕ)) (number : ℕ) → numbers_agree numbers list → numbers name ≡ Some number
    → first_uses list (name ∷ names) ≡ first_uses list names
later_use numbers list name names number agree found =
    let in_it : is_among name (names_behind list) ≡ true = sym (numbered-among numbers list name agree) ∙ ap (λ (o : Option ℕ). is_some o) found in
    rw in_it refl
