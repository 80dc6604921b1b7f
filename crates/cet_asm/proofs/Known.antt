-- What a map of names says after one name was met or defined.
use Rattle.std.proofs.Common.{◌≡◌, ℕ, ◌+◌, Bool, true, false, cond, ◌||◌, List, [], ◌∷◌, ◌++◌, length, refl, sym, ◌∙◌, ap, arith, append_assoc, Option, Some, None, is_some, option_and_then}
use Rattle.std.specs.Map.{update}
use Rattle.std.specs.Str.{bytes_eq}
use Rattle.std.proofs.lemmas.List.{append-nil}
use Rattle.cet_asm.specs.declared.names.Target.{Target}
use Rattle.cet_asm.specs.declared.names.Names.{Names}
use Rattle.cet_asm.specs.Assembled.{is_among, each_once}
use Rattle.cet_asm.specs.Names.{known_at, place_at, count_of}
use Rattle.cet_asm.specs.Placing.{IsMet, MeetsNames, DefinesMark}
use Rattle.cet_asm.proofs.Once.{is_among-append, same_text, each_once-one_more}

or_false : (b : Bool) → (b || false) ≡ b
or_false true = refl
or_false false = refl

or_assoc : (a b c : Bool) → ((a || b) || c) ≡ (a || (b || c))
or_assoc true b c = refl
or_assoc false b c = refl

or_comm : (a b : Bool) → (a || b) ≡ (b || a)
or_comm true true = refl
or_comm true false = refl
or_comm false true = refl
or_comm false false = refl

among_end : (q n : List ℕ) (d u : List (List ℕ)) → is_among q (d ++ (u ++ n ∷ [])) ≡ (is_among q (d ++ u) || bytes_eq n q)
among_end q n d u =
    is_among-append q d (u ++ n ∷ [])
    ∙ ap (λ b. is_among q d || b) (is_among-append q u (n ∷ []) ∙ ap (λ b. is_among q u || b) (or_false (bytes_eq n q)))
    ∙ sym (or_assoc (is_among q d) (is_among q u) (bytes_eq n q))
    ∙ ap (λ b. b || bytes_eq n q) (sym (is_among-append q d u))

among_middle : (q n : List ℕ) (d u : List (List ℕ)) → is_among q ((d ++ n ∷ []) ++ u) ≡ (is_among q (d ++ u) || bytes_eq n q)
among_middle q n d u =
    is_among-append q (d ++ n ∷ []) u
    ∙ ap (λ b. b || is_among q u) (is_among-append q d (n ∷ []) ∙ ap (λ b. is_among q d || b) (or_false (bytes_eq n q)))
    ∙ or_assoc (is_among q d) (bytes_eq n q) (is_among q u)
    ∙ ap (λ b. is_among q d || b) (or_comm (bytes_eq n q) (is_among q u))
    ∙ sym (or_assoc (is_among q d) (is_among q u) (bytes_eq n q))
    ∙ ap (λ b. b || bytes_eq n q) (sym (is_among-append q d u))

count_end : (n : List ℕ) (d u : List (List ℕ)) → length (each_once [] (d ++ (u ++ n ∷ []))) ≡ length (each_once [] (d ++ u)) + cond (is_among n (d ++ u)) 0 1
count_end n d u =
    ap (λ xs. length (each_once [] xs)) (sym (append_assoc d u (n ∷ [])))
    ∙ each_once-one_more n [] (d ++ u) []
    ∙ ap (λ xs. length (each_once [] xs) + cond (is_among n (d ++ u) || false) 0 1) (append-nil (d ++ u))
    ∙ ap (λ b. length (each_once [] (d ++ u)) + cond b 0 1) (or_false (is_among n (d ++ u)))

count_middle : (n : List ℕ) (d u : List (List ℕ)) → length (each_once [] ((d ++ n ∷ []) ++ u)) ≡ length (each_once [] (d ++ u)) + cond (is_among n (d ++ u)) 0 1
count_middle n d u =
    ap (λ xs. length (each_once [] xs)) (append_assoc d (n ∷ []) u)
    ∙ each_once-one_more n [] d u
    ∙ ap (λ b. length (each_once [] (d ++ u)) + cond b 0 1) (sym (is_among-append n d u))

-- the map after `w` was put at a name
abbrev pub Puts : Names → Names → List ℕ → Option Target → Type 0
Puts old new name w = (q : List ℕ) → known_at new q ≡ update bytes_eq (known_at old) name (Some w) q

abbrev pub CountsOne : Names → Names → List ℕ → Type 0
CountsOne old new name = count_of new ≡ count_of old + cond (is_some (known_at old name)) 0 1

some_put : (b : Bool) (w : Option Target) (o : Option (Option Target)) → is_some (cond b (Some w) o) ≡ (is_some o || b)
some_put true w None = refl
some_put true w (Some x) = refl
some_put false w None = refl
some_put false w (Some x) = refl

IsMet-end : (old new : Names) (name : List ℕ) (w : Option Target) → Puts old new name w → CountsOne old new name → (d u : List (List ℕ)) → IsMet d u old → IsMet d (u ++ name ∷ []) new
IsMet-end old new name w puts counts d u m = record {
  met = λ q. ap is_some (puts q) ∙ some_put (bytes_eq name q) w (known_at old q) ∙ ap (λ b. b || bytes_eq name q) (m.met q) ∙ sym (among_end q name d u);
  count = counts ∙ ap (λ n. n + cond (is_some (known_at old name)) 0 1) m.count ∙ ap (λ b. length (each_once [] (d ++ u)) + cond b 0 1) (m.met name) ∙ sym (count_end name d u);
}

IsMet-middle : (old new : Names) (name : List ℕ) (w : Option Target) → Puts old new name w → CountsOne old new name → (d u : List (List ℕ)) → IsMet d u old → IsMet (d ++ name ∷ []) u new
IsMet-middle old new name w puts counts d u m = record {
  met = λ q. ap is_some (puts q) ∙ some_put (bytes_eq name q) w (known_at old q) ∙ ap (λ b. b || bytes_eq name q) (m.met q) ∙ sym (among_middle q name d u);
  count = counts ∙ ap (λ n. n + cond (is_some (known_at old name)) 0 1) m.count ∙ ap (λ b. length (each_once [] (d ++ u)) + cond b 0 1) (m.met name) ∙ sym (count_middle name d u);
}

pub DefinesMark-put : (old new : Names) (name : List ℕ) (t : Target) → Puts old new name (Some t) → CountsOne old new name → DefinesMark old new (Some (name, t))
DefinesMark-put old new name t puts counts = record {
  places = λ q. ap (option_and_then (λ place. place)) (puts q) ∙ given (bytes_eq name q) (known_at old q);
  met = λ d u m. IsMet-middle old new name (Some t) puts counts d u m;
} where
  given : (b : Bool) (o : Option (Option Target)) → option_and_then (λ place. place) (cond b (Some (Some t)) o) ≡ cond b (Some t) (option_and_then (λ (place : Option Target). place) o)
  given true o = refl
  given false o = refl

pub MeetsNames-put : (old new : Names) (name : List ℕ) → is_some (known_at old name) ≡ false → Puts old new name None → CountsOne old new name → MeetsNames old new (name ∷ [])
MeetsNames-put old new name out puts counts = record {
  places = λ q. ap (option_and_then (λ place. place)) (puts q) ∙ by_name q (bytes_eq name q) refl;
  met = λ d u m. IsMet-end old new name None puts counts d u m;
} where
  none_there : (o : Option (Option Target)) → is_some o ≡ false → None ≡ option_and_then (λ (place : Option Target). place) o
  none_there None e = refl
  none_there (Some x) e = cc

  by_name : (q : List ℕ) (b : Bool) → bytes_eq name q ≡ b → option_and_then (λ place. place) (cond (bytes_eq name q) (Some None) (known_at old q)) ≡ place_at old q
  by_name q true e = rw e (let same = same_text name q e in rw (← same) (none_there (known_at old name) out))
  by_name q false e = rw e refl

-- a name that was met before
pub MeetsNames-again : (names : Names) (name : List ℕ) → is_some (known_at names name) ≡ true → MeetsNames names names (name ∷ [])
MeetsNames-again names name there = record {
  places = λ q. refl;
  met = λ d u m. record {
    met = λ q. m.met q ∙ more d u m q (bytes_eq name q) refl ∙ sym (among_end q name d u);
    count = m.count ∙ sym (count_end name d u ∙ ap (λ b. length (each_once [] (d ++ u)) + cond b 0 1) (sym (m.met name) ∙ there) ∙ omega arith);
  };
} where
  more : (d u : List (List ℕ)) → IsMet d u names → (q : List ℕ) (b : Bool) → bytes_eq name q ≡ b → is_among q (d ++ u) ≡ (is_among q (d ++ u) || bytes_eq name q)
  more d u m q true e = let same = same_text name q e in let there' : is_among q (d ++ u) ≡ true = sym (m.met q) ∙ rw (← same) there in rw there' refl
  more d u m q false e = rw e (sym (or_false _))

pub MeetsNames-none : (names : Names) → MeetsNames names names []
MeetsNames-none names = record {
  places = λ q. refl;
  met = λ d u m. rw append-nil m;
}

pub MeetsNames-more : (a b c : Names) (xs ys : List (List ℕ)) → MeetsNames a b xs → MeetsNames b c ys → MeetsNames a c (xs ++ ys)
MeetsNames-more a b c xs ys f g = record {
  places = λ q. g.places q ∙ f.places q;
  met = λ d u m. rw (← append_assoc) (g.met d (u ++ xs) (f.met d u m));
}

pub DefinesMark-none : (names : Names) → DefinesMark names names None
DefinesMark-none names = record {
  places = λ q. refl;
  met = λ d u m. rw append-nil m;
}
