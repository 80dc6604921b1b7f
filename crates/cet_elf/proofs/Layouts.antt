-- Sections that are added one after another.
use Rattle.std.proofs.Common.{◌≡◌, ℕ, ◌+◌, ◌<◌, List, [], ◌∷◌, ◌++◌, length, map, get_or, take, refl, sym, ap, subst, ◌∙◌, suc, add-zero, arith}
use Rattle.std.specs.List.{flat_map, enumerate_from}
use Rattle.cet_elf.specs.declared.object.Section.{Section}
use Rattle.std.proofs.lemmas.List.{length-take-le, take_more, append_assoc, append-nil, length-append, map-append}
use Rattle.std.proofs.lemmas.List.Concat.{flat_map-append}
use Rattle.cet_elf.specs.declared.layout.Layout.{Layout}
use Rattle.cet_elf.specs.Written.{relas_of, rela_parts, Part, Placed, placed, padded, ended, stored, section_header}
use Rattle.cet_elf.specs.Layout.{Adds}

-- the names of sections as they stand in a string table
abbrev pub part_names : List Part → List ℕ
part_names parts = flat_map ended (map (λ p. p.name) parts)

abbrev pub headers_from : ℕ → ℕ → List Part → List ℕ
headers_from place name_at parts = flat_map section_header (placed place name_at parts)

pub part_names-append : (ps qs : List Part) → part_names (ps ++ qs) ≡ part_names ps ++ part_names qs
part_names-append ps qs = ap (flat_map ended) (map-append (λ (p : Part). p.name) ps qs) ∙ flat_map-append ended (map (λ p. p.name) ps) (map (λ p. p.name) qs)

pub stored-append : (ps qs : List Part) → stored (ps ++ qs) ≡ stored ps ++ stored qs
stored-append ps qs = flat_map-append (λ (p : Part). padded p.content) ps qs

pub placed-append : (place name_at : ℕ) (ps qs : List Part) → placed place name_at (ps ++ qs) ≡ placed place name_at ps ++ placed (place + length (stored ps)) (name_at + length (part_names ps)) qs
placed-append place name_at [] qs = rw (add-zero place, add-zero name_at) refl
placed-append place name_at (p ∷ ps) qs =
    let next = place + length (padded p.content) in
    let name = name_at + length (ended p.name) in
    let at : next + length (stored ps) ≡ place + length (stored (p ∷ ps)) = omega (arith, length-append (padded p.content) (stored ps)) in
    let named : name + length (part_names ps) ≡ name_at + length (part_names (p ∷ ps)) = omega (arith, length-append (ended p.name) (part_names ps)) in
    ap (λ (r : List Placed). record { part = p; place = place; name_at = name_at } ∷ r)
    (placed-append next name ps qs ∙ ap (λ (n : ℕ). placed next name ps ++ placed n (name + length (part_names ps)) qs) at
    ∙ ap (λ (n : ℕ). placed next name ps ++ placed (place + length (stored (p ∷ ps))) n qs) named)

two : (a b c x y : List ℕ) → b ≡ a ++ x → c ≡ b ++ y → c ≡ a ++ (x ++ y)
two a b c x y first second = second ∙ ap (λ (r : List ℕ). r ++ y) first ∙ append_assoc a x y

-- sections that are added after others
pub Adds-then : (a b c : Layout) (ps qs : List Part) → Adds a b ps → Adds b c qs → Adds a c (ps ++ qs)
Adds-then a b c ps qs first second =
    let place : length b.bytes.items ≡ length a.bytes.items + length (stored ps) = ap length first.bytes ∙ length-append a.bytes.items (stored ps) in
    let name_at : length b.names.items ≡ length a.names.items + length (part_names ps) = ap length first.names ∙ length-append a.names.items (part_names ps) in
    let from = length a.bytes.items in
    let named = length a.names.items in
    let whole : headers_from from named (ps ++ qs) ≡ headers_from from named ps ++ headers_from (from + length (stored ps)) (named + length (part_names ps)) qs =
    ap (flat_map section_header) (placed-append from named ps qs) ∙ flat_map-append section_header (placed from named ps) (placed (from + length (stored ps)) (named + length (part_names ps)) qs) in
    let moved : headers_from (length b.bytes.items) (length b.names.items) qs ≡ headers_from (from + length (stored ps)) (named + length (part_names ps)) qs =
    ap (λ (n : ℕ). headers_from n (length b.names.items) qs) place ∙ ap (λ (n : ℕ). headers_from (from + length (stored ps)) n qs) name_at in
    record {
      bytes = two _ _ _ (stored ps) (stored qs) first.bytes second.bytes ∙ ap (λ (r : List ℕ). a.bytes.items ++ r) (sym (stored-append ps qs));
      headers =
          two _ _ _ (headers_from from named ps) _ first.headers second.headers
          ∙ ap (λ (r : List ℕ). a.headers.items ++ (headers_from from named ps ++ r)) moved
          ∙ ap (λ (r : List ℕ). a.headers.items ++ r) (sym whole);
      names = two _ _ _ (part_names ps) (part_names qs) first.names second.names ∙ ap (λ (r : List ℕ). a.names.items ++ r) (sym (part_names-append ps qs));
    }

-- no section is added
pub Adds-none : (a : Layout) → Adds a a []
Adds-none a = record { bytes = sym (append-nil a.bytes.items); headers = sym (append-nil a.headers.items); names = sym (append-nil a.names.items) }

-- sections that are each made of an item of a list, one item on
pub Adds-map : {X : Type 0} (f : X → Part) (a b c : Layout) (xs : List X) (i : ℕ) (x : X) → i < length xs → x ≡ get_or xs i x
    → Adds a b (map f (take i xs)) → Adds b c (f x ∷ []) → Adds a c (map f (take (i + 1) xs))
Adds-map {X = X} f a b c xs i x lt is first second =
    let more : take (i + 1) xs ≡ take i xs ++ x ∷ [] = take_more xs i x lt ∙ ap (λ (y : X). take i xs ++ y ∷ []) (sym is) in
    subst (Adds a c) (sym (ap (map f) more ∙ map-append f (take i xs) (x ∷ []))) (Adds-then a b c (map f (take i xs)) (f x ∷ []) first second)

enumerate_from-append : {X : Type 0} (n : ℕ) (xs ys : List X) → enumerate_from n (xs ++ ys) ≡ enumerate_from n xs ++ enumerate_from (n + length xs) ys
enumerate_from-append n [] ys = rw (add-zero n) refl
enumerate_from-append {X = X} n (x ∷ xs) ys =
    let place : n + 1 + length xs ≡ n + suc (length xs) = omega arith in
    ap (λ (r : List (ℕ × X)). (n, x) ∷ r) (enumerate_from-append (n + 1) xs ys ∙ ap (λ (m : ℕ). enumerate_from (n + 1) xs ++ enumerate_from m ys) place)

pub Adds-relas : (symtab : ℕ) (a b c : Layout) (xs : List Section) (i : ℕ) (x : Section) → i < length xs → x ≡ get_or xs i x
    → Adds a b (rela_parts symtab (take i xs)) → Adds b c (relas_of symtab i x) → Adds a c (rela_parts symtab (take (i + 1) xs))
Adds-relas symtab a b c xs i x lt is first second =
    let more : take (i + 1) xs ≡ take i xs ++ x ∷ [] = take_more xs i x lt ∙ ap (λ (y : Section). take i xs ++ y ∷ []) (sym is) in
    let here : 0 + length (take i xs) ≡ i = omega (arith, length-take-le i xs) in
    let of = λ (s : ℕ × Section). relas_of symtab s.0 s.1 in
    let all : rela_parts symtab (take (i + 1) xs) ≡ rela_parts symtab (take i xs) ++ relas_of symtab i x =
    ap (rela_parts symtab) more ∙ ap (flat_map of) (enumerate_from-append 0 (take i xs) (x ∷ []))
    ∙ flat_map-append of (enumerate_from 0 (take i xs)) ((0 + length (take i xs), x) ∷ [])
    ∙ ap (λ (n : ℕ). rela_parts symtab (take i xs) ++ (relas_of symtab n x ++ [])) here
    ∙ ap (λ (r : List Part). rela_parts symtab (take i xs) ++ r) (append-nil (relas_of symtab i x)) in
    subst (Adds a c) (sym all) (Adds-then a b c (rela_parts symtab (take i xs)) (relas_of symtab i x) first second)
