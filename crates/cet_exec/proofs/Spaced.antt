-- Pieces, sections and program headers that stand one after another, and more of them behind those.
use Rattle.std.proofs.Common.{◌≡◌, ℕ, ◌+◌, Bool, List, [], ◌∷◌, ◌++◌, length, replicate, refl, sym, ap, ◌∙◌, arith}
use Rattle.std.specs.List.{flat_map}
use Rattle.std.proofs.lemmas.List.{append_assoc, length-append, length-replicate}
use Rattle.cet_elf.specs.declared.exec.ExecSegment.{ExecSegment}
use Rattle.cet_elf.specs.Written.{Part, Placed, ended}
use Rattle.cet_exec.specs.declared.programs.ProgramHeader.{ProgramHeader}
use Rattle.cet_exec.specs.Written.{gap, aligned, spaced, Laid, laid, contents, load, loads, bytes_of, segment_name, segment_part, segment_parts, laid_names, named}

-- where the next piece begins to be looked for
abbrev pub after : ℕ → ℕ → List (List ℕ) → ℕ
after align end pieces = end + length (spaced align end pieces)

after-cons : (align end : ℕ) (x : List ℕ) (xs : List (List ℕ)) → after align (aligned align end + length x) xs ≡ after align end (x ∷ xs)
after-cons align end x xs = go (gap align end) (spaced align (aligned align end + length x) xs)
  where
    go : (g : ℕ) (rest : List ℕ) → end + g + length x + length rest ≡ end + length ((replicate g 0 ++ x) ++ rest)
    go g rest = omega (arith, length-append (replicate g 0 ++ x) rest, length-append (replicate g 0) x, length-replicate {A = ℕ} g 0)

none-after : (end : ℕ) → end ≡ end + 0
none-after end = omega arith

pub spaced-append : (align end : ℕ) (xs ys : List (List ℕ)) → spaced align end (xs ++ ys) ≡ spaced align end xs ++ spaced align (after align end xs) ys
spaced-append align end [] ys = ap (λ (n : ℕ). spaced align n ys) (none-after end)
spaced-append align end (x ∷ xs) ys =
    let next = aligned align end + length x in
    let front = replicate (gap align end) 0 ++ x in
    ap (λ (r : List ℕ). front ++ r) (spaced-append align next xs ys ∙ ap (λ (n : ℕ). spaced align next xs ++ spaced align n ys) (after-cons align end x xs))
    ∙ sym (append_assoc front (spaced align next xs) (spaced align (after align end (x ∷ xs)) ys))

pub laid-append : (align end : ℕ) (ps qs : List Part) → laid align end (ps ++ qs) ≡ laid align end ps ++ laid align (after align end (contents ps)) qs
laid-append align end [] qs = ap (λ (n : ℕ). laid align n qs) (none-after end)
laid-append align end (p ∷ ps) qs =
    let next = aligned align end + length p.content in
    ap (λ (r : List Laid). record { part = p; place = aligned align end } ∷ r)
    (laid-append align next ps qs ∙ ap (λ (n : ℕ). laid align next ps ++ laid align n qs) (after-cons align end p.content (contents ps)))

pub loads-append : (end : ℕ) (xs ys : List ExecSegment) → loads end (xs ++ ys) ≡ loads end xs ++ loads (after 4096 end (bytes_of xs)) ys
loads-append end [] ys = ap (λ (n : ℕ). loads n ys) (none-after end)
loads-append end (x ∷ xs) ys =
    let next = aligned 4096 end + length x.bytes in
    ap (λ (r : List ProgramHeader). load x (aligned 4096 end) ∷ r)
    (loads-append next xs ys ∙ ap (λ (n : ℕ). loads next xs ++ loads n ys) (after-cons 4096 end x.bytes (bytes_of xs)))

pub segment_parts-append : (linked : Bool) (number : ℕ) (xs ys : List ExecSegment) → segment_parts linked number (xs ++ ys) ≡ segment_parts linked number xs ++ segment_parts linked (number + length xs) ys
segment_parts-append linked number [] ys = ap (λ (n : ℕ). segment_parts linked n ys) (none-after number)
segment_parts-append linked number (x ∷ xs) ys =
    let last : number + 1 + length xs ≡ number + length (x ∷ xs) = omega arith in
    ap (λ (r : List Part). segment_part (segment_name linked number x.flags) x ∷ r)
    (segment_parts-append linked (number + 1) xs ys ∙ ap (λ (n : ℕ). segment_parts linked (number + 1) xs ++ segment_parts linked n ys) last)

pub contents-segments : (linked : Bool) (number : ℕ) (xs : List ExecSegment) → contents (segment_parts linked number xs) ≡ bytes_of xs
contents-segments linked number [] = refl
contents-segments linked number (x ∷ xs) = ap (λ (r : List (List ℕ)). x.bytes ∷ r) (contents-segments linked (number + 1) xs)

-- the names of sections as they stand in a string table
abbrev pub names_of : List Laid → List ℕ
names_of sections = flat_map ended (laid_names sections)

pub names_of-append : (ls ms : List Laid) → names_of (ls ++ ms) ≡ names_of ls ++ names_of ms
names_of-append [] ms = refl
names_of-append (l ∷ ls) ms =
    ap (λ (r : List ℕ). ended l.part.name ++ r) (names_of-append ls ms) ∙ sym (append_assoc (ended l.part.name) (names_of ls) (names_of ms))

pub named-append : (at : ℕ) (ls ms : List Laid) → named at (ls ++ ms) ≡ named at ls ++ named (at + length (names_of ls)) ms
named-append at [] ms = ap (λ (n : ℕ). named n ms) (none-after at)
named-append at (l ∷ ls) ms =
    let next = at + length (ended l.part.name) in
    let last : next + length (names_of ls) ≡ at + length (names_of (l ∷ ls)) = omega (arith, length-append (ended l.part.name) (names_of ls)) in
    ap (λ (r : List Placed). record { part = l.part; place = l.place; name_at = at } ∷ r)
    (named-append next ls ms ∙ ap (λ (n : ℕ). named next ls ++ named n ms) last)
