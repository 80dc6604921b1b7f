-- What is added to a layout, step by step.
use Rattle.std.proofs.Common.{◌≡◌, ℕ, ◌+◌, ◌<◌, Bool, List, [], ◌∷◌, ◌++◌, length, get_or, take, replicate, refl, sym, ap, subst, ◌∙◌, arith}
use Rattle.std.specs.List.{flat_map}
use Rattle.std.proofs.lemmas.List.{append_assoc, append-nil, length-append, length-take-le, take_more, map-append}
use Rattle.std.proofs.lemmas.List.Concat.{flat_map-append}
use Rattle.cet_elf.specs.declared.exec.ExecSegment.{ExecSegment}
use Rattle.cet_elf.specs.Written.{Part, section_header}
use Rattle.cet_exec.specs.declared.layout.Layout.{Layout}
use Rattle.cet_exec.specs.declared.programs.ProgramHeader.{ProgramHeader}
use Rattle.cet_exec.specs.Written.{gap, aligned, spaced, Laid, laid, contents, load, loads, bytes_of, segment_name, segment_part, segment_parts, named}
use Rattle.cet_exec.specs.Layout.{Adds, AddsSegment, AddsSegments, AddsPart, AddsParts}
use Rattle.cet_exec.proofs.Spaced.{after, names_of, spaced-append, laid-append, loads-append, segment_parts-append, contents-segments, names_of-append, named-append}

two : {X : Type 0} (a b c x y : List X) → b ≡ a ++ x → c ≡ b ++ y → c ≡ a ++ (x ++ y)
two {X = X} a b c x y first second = second ∙ ap (λ (r : List X). r ++ y) first ∙ append_assoc a x y

abbrev headers_from : ℕ → List Laid → List ℕ
headers_from at ls = flat_map section_header (named at ls)

-- what is added after other things
pub Adds-then : (a b c : Layout) (x y : List ℕ) (ps qs : List ProgramHeader) (ls ms : List Laid) → Adds a b x ps ls → Adds b c y qs ms → Adds a c (x ++ y) (ps ++ qs) (ls ++ ms)
Adds-then a b c x y ps qs ls ms first second =
    let from = length a.names.items in
    let at : length b.names.items ≡ from + length (names_of ls) = ap length first.names ∙ length-append a.names.items (names_of ls) in
    let whole : headers_from from (ls ++ ms) ≡ headers_from from ls ++ headers_from (from + length (names_of ls)) ms =
    ap (flat_map section_header) (named-append from ls ms) ∙ flat_map-append section_header (named from ls) (named (from + length (names_of ls)) ms) in
    let moved = ap (λ (n : ℕ). headers_from n ms) at in
    record {
      bytes_added = two a.bytes.items b.bytes.items c.bytes.items x y first.bytes_added second.bytes_added;
      programs_added = two a.programs.items b.programs.items c.programs.items ps qs first.programs_added second.programs_added;
      headers =
          two a.headers.items b.headers.items c.headers.items (headers_from from ls) (headers_from (length b.names.items) ms) first.headers second.headers
          ∙ ap (λ (r : List ℕ). a.headers.items ++ (headers_from from ls ++ r)) moved
          ∙ ap (λ (r : List ℕ). a.headers.items ++ r) (sym whole);
      names =
          two a.names.items b.names.items c.names.items (names_of ls) (names_of ms) first.names second.names ∙ ap (λ (r : List ℕ). a.names.items ++ r) (sym (names_of-append ls ms));
    }

pub Adds-as : (a b : Layout) (x y : List ℕ) (ps qs : List ProgramHeader) (ls ms : List Laid) → x ≡ y → ps ≡ qs → ls ≡ ms → Adds a b x ps ls → Adds a b y qs ms
Adds-as a b x y ps qs ls ms ex ep el h =
    subst (λ (r : List ℕ). Adds a b r qs ms) ex (subst (λ (r : List ProgramHeader). Adds a b x r ms) ep (subst (λ (r : List Laid). Adds a b x ps r) el h))

-- a piece, a program header and a section are added one after another
pub Adds-all : (a b c d : Layout) (x : List ℕ) (ps : List ProgramHeader) (ls : List Laid) → Adds a b x [] [] → Adds b c [] ps [] → Adds c d [] [] ls → Adds a d x ps ls
Adds-all a b c d x ps ls first second third =
    Adds-as a d _ _ _ _ _ _ (append-nil x) (append-nil ps) refl (Adds-then a b d _ _ _ _ _ _ first (Adds-then b c d _ _ _ _ _ _ second third))

pub Adds-both : (a b c : Layout) (x : List ℕ) (ls : List Laid) → Adds a b x [] [] → Adds b c [] [] ls → Adds a c x [] ls
Adds-both a b c x ls first second = Adds-as a c _ _ _ _ _ _ (append-nil x) refl refl (Adds-then a b c _ _ _ _ _ _ first second)

-- one more section that is in no segment
pub AddsParts-one : (a b : Layout) (p : Part) → AddsPart a b p → AddsParts a b (p ∷ [])
AddsParts-one a b p h = Adds-as a b _ _ _ _ _ _ (sym (append-nil (replicate (gap 8 (length a.bytes.items)) 0 ++ p.content))) refl refl h

pub AddsParts-more : (a b c : Layout) (ps : List Part) (p : Part) → AddsParts a b ps → AddsPart b c p → AddsParts a c (ps ++ p ∷ [])
AddsParts-more a b c ps p first second =
    let n = length a.bytes.items in
    let m = length b.bytes.items in
    let end : m ≡ after 8 n (contents ps) = ap length first.bytes_added ∙ length-append a.bytes.items (spaced 8 n (contents ps)) in
    let bytes : spaced 8 n (contents ps) ++ (replicate (gap 8 m) 0 ++ p.content) ≡ spaced 8 n (contents (ps ++ p ∷ [])) =
    ap (λ (r : List ℕ). spaced 8 n (contents ps) ++ r) (sym (append-nil (replicate (gap 8 m) 0 ++ p.content)))
    ∙ ap (λ (k : ℕ). spaced 8 n (contents ps) ++ spaced 8 k (p.content ∷ [])) end
    ∙ sym (spaced-append 8 n (contents ps) (p.content ∷ []))
    ∙ ap (spaced 8 n) (sym (map-append (λ (q : Part). q.content) ps (p ∷ []))) in
    let sections : laid 8 n ps ++ laid 8 m (p ∷ []) ≡ laid 8 n (ps ++ p ∷ []) =
    ap (λ (k : ℕ). laid 8 n ps ++ laid 8 k (p ∷ [])) end ∙ sym (laid-append 8 n ps (p ∷ [])) in
    Adds-as a c _ _ _ _ _ _ bytes refl sections (Adds-then a b c _ _ _ _ _ _ first second)

pub Adds-segment : (linked : Bool) (a b c : Layout) (xs : List ExecSegment) (s : ExecSegment) → AddsSegments linked a b xs → AddsSegment linked (length xs) b c s → AddsSegments linked a c (xs ++ s ∷ [])
Adds-segment linked a b c xs s first second =
    let n = length a.bytes.items in
    let m = length b.bytes.items in
    let end : m ≡ after 4096 n (bytes_of xs) = ap length first.bytes_added ∙ length-append a.bytes.items (spaced 4096 n (bytes_of xs)) in
    let one : Laid = record { part = segment_part (segment_name linked (length xs) s.flags) s; place = aligned 4096 m } in
    let bytes : spaced 4096 n (bytes_of xs) ++ (replicate (gap 4096 m) 0 ++ s.bytes) ≡ spaced 4096 n (bytes_of (xs ++ s ∷ [])) =
    ap (λ (r : List ℕ). spaced 4096 n (bytes_of xs) ++ r) (sym (append-nil (replicate (gap 4096 m) 0 ++ s.bytes)))
    ∙ ap (λ (k : ℕ). spaced 4096 n (bytes_of xs) ++ spaced 4096 k (s.bytes ∷ [])) end
    ∙ sym (spaced-append 4096 n (bytes_of xs) (s.bytes ∷ []))
    ∙ ap (spaced 4096 n) (sym (map-append (λ (t : ExecSegment). t.bytes) xs (s ∷ []))) in
    let programs : loads n xs ++ load s (aligned 4096 m) ∷ [] ≡ loads n (xs ++ s ∷ []) =
    ap (λ (k : ℕ). loads n xs ++ loads k (s ∷ [])) end ∙ sym (loads-append n xs (s ∷ [])) in
    let part = segment_part (segment_name linked (length xs) s.flags) s in
    let parts = segment_parts linked 0 xs in
    let number : length xs ≡ 0 + length xs = omega arith in
    let sections : laid 4096 n parts ++ one ∷ [] ≡ laid 4096 n (segment_parts linked 0 (xs ++ s ∷ [])) =
    ap (λ (k : ℕ). laid 4096 n parts ++ laid 4096 k (part ∷ [])) end
    ∙ ap (λ (r : List (List ℕ)). laid 4096 n parts ++ laid 4096 (after 4096 n r) (part ∷ [])) (sym (contents-segments linked 0 xs))
    ∙ sym (laid-append 4096 n parts (part ∷ []))
    ∙ ap (λ (k : ℕ). laid 4096 n (parts ++ segment_parts linked k (s ∷ []))) number
    ∙ ap (laid 4096 n) (sym (segment_parts-append linked 0 xs (s ∷ []))) in
    Adds-as a c _ _ _ _ _ _ bytes programs sections (Adds-then a b c _ _ _ _ _ _ first second)

-- one more of the segments
pub Adds-more : (linked : Bool) (a b c : Layout) (xs : List ExecSegment) (i : ℕ) (s : ExecSegment) → i < length xs → s ≡ get_or xs i s → AddsSegments linked a b (take i xs) → AddsSegment linked i b c s → AddsSegments linked a c (take (i + 1) xs)
Adds-more linked a b c xs i s lt is first second =
    let count : i ≡ length (take i xs) = omega (arith, length-take-le i xs) in
    let more : take (i + 1) xs ≡ take i xs ++ s ∷ [] = take_more xs i s lt ∙ ap (λ (x : ExecSegment). take i xs ++ x ∷ []) (sym is) in
    subst (AddsSegments linked a c) (sym more) (Adds-segment linked a b c (take i xs) s first (subst (λ (k : ℕ). AddsSegment linked k b c s) count second))
