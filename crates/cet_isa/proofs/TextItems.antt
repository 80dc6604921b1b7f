-- Texts as marks with stems and numbers behind them: two of one text are one.
use Rattle.std.proofs.Common.{◌≡◌, ℕ, ◌^◌, ◌<◌, Bool, true, false, List, [], ◌∷◌, ◌++◌, refl, sym, ap, ◌∙◌}
use Rattle.std.specs.Prelude.{◌||◌, not, ◌==◌, if◌then◌else◌}
use Rattle.std.specs.Fmt.{decimal}
use Rattle.std.specs.Str.Parse.{digits_value}
use Rattle.std.proofs.lemmas.Bool.{and_from, eqb-true, both_ways}
use Rattle.std.proofs.lemmas.Fmt.{decimal_is_IsNumeral}
use Rattle.cet_isa.proofs.TextStems.{Stem, stem_text, stem_of, every, is_plain, Kind, empty, number, name, kind, found}
use Rattle.cet_isa.proofs.TextCuts.{Stops, one_cut, every-append, every_weaker, decimal_plain, kind-decimal}

-- ---- atoms: what stands between two marks

pub data Atom : Type 0 where
  nothing : Atom
  digits : ℕ → Atom
  stem : Stem → Atom

abbrev pub atom_text : Atom → List ℕ
atom_text nothing = []
atom_text (digits n) = decimal n
atom_text (stem s) = stem_text s

-- a number has at most 64 bits, since std tells the decimal texts of these apart
abbrev pub IsAtom : Atom → Type 0
IsAtom (digits n) = n < 2 ^ 64
IsAtom a = Unit {0}

abbrev atom_of_kind : Kind → List ℕ → Atom
atom_of_kind empty text = nothing
atom_of_kind number text = digits (digits_value 10 text)
atom_of_kind name text = stem (stem_of text)

abbrev atom_of : List ℕ → Atom
atom_of text = atom_of_kind (kind text) text

atom_again : (a : Atom) → IsAtom a → atom_of (atom_text a) ≡ a
atom_again nothing h = refl
atom_again (digits n) h = ap (λ (k : Kind). atom_of_kind k (decimal n)) (kind-decimal n h) ∙ ap digits (decimal_is_IsNumeral n h).1
atom_again (stem s) h = ap (λ (k : Kind). atom_of_kind k (stem_text s)) (found s).named ∙ ap stem (found s).again

one_atom : (a b : Atom) → IsAtom a → IsAtom b → atom_text a ≡ atom_text b → a ≡ b
one_atom a b p q e = sym (atom_again a p) ∙ ap atom_of e ∙ atom_again b q

atom_plain : (a : Atom) → IsAtom a → every is_plain (atom_text a) ≡ true
atom_plain nothing h = refl
atom_plain (digits n) h = decimal_plain n h
atom_plain (stem s) h = (found s).plain

-- ---- marks

pub data Mark : Type 0 where
  point : Mark
  dollar : Mark
  times : Mark
  plus : Mark
  minus : Mark
  opening : Mark
  closing : Mark

-- . $ * + - [ ]
abbrev pub mark_byte : Mark → ℕ
mark_byte point = 46
mark_byte dollar = 36
mark_byte times = 42
mark_byte plus = 43
mark_byte minus = 45
mark_byte opening = 91
mark_byte closing = 93

abbrev mark_of : ℕ → Mark
mark_of x = if x == 46 then point else if x == 36 then dollar else if x == 42 then times else if x == 43 then plus else if x == 45 then minus else if x == 91 then opening else closing

mark_again : (m : Mark) → mark_of (mark_byte m) ≡ m
mark_again point = refl
mark_again m = refl

mark_stops : (m : Mark) → is_plain (mark_byte m) ≡ false
mark_stops point = refl
mark_stops m = refl

-- ---- items: a mark, and an atom behind it

pub data Item : Type 0 where
  item : Mark → Atom → Item

abbrev pub items_text : List Item → List ℕ
items_text [] = []
items_text (item m a ∷ rest) = mark_byte m ∷ (atom_text a ++ items_text rest)

abbrev pub AreItems : List Item → Type 0
AreItems [] = Unit {0}
AreItems (item m a ∷ rest) = IsAtom a × AreItems rest

items_stop : (s : List Item) → Stops is_plain (items_text s)
items_stop [] = tt
items_stop (item m a ∷ rest) = mark_stops m

one_list : (s t : List Item) → AreItems s → AreItems t → items_text s ≡ items_text t → s ≡ t
one_list [] [] p q e = refl
one_list [] (item m a ∷ t) p q e = absurd (cc)
one_list (item m a ∷ s) [] p q e = absurd (cc)
one_list (item m a ∷ s) (item n b ∷ t) p q e =
    let bytes : mark_byte m ≡ mark_byte n = cc in
    let marks : m ≡ n = sym (mark_again m) ∙ ap mark_of bytes ∙ mark_again n in
    let tails : atom_text a ++ items_text s ≡ atom_text b ++ items_text t = cc in
    let cut = one_cut is_plain (atom_text a) (atom_text b) (items_text s) (items_text t) (atom_plain a p.0) (atom_plain b q.0) (items_stop s) (items_stop t) tails in
    let atoms : a ≡ b = one_atom a b p.0 q.0 cut.0 in
    let rests : s ≡ t = one_list s t p.1 q.1 cut.1 in
    cc

-- ---- spellings: an atom, and items behind it

pub record Spelling : Type 0 where
  pub head : Atom
  pub items : List Item

abbrev pub spelling_text : Spelling → List ℕ
spelling_text s = atom_text s.head ++ items_text s.items

abbrev pub IsSpelling : Spelling → Type 0
IsSpelling s = IsAtom s.head × AreItems s.items

pub one_spelling : (s t : Spelling) → IsSpelling s → IsSpelling t → spelling_text s ≡ spelling_text t → s ≡ t
one_spelling s t p q e =
    let cut = one_cut is_plain (atom_text s.head) (atom_text t.head) (items_text s.items) (items_text t.items) (atom_plain s.head p.0) (atom_plain t.head q.0) (items_stop s.items) (items_stop t.items) e in
    let heads : s.head ≡ t.head = one_atom s.head t.head p.0 q.0 cut.0 in
    let rests : s.items ≡ t.items = one_list s.items t.items p.1 q.1 cut.1 in
    ap (λ (a : Atom). record { head = a; items = s.items }) heads ∙ ap (λ (l : List Item). record { head = t.head; items = l }) rests

-- ---- spellings hold no space and no comma

-- neither a space nor a comma
abbrev pub is_inner : ℕ → Bool
is_inner x = not (x == 32 || x == 44)

-- a byte at which a test answers otherwise is another byte
differs : (test : ℕ → Bool) (c x : ℕ) → test c ≡ false → test x ≡ true → (x == c) ≡ false
differs test c x at_c at_x = go (x == c) refl
  where
    go : (t : Bool) → (x == c) ≡ t → t ≡ false
    go true e = absurd (both_ways (test x) (ap test (eqb-true x c e) ∙ at_c) at_x)
    go false e = refl

plain_inner : (x : ℕ) → is_plain x ≡ true → is_inner x ≡ true
plain_inner x h = let space = differs is_plain 32 x refl h in let comma = differs is_plain 44 x refl h in rw (space, comma) refl

mark_inner : (m : Mark) → is_inner (mark_byte m) ≡ true
mark_inner point = refl
mark_inner m = refl

items_inner : (s : List Item) → AreItems s → every is_inner (items_text s) ≡ true
items_inner [] h = refl
items_inner (item m a ∷ s) h =
    and_from _ _ (mark_inner m) (every-append is_inner (atom_text a) (items_text s) (every_weaker is_plain is_inner plain_inner (atom_text a) (atom_plain a h.0)) (items_inner s h.1))

pub spelling_inner : (s : Spelling) → IsSpelling s → every is_inner (spelling_text s) ≡ true
spelling_inner s h =
    every-append is_inner (atom_text s.head) (items_text s.items) (every_weaker is_plain is_inner plain_inner (atom_text s.head) (atom_plain s.head h.0)) (items_inner s.items h.1)
