-- Words, which hold no space and no comma, and sentences of them: two of one text are one.
use Rattle.std.proofs.Common.{◌≡◌, ℕ, suc, ◌+◌, ◌^◌, ◌<◌, Bool, true, false, List, [], ◌∷◌, ◌++◌, ℤ, refl, sym, ap, ◌∙◌, append-nil, append_assoc, lit<}
use Rattle.std.specs.Prelude.{pos, negsuc, unsigned_abs, if◌then◌else◌, ◌==◌, codes}
use Rattle.std.specs.Fmt.{decimal, signed_decimal}
use Rattle.std.proofs.lemmas.Fmt.{decimal_digit}
use Rattle.std.proofs.lemmas.List.{append_cancel_left}
use Rattle.cet_isa.specs.declared.operand.Width.{Width}
use Rattle.cet_isa.specs.declared.operand.Width.TheVariants.{B1, B4, B8}
use Rattle.cet_isa.specs.declared.operand.Mem.{Mem}
use Rattle.cet_isa.specs.Text.{width_text, memory_text, displacement_text}
use Rattle.cet_isa.proofs.TextStems.{Stem, stem_text, short, register, every}
use Rattle.cet_isa.proofs.TextCuts.{Stops, one_cut}
use Rattle.cet_isa.proofs.TextItems.{Atom, nothing, digits, stem, point, dollar, minus, Item, item, items_text, Spelling, spelling_text, IsSpelling, one_spelling, is_inner, spelling_inner}
use Rattle.cet_isa.proofs.TextMemory.{IsMemory, memory_items, memory_spelled, memory_are, memory_of, memory_again, Opens, memory_opens, number_of, negative, added_of}

-- what stands behind the point of a name
pub data Suffix : Type 0 where
  bare : Suffix
  sized : Width → Suffix
  shortened : Suffix

pub data Word : Type 0 where
  named : Stem → Suffix → Word
  memory : Mem → Word
  constant : ℤ → Word
  displacement : ℤ → Word

abbrev pub suffixed : List ℕ → Suffix → List ℕ
suffixed text bare = text
suffixed text (sized w) = text ++ width_text w
suffixed text shortened = text ++ codes ".s"

abbrev pub word_text : Word → List ℕ
word_text (named s x) = suffixed (stem_text s) x
word_text (memory mem) = memory_text mem
word_text (constant z) = signed_decimal z
word_text (displacement z) = displacement_text z

-- what forms have: regular operands, and numbers that a text tells apart
abbrev pub IsWord : Word → Type 0
IsWord (named s x) = Unit {0}
IsWord (memory mem) = IsMemory mem
IsWord (constant z) = unsigned_abs z < 2 ^ 64
IsWord (displacement z) = unsigned_abs z < 2 ^ 64

-- ---- how a word is spelled

abbrev suffix_items : Suffix → List Item
suffix_items bare = []
suffix_items (sized B1) = item point (digits 1) ∷ []
suffix_items (sized B4) = item point (digits 4) ∷ []
suffix_items (sized B8) = item point (digits 8) ∷ []
suffix_items shortened = item point (stem short) ∷ []

abbrev spelling : Word → Spelling
spelling (named s x) = record { head = stem s; items = suffix_items x }
spelling (memory mem) = record { head = nothing; items = memory_items mem }
spelling (constant (pos n)) = record { head = digits n; items = [] }
spelling (constant (negsuc n)) = record { head = nothing; items = item minus (digits (suc n)) ∷ [] }
spelling (displacement (pos n)) = record { head = nothing; items = item dollar (digits n) ∷ [] }
spelling (displacement (negsuc n)) = record { head = nothing; items = item dollar nothing ∷ item minus (digits (suc n)) ∷ [] }

-- a width is one digit
width_spelled : (text : List ℕ) (n : ℕ) → n < 10 → text ++ (46 ∷ (48 + n) ∷ []) ≡ text ++ items_text (item point (digits n) ∷ [])
width_spelled text n h = rw (decimal_digit n h) refl

suffix_spelled : (text : List ℕ) (x : Suffix) → suffixed text x ≡ text ++ items_text (suffix_items x)
suffix_spelled text bare = sym (append-nil text)
suffix_spelled text (sized B1) = width_spelled text 1 (lit< tt)
suffix_spelled text (sized B4) = width_spelled text 4 (lit< tt)
suffix_spelled text (sized B8) = width_spelled text 8 (lit< tt)
suffix_spelled text shortened = refl

spelled : (w : Word) → word_text w ≡ spelling_text (spelling w)
spelled (named s x) = suffix_spelled (stem_text s) x
spelled (memory mem) = memory_spelled mem
spelled (constant (pos n)) = sym (append-nil (decimal n))
spelled (constant (negsuc n)) = ap (λ (l : List ℕ). codes "-" ++ l) (sym (append-nil (decimal (suc n))))
spelled (displacement (pos n)) = ap (λ (l : List ℕ). codes "$" ++ l) (sym (append-nil (decimal n)))
spelled (displacement (negsuc n)) = ap (λ (l : List ℕ). codes "$-" ++ l) (sym (append-nil (decimal (suc n))))

suffix_is : (s : Stem) (x : Suffix) → IsSpelling (spelling (named s x))
suffix_is s bare = (tt, tt)
suffix_is s (sized B1) = (tt, (lit< tt, tt))
suffix_is s (sized B4) = (tt, (lit< tt, tt))
suffix_is s (sized B8) = (tt, (lit< tt, tt))
suffix_is s shortened = (tt, (tt, tt))

is_spelling : (w : Word) → IsWord w → IsSpelling (spelling w)
is_spelling (named s x) h = suffix_is s x
is_spelling (memory mem) h = (tt, memory_are mem h)
is_spelling (constant (pos n)) h = (h, tt)
is_spelling (constant (negsuc n)) h = (tt, (h, tt))
is_spelling (displacement (pos n)) h = (tt, (h, tt))
is_spelling (displacement (negsuc n)) h = (tt, (tt, (h, tt)))

-- ---- the word again

abbrev width_of : ℕ → Width
width_of n = if n == 1 then B1 else if n == 4 then B4 else B8

abbrev suffix_of : List Item → Suffix
suffix_of [] = bare
suffix_of (item m (digits n) ∷ rest) = sized (width_of n)
suffix_of (item m a ∷ rest) = shortened

abbrev behind_dollar : Atom → List Item → ℤ
behind_dollar (digits n) rest = pos n
behind_dollar a rest = added_of rest

abbrev marked_word : List Item → Word
marked_word (item minus a ∷ rest) = constant (negative (number_of a))
marked_word (item dollar a ∷ rest) = displacement (behind_dollar a rest)
marked_word items = memory (memory_of items)

abbrev word_of_parts : Atom → List Item → Word
word_of_parts (stem s) items = named s (suffix_of items)
word_of_parts (digits n) items = constant (pos n)
word_of_parts nothing items = marked_word items

abbrev word_of : Spelling → Word
word_of s = word_of_parts s.head s.items

suffix_again : (x : Suffix) → suffix_of (suffix_items x) ≡ x
suffix_again bare = refl
suffix_again (sized B1) = refl
suffix_again (sized w) = refl
suffix_again shortened = refl

opened_word : (items : List Item) → Opens items → marked_word items ≡ memory (memory_of items)
opened_word items (a, rest, e) = rw e refl

word_again : (w : Word) → IsWord w → word_of (spelling w) ≡ w
word_again (named s x) h = ap (named s) (suffix_again x)
word_again (memory mem) h = opened_word (memory_items mem) (memory_opens mem) ∙ ap memory (memory_again mem h)
word_again (constant (pos n)) h = refl
word_again (constant (negsuc n)) h = refl
word_again (displacement (pos n)) h = refl
word_again (displacement (negsuc n)) h = refl

one_word : (v w : Word) → IsWord v → IsWord w → word_text v ≡ word_text w → v ≡ w
one_word v w p q e =
    let same = one_spelling (spelling v) (spelling w) (is_spelling v p) (is_spelling w q) (sym (spelled v) ∙ e ∙ spelled w) in
    sym (word_again v p) ∙ ap word_of same ∙ word_again w q

word_inner : (w : Word) → IsWord w → every is_inner (word_text w) ≡ true
word_inner w h = ap (every is_inner) (spelled w) ∙ spelling_inner (spelling w) (is_spelling w h)

-- ---- sentences

-- operands are parted by a comma and a space, and what stands before them by a space
abbrev pub is_operand : Word → Bool
is_operand (named (register r) x) = true
is_operand (named s x) = false
is_operand w = true

abbrev separator : Bool → List ℕ
separator true = codes ", "
separator false = codes " "

pub record Sentence : Type 0 where
  pub first : Word
  pub rest : List Word

-- the words with their separators, as texts are put together
abbrev first_text : Word → List Word → List ℕ
first_text w [] = word_text w
first_text w (v ∷ rest) = (word_text w ++ separator (is_operand w)) ++ first_text v rest

abbrev pub sentence_text : Sentence → List ℕ
sentence_text s = first_text s.first s.rest

abbrev pub AreWords : List Word → Type 0
AreWords [] = Unit {0}
AreWords (w ∷ rest) = IsWord w × AreWords rest

abbrev pub IsSentence : Sentence → Type 0
IsSentence s = IsWord s.first × AreWords s.rest

-- the words after one that is an operand or not, each behind its separator
abbrev rest_text : Bool → List Word → List ℕ
rest_text operand [] = []
rest_text operand (w ∷ rest) = separator operand ++ (word_text w ++ rest_text (is_operand w) rest)

first_is : (w : Word) (rest : List Word) → first_text w rest ≡ word_text w ++ rest_text (is_operand w) rest
first_is w [] = sym (append-nil (word_text w))
first_is w (v ∷ rest) =
    append_assoc (word_text w) (separator (is_operand w)) (first_text v rest) ∙ ap (λ (l : List ℕ). word_text w ++ (separator (is_operand w) ++ l)) (first_is v rest)

rest_stops : (operand : Bool) (rest : List Word) → Stops is_inner (rest_text operand rest)
rest_stops operand [] = tt
rest_stops true (w ∷ rest) = refl
rest_stops false (w ∷ rest) = refl

ends : (operand : Bool) (w : Word) (rest : List Word) → [] ≡ rest_text operand (w ∷ rest) → ⊥
ends true w rest e = cc
ends false w rest e = cc

one_rest : (operand : Bool) (v w : List Word) → AreWords v → AreWords w → rest_text operand v ≡ rest_text operand w → v ≡ w
one_rest operand [] [] p q e = refl
one_rest operand [] (w ∷ y) p q e = absurd (ends operand w y e)
one_rest operand (v ∷ x) [] p q e = absurd (ends operand v x (sym e))
one_rest operand (v ∷ x) (w ∷ y) p q e =
    let texts = append_cancel_left (separator operand) _ _ e in
    let cut = one_cut is_inner (word_text v) (word_text w) (rest_text (is_operand v) x) (rest_text (is_operand w) y) (word_inner v p.0) (word_inner w q.0) (rest_stops (is_operand v) x) (rest_stops (is_operand w) y) texts in
    let words : v ≡ w = one_word v w p.0 q.0 cut.0 in
    let rests : x ≡ y = one_rest (is_operand v) x y p.1 q.1 (cut.1 ∙ ap (λ (u : Word). rest_text (is_operand u) y) (sym words)) in
    cc (words, rests)

pub one_sentence : (s t : Sentence) → IsSentence s → IsSentence t → sentence_text s ≡ sentence_text t → s ≡ t
one_sentence s t p q e =
    let lists : s.first ∷ s.rest ≡ t.first ∷ t.rest = one_rest false (s.first ∷ s.rest) (t.first ∷ t.rest) p q
    (ap (λ (l : List ℕ). codes " " ++ l) (sym (first_is s.first s.rest) ∙ e ∙ first_is t.first t.rest)) in
    let words : s.first ≡ t.first = cc lists in
    let rests : s.rest ≡ t.rest = cc lists in
    ap (λ (w : Word). record { first = w; rest = s.rest }) words ∙ ap (λ (l : List Word). record { first = t.first; rest = l }) rests
