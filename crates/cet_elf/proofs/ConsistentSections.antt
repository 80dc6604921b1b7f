-- The sections of an object that was read keep what a link editor asks.
use Rattle.std.proofs.Common.{◌≡◌, ℕ, ◌+◌, ◌<◌, Bool, true, false, eqb, leb, not, ◌&&◌, ◌||◌, List, [], ◌∷◌, length, drop, All, inl, inr, refl, sym, subst, arith, lit≤}
use Rattle.std.specs.Prelude.{if◌then◌else◌}
use Rattle.std.specs.List.{list_any}
use Rattle.std.proofs.lemmas.Bool.{eqb-true, leb-true, or_cases, and_parts}
use Rattle.std.proofs.lemmas.List.{length-take, length-drop, nil_from_length}
use Rattle.std.proofs.lemmas.List.Elements.{All-nil, All-cons, All-head, All-tail}
use Rattle.cet_elf.specs.declared.entries.SectionHeader.{SectionHeader}
use Rattle.cet_elf.specs.declared.object.Class.TheVariants as classes
use Rattle.cet_elf.specs.Fields.{is_part, part, has_flag}
use Rattle.cet_elf.specs.Header.{section_count}
use Rattle.cet_elf.specs.Sections.{section, stored_size, stored, HasSections}
use Rattle.cet_elf.specs.ObjectSections.{is_loaded, is_group, is_alignment, is_note, is_kept, class_of, align_of, is_supported, is_supported_load, is_supported_alignment, is_supported_rel, is_only_one}
use Rattle.cet_elf.specs.Consistent.{IsAlignment, HasItsBytes}

-- a part that is in the file has its size
pub length-part : (b : List ℕ) (at size : ℕ) → is_part b at size ≡ true → length (part b at size) ≡ size
length-part b at size h = elim (or_cases (eqb size 0) (leb (at + size) (length b)) h) [
  | inl none ↦ omega (arith, eqb-true size 0 none, length-take size (drop at b))
  | inr inside ↦ omega (arith, leb-true (at + size) (length b) inside, length-take size (drop at b), length-drop at b)
]

pub length-stored : (b : List ℕ) (i : ℕ) → HasSections b → i < section_count b → length (stored b (section b i)) ≡ stored_size (section b i)
length-stored b i h lt = length-part b (section b i).offset (stored_size (section b i)) (h.inside i lt)

-- an alignment, where 0 counts as 1
abbrev Aligned : ℕ → Type 0
Aligned a = IsAlignment (if eqb a 0 then 1 else a)

all_aligned : All Aligned (0 ∷ 1 ∷ 2 ∷ 4 ∷ 8 ∷ 16 ∷ 32 ∷ 64 ∷ 128 ∷ 256 ∷ 512 ∷ 1024 ∷ 2048 ∷ 4096 ∷ [])
all_aligned =
    (All-cons Aligned 0 (1 ∷ 2 ∷ 4 ∷ 8 ∷ 16 ∷ 32 ∷ 64 ∷ 128 ∷ 256 ∷ 512 ∷ 1024 ∷ 2048 ∷ 4096 ∷ []) (0, lit≤ tt, refl)
    (All-cons Aligned 1 (2 ∷ 4 ∷ 8 ∷ 16 ∷ 32 ∷ 64 ∷ 128 ∷ 256 ∷ 512 ∷ 1024 ∷ 2048 ∷ 4096 ∷ []) (0, lit≤ tt, refl)
    (All-cons Aligned 2 (4 ∷ 8 ∷ 16 ∷ 32 ∷ 64 ∷ 128 ∷ 256 ∷ 512 ∷ 1024 ∷ 2048 ∷ 4096 ∷ []) (1, lit≤ tt, refl)
    (All-cons Aligned 4 (8 ∷ 16 ∷ 32 ∷ 64 ∷ 128 ∷ 256 ∷ 512 ∷ 1024 ∷ 2048 ∷ 4096 ∷ []) (2, lit≤ tt, refl)
    (All-cons Aligned 8 (16 ∷ 32 ∷ 64 ∷ 128 ∷ 256 ∷ 512 ∷ 1024 ∷ 2048 ∷ 4096 ∷ []) (3, lit≤ tt, refl)
    (All-cons Aligned 16 (32 ∷ 64 ∷ 128 ∷ 256 ∷ 512 ∷ 1024 ∷ 2048 ∷ 4096 ∷ []) (4, lit≤ tt, refl)
    (All-cons Aligned 32 (64 ∷ 128 ∷ 256 ∷ 512 ∷ 1024 ∷ 2048 ∷ 4096 ∷ []) (5, lit≤ tt, refl)
    (All-cons Aligned 64 (128 ∷ 256 ∷ 512 ∷ 1024 ∷ 2048 ∷ 4096 ∷ []) (6, lit≤ tt, refl)
    (All-cons Aligned 128 (256 ∷ 512 ∷ 1024 ∷ 2048 ∷ 4096 ∷ []) (7, lit≤ tt, refl)
    (All-cons Aligned 256 (512 ∷ 1024 ∷ 2048 ∷ 4096 ∷ []) (8, lit≤ tt, refl)
    (All-cons Aligned 512 (1024 ∷ 2048 ∷ 4096 ∷ []) (9, lit≤ tt, refl)
    (All-cons Aligned 1024 (2048 ∷ 4096 ∷ []) (10, lit≤ tt, refl)
    (All-cons Aligned 2048 (4096 ∷ []) (11, lit≤ tt, refl)
    (All-cons Aligned 4096 ([]) (12, lit≤ tt, refl)
    (All-nil Aligned)))))))))))))))

-- what holds of all items holds of a number that is among them
among : (P : ℕ → Type 0) (a : ℕ) (ks : List ℕ) → All P ks → list_any (λ k. eqb a k) ks ≡ true → P a
among P a [] all h = absurd cc
among P a (k ∷ ks) all h = elim (or_cases (eqb a k) (list_any (λ k. eqb a k) ks) h) [
  | inl here ↦ subst P (sym (eqb-true a k here)) (All-head P k ks all)
  | inr later ↦ among P a ks (All-tail P k ks all) later
]

aligned : (a : ℕ) → is_alignment a ≡ true → Aligned a
aligned a h = among Aligned a (0 ∷ 1 ∷ 2 ∷ 4 ∷ 8 ∷ 16 ∷ 32 ∷ 64 ∷ 128 ∷ 256 ∷ 512 ∷ 1024 ∷ 2048 ∷ 4096 ∷ []) all_aligned h

-- what is kept is loaded or a group
kept_alike : (b : List ℕ) (i : ℕ) → is_kept b i ≡ true → is_loaded (section b i) || is_group (section b i) ≡ true
kept_alike b i h = go (is_loaded (section b i)) (is_note b i) (is_group (section b i)) h
  where
    go : (p q r : Bool) → (p && not q) || r ≡ true → p || r ≡ true
    go true q r h = refl
    go false q r h = h

alignment_known : (b : List ℕ) (i : ℕ) → is_supported b i ≡ true → is_supported_alignment (section b i) ≡ true
unfolding is_supported
alignment_known b i h =
    let s = section b i in
    let a = and_parts (is_supported_load s && is_supported_alignment s && is_supported_rel b s) (is_only_one b i) h in
    let c = and_parts (is_supported_load s && is_supported_alignment s) (is_supported_rel b s) a.0 in
    (and_parts (is_supported_load s) (is_supported_alignment s) c.0).1

pub IsAlignment-kept : (b : List ℕ) (i : ℕ) → is_kept b i ≡ true → is_supported b i ≡ true → IsAlignment (align_of (section b i))
IsAlignment-kept b i kept supported =
    aligned (section b i).align (go (is_loaded (section b i) || is_group (section b i)) (is_alignment (section b i).align) (kept_alike b i kept) (alignment_known b i supported))
  where
    go : (p q : Bool) → p ≡ true → not p || q ≡ true → q ≡ true
    go true q e h = h
    go false q e h = absurd cc

-- a section of zeros has no bytes, and another one has as many as its size
HasItsBytes-from : (s : SectionHeader) (xs : List ℕ) → length xs ≡ stored_size s → HasItsBytes (class_of s) s.size xs
unfolding class_of
HasItsBytes-from s xs h = go (is_group s) (eqb s.kind 8) (has_flag s.flags 0x4) (has_flag s.flags 0x1) refl refl h
  where
    go : (g z x w : Bool) → is_group s ≡ g → eqb s.kind 8 ≡ z → length xs ≡ (if z then 0 else s.size)
        → HasItsBytes (if g then classes.Group else if z then classes.Zero else if x then classes.Code else if w then classes.Write else classes.Read) s.size xs
    go true true x w e f l = absurd (omega (arith, eqb-true s.kind 17 e, eqb-true s.kind 8 f))
    go true false x w e f l = l
    go false true x w e f l = nil_from_length xs l
    go false false true w e f l = l
    go false false false true e f l = l
    go false false false false e f l = l

pub HasItsBytes-stored : (b : List ℕ) (i : ℕ) → HasSections b → i < section_count b → HasItsBytes (class_of (section b i)) (section b i).size (stored b (section b i))
HasItsBytes-stored b i h lt = HasItsBytes-from (section b i) (stored b (section b i)) (length-stored b i h lt)
