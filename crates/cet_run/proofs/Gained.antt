-- What an output gains, one piece after another, and the digits of bytes in two parts.
use Rattle.std.proofs.Common.{◌≡◌, ℕ, zero, suc, ◌+◌, ◌/◌, ◌%◌, ◌<◌, ◌≤◌, ◌⊎◌, inl, inr, List, [], ◌∷◌, ◌++◌, length, take, drop, slice_index, codes, ◌==◌, true, false, Option, refl, sym, ap, subst, ◌∙◌, arith}
use Rattle.std.proofs.lemmas.Bool.{cases_lt, ne_eqb, true≢false}
use Rattle.std.proofs.lemmas.List.{take_all, take-append-le, take-append-drop}
use Rattle.std.proofs.Math.Seq.{take-append_seam, take-append-add, take-add}
use Rattle.hex.specs.Hex.{encode_with, encode_lower, lower_digits}
use Rattle.cet_base.specs.Sink.{Gains, GainsPart}
use Rattle.cet_run.specs.Text.{bytes_text}
use Rattle.cet_base.proofs.SinkLemmas.{Gains-nothing, Gains-then}

-- a part of the first piece is a part of both
pub part_first : (a b : Option (List ℕ)) (first second : List ℕ) → GainsPart a b first → GainsPart a b (first ++ second)
part_first a b first second (k, p) = by_order (cases_lt k (length first))
  where
    by_order : (k < length first) ⊎ (length first ≤ k) → GainsPart a b (first ++ second)
    by_order (inl less) = (k, subst (λ (x : List ℕ). Gains a b x) (sym (take-append-le k first second (omega arith))) p)
    by_order (inr more) = (length first, subst (λ (x : List ℕ). Gains a b x) (take_all k first more ∙ sym (take-append_seam first second)) p)

-- and so is the first piece with a part of the second
pub part_second : (a b c : Option (List ℕ)) (first second : List ℕ) → Gains a b first → GainsPart b c second → GainsPart a c (first ++ second)
part_second a b c first second p (k, q) =
    (length first + k, subst (λ (x : List ℕ). Gains a c x) (sym (take-append-add first second k)) (Gains-then a b c first (take k second) p q))

-- ---- digits

encode_append : (t a b : List ℕ) → encode_with t (a ++ b) ≡ encode_with t a ++ encode_with t b
unfolding encode_with
encode_append t [] b = refl
encode_append t (x ∷ a) b = ap (λ (l : List ℕ). slice_index t (x / 16) ∷ slice_index t (x % 16) ∷ l) (encode_append t a b)

pub digits_nothing : (a : Option (List ℕ)) (bytes : List ℕ) → Gains a a (encode_lower (take 0 bytes))
unfolding encode_with
digits_nothing a bytes = Gains-nothing a []

pub digits_more : (a b c : Option (List ℕ)) (bytes piece : List ℕ) (done count : ℕ) → Gains a b (encode_lower (take done bytes)) → piece ≡ take count (drop done bytes)
    → Gains b c (encode_lower piece) → Gains a c (encode_lower (take (done + count) bytes))
digits_more a b c bytes piece done count p e q =
    let both = Gains-then a b c _ _ p (subst (λ (x : List ℕ). Gains b c (encode_lower x)) e q) in
    subst (λ (x : List ℕ). Gains a c x) (sym (encode_append lower_digits (take done bytes) (take count (drop done bytes)))
    ∙ ap encode_lower (sym (take-add done count bytes))) both

pub digits_part : (a b c : Option (List ℕ)) (bytes piece : List ℕ) (done count : ℕ) → Gains a b (encode_lower (take done bytes)) → piece ≡ take count (drop done bytes)
    → GainsPart b c (encode_lower piece) → GainsPart a c (encode_lower bytes)
digits_part a b c bytes piece done count p e q =
    let seam : bytes ≡ take (done + count) bytes ++ drop (done + count) bytes = sym (take-append-drop (done + count) bytes) in
    let front : encode_lower (take done bytes) ++ encode_lower piece ≡ encode_lower (take (done + count) bytes) =
    ap (λ (x : List ℕ). encode_lower (take done bytes) ++ encode_lower x) e ∙ sym (encode_append lower_digits (take done bytes) (take count (drop done bytes)))
    ∙ ap encode_lower (sym (take-add done count bytes)) in
    let whole : (encode_lower (take done bytes) ++ encode_lower piece) ++ encode_lower (drop (done + count) bytes) ≡ encode_lower bytes =
    ap (λ (x : List ℕ). x ++ encode_lower (drop (done + count) bytes)) front
    ∙ sym (encode_append lower_digits (take (done + count) bytes) (drop (done + count) bytes)) ∙ ap encode_lower (sym seam) in
    subst (λ (x : List ℕ). GainsPart a c x) whole (part_first a c _ _ (part_second a b c _ _ p q))

pub digits_all : (a b : Option (List ℕ)) (bytes : List ℕ) (done : ℕ) → length bytes ≤ done → Gains a b (encode_lower (take done bytes)) → Gains a b (encode_lower bytes)
digits_all a b bytes done end p = subst (λ (x : List ℕ). Gains a b (encode_lower x)) (take_all done bytes end) p

-- as many bytes of a front as it has
pub own_front : (n : ℕ) (xs : List ℕ) → take n xs ≡ take (length (take n xs)) xs
own_front zero xs = refl
own_front (suc n) [] = refl
own_front (suc n) (x ∷ xs) = ap (λ (l : List ℕ). x ∷ l) (own_front n xs)

-- ---- the text of some bytes

pub text_of_none : (bytes : List ℕ) → (length bytes == 0) ≡ true → codes "-" ≡ bytes_text bytes
text_of_none [] e = refl
text_of_none (byte ∷ bytes) e = absurd (true≢false (sym e ∙ ne_eqb (length (byte ∷ bytes)) 0 (λ h. omega (arith, h))))

pub text_of_some : (bytes : List ℕ) → (length bytes == 0) ≡ false → encode_lower bytes ≡ bytes_text bytes
text_of_some [] e = absurd (true≢false e)
text_of_some (byte ∷ bytes) e = refl
