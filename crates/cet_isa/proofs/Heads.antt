-- What follows from the laws of the rows alone, whatever rows there are: at most one form begins a list, and the three
-- answers of `decoded` are the three cases of a list.
use Rattle.std.proofs.Common.{◌≡◌, ◌≢◌, ℕ, ◌<◌, ◌≤◌, List, [], ◌∷◌, ◌++◌, Ok, Err, refl, sym, ap, ◌∙◌, subst, arith, length, take, drop}
use Rattle.std.proofs.lemmas.List.{length-append, length-take, length-take-le, take-append-drop, take-append-le, append-nil, take_all}
use Rattle.std.proofs.lemmas.List.Elements.{All-take}
use Rattle.cet_isa.specs.declared.instruction.Insn.{Insn}
use Rattle.cet_isa.specs.declared.decode_error.DecodeError.TheVariants.{Short, Outside}
use Rattle.cet_isa.specs.Decoded.{Decoding, decoded}
use Rattle.cet_isa.specs.Form.{Form, IsBytes}
use Rattle.cet_isa.specs.Law.{Begins, IsProperPrefix, IsNoForm}
use Rattle.cet_isa.proofs.Joins.{ok_is}
use Rattle.cet_isa.proofs.Sizes.{form_length}
use Rattle.cet_isa.proofs.Laws.{form_is_decoded, decoded_is_form, short_is_proper_prefix, outside_stays}

-- one answer has one value and one length
ok_parts : (i j : Insn) (n m : ℕ) → ◌≡◌ {A = Decoding} (Ok (i, n)) (Ok (j, m)) → (i ≡ j) × (n ≡ m)
ok_parts i j n m e = let pairs = ok_is (i, n) (j, m) e in (ap (λ (p : Insn × ℕ). p.0) pairs, ap (λ (p : Insn × ℕ). p.1) pairs)

pub begins_decoded : (b : List ℕ) (i : Insn) (n : ℕ) → Begins b i n → decoded b ≡ Ok (i, n)
begins_decoded b i n begins =
    ap decoded (sym (take-append-drop n b))
    ∙ (form_is_decoded i (take n b) (drop n b) begins.form ∙ ap (λ (k : ℕ). Ok (i, k)) (length-take-le n b begins.within))

-- at most one form begins a list
pub one_head : (b : List ℕ) (i j : Insn) (n m : ℕ) → Begins b i n → Begins b j m → (i ≡ j) × (n ≡ m)
one_head b i j n m first second = ok_parts i j n m (sym (begins_decoded b i n first) ∙ begins_decoded b j m second)

-- the length of the form at a head
pub begins_length : (b : List ℕ) (i : Insn) (n : ℕ) → Begins b i n → (0 < n) × (n ≤ 15)
begins_length b i n begins = rw (length-take-le n b begins.within) at (form_length i (take n b) begins.form)

-- what begins with a form still does when more follows
pub begins_longer : (b more : List ℕ) (i : Insn) (n : ℕ) → Begins b i n → Begins (b ++ more) i n
begins_longer b more i n begins = record {
  within = omega (arith, length-append b more, begins.within);
  form = subst (λ (x : List ℕ). Form i x) (sym (take-append-le n b more begins.within)) begins.form;
}

-- a form is decoded with nothing after it
whole_decoded : (b : List ℕ) (i : Insn) → Form i b → decoded b ≡ Ok (i, length b)
whole_decoded b i is = ap decoded (sym (append-nil b)) ∙ form_is_decoded i b [] is

some_length : (more : List ℕ) → more ≢ [] → 0 < length more
some_length [] some = absurd (some refl)
some_length (x ∷ xs) some = omega arith

-- a proper prefix of a form does not begin with one
pub prefix_begins_not : (b : List ℕ) (i : Insn) (n : ℕ) → IsProperPrefix b → Begins b i n → ⊥
prefix_begins_not b i n (j, more, some, is) begins =
    let same = ok_parts i j n (length (b ++ more)) (sym (begins_decoded (b ++ more) i n (begins_longer b more i n begins)) ∙ whole_decoded (b ++ more) j is) in
    let same_length : n ≡ length (b ++ more) = same.1 in
    omega (arith, same_length, length-append b more, begins.within, some_length more some)

pub outside_none : (b : List ℕ) → decoded b ≡ Err Outside → IsNoForm b
outside_none b e = (
  (λ i n begins. let found = begins_decoded b i n begins in cc),
  (λ i more is. let found = whole_decoded (b ++ more) i is in let stays = outside_stays b more e in cc),
)

pub prefix_short : (b : List ℕ) → IsBytes b → IsProperPrefix b → decoded b ≡ Err Short
prefix_short b bytes prefix = by_cases (decoded b) refl
  where
    by_cases : (r : Decoding) → decoded b ≡ r → decoded b ≡ Err Short
    by_cases (Ok x) e = absurd (prefix_begins_not b x.0 x.1 prefix (decoded_is_form b x.0 x.1 bytes e))
    by_cases (Err Short) e = e
    by_cases (Err Outside) e = absurd ((outside_none b e).1 prefix.0 prefix.1 prefix.3)

pub none_outside : (b : List ℕ) → IsBytes b → IsNoForm b → decoded b ≡ Err Outside
none_outside b bytes none = by_cases (decoded b) refl
  where
    by_cases : (r : Decoding) → decoded b ≡ r → decoded b ≡ Err Outside
    by_cases (Ok x) e = absurd (none.0 x.0 x.1 (decoded_is_form b x.0 x.1 bytes e))
    by_cases (Err Short) e = let prefix = short_is_proper_prefix b bytes e in absurd (none.1 prefix.0 prefix.1 prefix.3)
    by_cases (Err Outside) e = e

-- Fifteen bytes tell the answer: a window of that size is decoded as what it is the front of.
pub window_same : (b : List ℕ) (k : ℕ) → IsBytes (take k b) → 15 ≤ k → decoded (take k b) ≡ decoded b
window_same b k bytes wide = by_answer (decoded (take k b)) refl
  where
    window : decoded (take k b ++ drop k b) ≡ decoded b
    window = ap decoded (take-append-drop k b)

    by_answer : (r : Decoding) → decoded (take k b) ≡ r → decoded (take k b) ≡ decoded b
    by_answer (Ok x) e =
        let begins = decoded_is_form (take k b) x.0 x.1 bytes e in
        e ∙ (sym (begins_decoded (take k b ++ drop k b) x.0 x.1 (begins_longer (take k b) (drop k b) x.0 x.1 begins)) ∙ window)
    by_answer (Err Short) e =
        let prefix = short_is_proper_prefix (take k b) bytes e in
        let long : (0 < length (take k b ++ prefix.1)) × (length (take k b ++ prefix.1) ≤ 15) = form_length prefix.0 (take k b ++ prefix.1) prefix.3 in
        ap decoded (take_all k b (omega (arith, long.1, length-append (take k b) prefix.1, length-take k b, some_length prefix.1 prefix.2)))
    by_answer (Err Outside) e = e ∙ (sym (outside_stays (take k b) (drop k b) e) ∙ window)

pub window_decoded : (b : List ℕ) (k : ℕ) → IsBytes b → 15 ≤ k → decoded (take k b) ≡ decoded b
window_decoded b k bytes wide = window_same b k (All-take (λ y. y < 256) k b bytes) wide

pub window_begins : (b : List ℕ) (k : ℕ) (i : Insn) (n : ℕ) → IsBytes b → 15 ≤ k → Begins b i n → Begins (take k b) i n
window_begins b k i n bytes wide begins =
    decoded_is_form (take k b) i n (All-take (λ y. y < 256) k b bytes) (window_decoded b k bytes wide ∙ begins_decoded b i n begins)
