-- Where the names of a string table end.
use Rattle.std.proofs.Common.{◌≡◌, ℕ, ◌+◌, ◌-◌, ◌≤◌, ◌<◌, true, false, eqb, ltb, not, List, length, get_or, take, drop, Some, None, refl, sym, ap, ◌∙◌, ◌⊎◌, inl, inr, min, arith}
use Rattle.std.specs.List.{prefix_len}
use Rattle.std.proofs.lemmas.Bool.{false_from_ne_true, cases_lt, lt-ltb, le-ltb}
use Rattle.std.proofs.lemmas.List.{get_or-drop, length-drop, take_all, drop_all}
use Rattle.std.proofs.lemmas.List.Sums.{prefix_len_is}
use Rattle.std.proofs.lemmas.List.Folds.{list_any_at, list_any_none}
use Rattle.std.proofs.lemmas.List.Elements.{All-from_get_or}
use Rattle.memchr.specs.Find.{IsFirstByte, IsLastByte, is_byte}
use Rattle.cet_elf.specs.StringTable.{is_zero, has_name, name_at}

-- the bytes from `at` on, where at most the end is taken as their start
pub rest-is : (table : List ℕ) (start at : ℕ) → start ≡ min (length table) at → take (length table - start) (drop start table) ≡ drop at table
rest-is table start at e =
    take_all (length table - start) (drop start table) (omega (arith, length-drop start table)) ∙ go (cases_lt at (length table))
  where
    go : (at < length table) ⊎ (length table ≤ at) → drop start table ≡ drop at table
    go (inl lt) = let is : start ≡ at = omega arith in rw is refl
    go (inr le) = drop_all start table (omega arith) ∙ sym (drop_all at table le)

-- the name is what stands before the first zero byte
pub name-found : (table rest : List ℕ) (at end : ℕ) → rest ≡ drop at table → IsFirstByte (is_byte 0) rest (Some end) → take end rest ≡ name_at table at
name-found table rest at end e h =
    let p = prefix_len_is (λ byte. not (is_zero byte)) rest end 0 (omega (arith, h.0.high)) (λ i lt. ap not (false_from_ne_true _ (h.0.before i (omega arith) lt))) (λ lt. ap not h.1) in
    ap (λ n. take n rest) (sym p) ∙ ap (λ r. take (prefix_len (λ byte. not (is_zero byte)) r) r) e

-- or else all of it
pub name-all : (table rest : List ℕ) (at : ℕ) → rest ≡ drop at table → IsFirstByte (is_byte 0) rest None → rest ≡ name_at table at
name-all table rest at e h =
    let p = prefix_len_is (λ byte. not (is_zero byte)) rest (length rest) 0 (omega arith) (λ i lt. ap not (false_from_ne_true _ (h i (omega arith) lt))) (λ lt. absurd (omega arith)) in
    sym (take_all (length rest) rest (omega arith)) ∙ ap (λ n. take n rest) (sym p) ∙ ap (λ r. take (prefix_len (λ byte. not (is_zero byte)) r) r) e

none-above : (table : List ℕ) (end at : ℕ) → ((k : ℕ) → end ≤ k → k < length table → eqb (get_or table k 0) 0 ≡ true → ⊥) → end ≤ at → has_name table at ≡ false
none-above table end at h le =
    list_any_none is_zero (drop at table) (All-from_get_or (λ byte. is_zero byte ≡ false) (drop at table) 0 (λ i lt.
    let long : at + i < length table = omega (arith, length-drop at table) in
    rw (get_or-drop at table i 0) (false_from_ne_true _ (h (at + i) (omega arith) long))))

pub has_name-last : (table : List ℕ) (last at : ℕ) → IsLastByte (is_byte 0) table (Some last) → has_name table at ≡ ltb at (last + 1)
has_name-last table last at h = go (cases_lt at (last + 1))
  where
    go : (at < last + 1) ⊎ (last + 1 ≤ at) → has_name table at ≡ ltb at (last + 1)
    go (inl lt) =
        let i : ℕ = last - at in
        let here : at + i ≡ last = omega arith in
        let zero_there : is_zero (get_or (drop at table) i 0) ≡ true = rw (get_or-drop at table i 0, here) h.1 in
        list_any_at is_zero (drop at table) i 0 (omega (arith, length-drop at table, h.0.high)) zero_there ∙ sym (lt-ltb at (last + 1) lt)
    go (inr le) = none-above table (last + 1) at h.0.after le ∙ sym (le-ltb at (last + 1) le)

pub has_name-none : (table : List ℕ) (at : ℕ) → IsLastByte (is_byte 0) table None → has_name table at ≡ ltb at 0
has_name-none table at h = none-above table 0 at h (omega arith) ∙ sym (le-ltb at 0 (omega arith))
