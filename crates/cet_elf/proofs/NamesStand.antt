-- Names that stand in a string table.
use Rattle.std.proofs.Common.{◌≡◌, ℕ, suc, ◌+◌, ◌≤◌, Bool, true, false, not, eqb, List, [], ◌∷◌, ◌++◌, length, take, drop, refl, sym, ap, ◌∙◌, arith, eq-eqb}
use Rattle.std.specs.List.{list_any, take_while, prefix_len, starts_with}
use Rattle.std.proofs.lemmas.List.{drop_at, append_assoc, length-append, length-drop, drop-drop}
use Rattle.std.proofs.lemmas.Bool.{eqb-true}
use Rattle.cet_elf.specs.StringTable.{is_zero, has_name, name_at, is_named}
use Rattle.cet_elf.specs.Consistent.{HasNoZero}
use Rattle.cet_elf.specs.Written.{ended, name_offset}

-- the name stands at this offset, ended by a zero byte
pub record Named (table : List ℕ) (at : ℕ) (name : List ℕ) : Type 0 where
  pub rest : List ℕ
  pub is : drop at table ≡ name ++ 0 ∷ rest

finds_zero : (name rest : List ℕ) → list_any is_zero (name ++ 0 ∷ rest) ≡ true
finds_zero [] rest = refl
finds_zero (c ∷ name) rest = grind (arith, finds_zero name rest)

pub has_name-Named : (table : List ℕ) (at : ℕ) (name : List ℕ) → Named table at name → has_name table at ≡ true
has_name-Named table at name h = ap (list_any is_zero) h.is ∙ finds_zero name h.rest

ends_there : (name rest : List ℕ) → HasNoZero name → take_while (λ byte. not (is_zero byte)) (name ++ 0 ∷ rest) ≡ name
ends_there [] rest h = refl
ends_there (c ∷ name) rest h = go (is_zero c) refl (ends_there name rest (λ (k, lt, is). h (suc k, omega arith, is)))
  where
    go : (b : Bool) → is_zero c ≡ b → take_while (λ byte. not (is_zero byte)) (name ++ 0 ∷ rest) ≡ name → take_while (λ byte. not (is_zero byte)) ((c ∷ name) ++ 0 ∷ rest) ≡ c ∷ name
    go true e others = absurd (h (0, omega arith, eqb-true c 0 e))
    go false e others =
        rw e (ap (λ (m : ℕ). take m (c ∷ (name ++ 0 ∷ rest))) one_more ∙ ap (λ (r : List ℕ). c ∷ r) others)
      where
        one_more : 1 + prefix_len (λ byte. not (is_zero byte)) (name ++ 0 ∷ rest) ≡ suc (prefix_len (λ byte. not (is_zero byte)) (name ++ 0 ∷ rest))
        one_more = omega arith

pub name_at-Named : (table : List ℕ) (at : ℕ) (name : List ℕ) → HasNoZero name → Named table at name → name_at table at ≡ name
name_at-Named table at name free h = ap (take_while (λ byte. not (is_zero byte))) h.is ∙ ends_there name h.rest free

begins : (name rest : List ℕ) → starts_with (λ a b. eqb a b) (name ++ 0 ∷ rest) (name ++ 0 ∷ []) ≡ true
begins [] rest = refl
begins (c ∷ name) rest = rw (eq-eqb c c refl) (begins name rest)

pub is_named-Named : (table : List ℕ) (at : ℕ) (name : List ℕ) → Named table at name → is_named table at name ≡ true
is_named-Named table at name h = ap (λ (r : List ℕ). starts_with (λ a b. eqb a b) r (name ++ 0 ∷ [])) h.is ∙ begins name h.rest

-- a name that is put where the table's names begin
pub Named-here : (table names zeros : List ℕ) (at : ℕ) (name : List ℕ) → table ≡ 0 ∷ zeros → drop at table ≡ ended name ++ names → Named table (name_offset name at) name
Named-here table names zeros at [] first here = record { rest = zeros; is = first }
Named-here table names zeros at (c ∷ name) first here = record { rest = names; is = here ∙ append_assoc (c ∷ name) (0 ∷ []) names }

pub after-name : (table names : List ℕ) (at : ℕ) (name : List ℕ) → drop at table ≡ ended name ++ names → drop (at + length (ended name)) table ≡ names
after-name table names at name here = sym (drop-drop (length (ended name)) at table) ∙ ap (drop (length (ended name))) here ∙ drop_at (ended name) names (length (ended name)) refl

pub name-inside : (table names : List ℕ) (at : ℕ) (name : List ℕ) → at ≤ length table → drop at table ≡ ended name ++ names → at + length (ended name) ≤ length table
name-inside table names at name le here = omega (arith, length-drop at table, ap length here, length-append (ended name) names)
