-- The first bytes of a file, which the reading of a whole file keeps.
use Rattle.std.proofs.Common.{◌≡◌, ◌+◌, ◌<◌, ◌≤◌, ◌++◌, ℕ, List, [], length, take, drop, min, Option, Some, None, refl, sym, ap, subst, ◌∙◌, inl, inr, arith}
use Rattle.std.proofs.lemmas.Bool.{cases_lt}
use Rattle.std.specs.Prelude.{⊤}
use Rattle.std.specs.Option.{IsSomeAnd}
use Rattle.std.proofs.lemmas.List.{take_all, length-take, length-append, take_min}
use Rattle.std.proofs.Math.Seq.{take-add}
use Rattle.std.proofs.Math.Nat.{min-le_right}
use Rattle.cet_base.specs.Files.{Contents, FileMeets}

-- the bytes are the first of the file, or there is no file and no byte
abbrev BeginsFile : Option (List ℕ) → List ℕ → Type 0
BeginsFile None bytes = bytes ≡ []
BeginsFile (Some whole) bytes = take (length bytes) whole ≡ bytes

abbrev BeginsIn : Option Contents → List ℕ → List ℕ → Type 0
BeginsIn None name bytes = ⊤
BeginsIn (Some files) name bytes = BeginsFile (files name) bytes

-- where the contents are told, the bytes are the first of this file, or there is no file and no byte
pub record Begins (files : Option Contents) (name bytes : List ℕ) : Type 0 where
  known : BeginsIn files name bytes

-- a beginning and the next bytes are a beginning
longer : (whole old new : List ℕ) (n : ℕ) → take (length old) whole ≡ old → new ≡ old ++ take n (drop (length old) whole) → take (length new) whole ≡ new
longer whole old new n begins added =
    let rest : List ℕ = drop (length old) whole in
    let len : length new ≡ length old + min n (length rest) = ap length added ∙ length-append old (take n rest) ∙ ap (λ x. length old + x) (length-take n rest) in
    ap (λ x. take x whole) len ∙ take-add (length old) (min n (length rest)) whole ∙ ap (λ x. x ++ take (min n (length rest)) rest) begins ∙ ap (λ x. old ++ x) (take_min n rest) ∙ sym added

-- where no byte came, there is none left
ends : (whole bytes : List ℕ) → take (length bytes) whole ≡ bytes → (length bytes < length whole → 0 < 0) → bytes ≡ whole
ends whole bytes begins done =
    elim (cases_lt (length bytes) (length whole)) [
      | inl more ↦ (let none : 0 < 0 = done more in absurd (omega arith))
      | inr end ↦ sym begins ∙ take_all (length bytes) whole end
    ]

-- a beginning is no longer than the whole
shorter : (whole bytes : List ℕ) (limit : ℕ) → take (length bytes) whole ≡ bytes → limit < length bytes → limit < length whole
shorter whole bytes limit begins above =
    let len : length bytes ≡ min (length bytes) (length whole) = sym (ap length begins) ∙ length-take (length bytes) whole in
    let most : min (length bytes) (length whole) ≤ length whole = min-le_right (length bytes) (length whole) in
    omega arith

-- the same three of a file that may be absent
longer_file : (o : Option (List ℕ)) (old new : List ℕ) (n : ℕ) → BeginsFile o old → IsSomeAnd o (λ whole. new ≡ old ++ take n (drop (length old) whole)) → BeginsFile o new
longer_file None old new n begins added = absurd added
longer_file (Some whole) old new n begins added = longer whole old new n begins added

ends_file : (o : Option (List ℕ)) (bytes : List ℕ) → BeginsFile o bytes → IsSomeAnd o (λ whole. length bytes < length whole → 0 < 0) → IsSomeAnd o (λ whole. bytes ≡ whole)
ends_file None bytes begins done = done
ends_file (Some whole) bytes begins done = ends whole bytes begins done

shorter_file : (o : Option (List ℕ)) (bytes : List ℕ) (limit : ℕ) → BeginsFile o bytes → limit < length bytes → IsSomeAnd o (λ whole. limit < length whole)
shorter_file None bytes limit begins above = let none : length bytes ≡ 0 = ap length begins in absurd (omega arith)
shorter_file (Some whole) bytes limit begins above = shorter whole bytes limit begins above

begins_file : (o : Option (List ℕ)) → BeginsFile o []
begins_file None = refl
begins_file (Some whole) = refl

-- no byte begins each file
pub Begins-nothing : (files : Option Contents) (name bytes : List ℕ) → bytes ≡ [] → Begins files name bytes
Begins-nothing None name bytes none = record { known = tt }
Begins-nothing (Some files) name bytes none = record { known = subst (λ x. BeginsFile (files name) x) (sym none) (begins_file (files name)) }

-- the next n bytes, from the place `at` where the beginning ends
pub Begins-longer : (files : Option Contents) (name old new : List ℕ) (at n : ℕ) → at ≡ length old → Begins files name old → FileMeets files name (λ whole. new ≡ old ++ take n (drop at whole)) → Begins files name new
Begins-longer None name old new at n place begins added = record { known = tt }
Begins-longer (Some files) name old new at n place begins added = record {
  known = longer_file (files name) old new n begins.known (subst (λ x. IsSomeAnd (files name) (λ whole. new ≡ old ++ take n (drop x whole))) place added);
}

-- where no byte came, the beginning is the whole file
pub Begins-ends : (files : Option Contents) (name bytes : List ℕ) (at n : ℕ) → at ≡ length bytes → n ≡ 0 → Begins files name bytes → FileMeets files name (λ whole. at < length whole → 0 < n) → FileMeets files name (λ whole. bytes ≡ whole)
Begins-ends None name bytes at n place none begins done = tt
Begins-ends (Some files) name bytes at n place none begins done =
    let done : IsSomeAnd (files name) (λ whole. length bytes < length whole → 0 < n) = subst (λ x. IsSomeAnd (files name) (λ whole. x < length whole → 0 < n)) place done in
    ends_file (files name) bytes begins.known (subst (λ x. IsSomeAnd (files name) (λ whole. length bytes < length whole → 0 < x)) none done)

-- the whole file is longer than what its beginning passes
pub Begins-shorter : (files : Option Contents) (name bytes : List ℕ) (limit : ℕ) → Begins files name bytes → limit < length bytes → FileMeets files name (λ whole. limit < length whole)
Begins-shorter None name bytes limit begins above = tt
Begins-shorter (Some files) name bytes limit begins above = shorter_file (files name) bytes limit begins.known above
